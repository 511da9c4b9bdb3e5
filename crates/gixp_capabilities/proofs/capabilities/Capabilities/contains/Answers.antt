-- Some capability has the name.
use Rattle.std.proofs.Common.{rules, tests}
use Rattle.std.proofs.lemmas.Iterator.Consumers.{YieldsList-from_first}
use Rattle.std.proofs.lemmas.Iterator.Search.{any_from_yields_List}
use Rattle.gixp_capabilities.specs.Capabilities.{is_named}
use Rattle.gixp_capabilities.specs.Capability.{capability_value, capabilities_left}
use Rattle.gixp_capabilities.proofs.capabilities.Capabilities.contains.Goals as goal

pub returns : goal.returns
returns c =
    any_from_yields_List (is_named c.args.name.now) c.any.new.self _ _ c.any.ensures.ran
    (YieldsList-from_first capability_value capabilities_left {s = c.iter.result} c.args.self.now c.iter.ensures)
    (λ x b q k. search (rules, tests))
