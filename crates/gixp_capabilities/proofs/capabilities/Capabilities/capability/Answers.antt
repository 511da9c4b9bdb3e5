-- The first capability that has the name.
use Rattle.std.proofs.Common.{rules, tests}
use Rattle.std.proofs.lemmas.Iterator.Consumers.{YieldsList-from_first}
use Rattle.std.proofs.lemmas.Iterator.Search.{find_from_yields_List}
use Rattle.gixp_capabilities.specs.Capabilities.{is_named}
use Rattle.gixp_capabilities.specs.Capability.{capability_value, capabilities_left}
use Rattle.gixp_capabilities.proofs.capabilities.Capabilities.capability.Goals as goal

pub returns : goal.returns
returns c =
    find_from_yields_List (is_named c.args.name.now) c.find.new.self _ _ c.find.ensures.ran
    (YieldsList-from_first capability_value capabilities_left {s = c.iter.result} c.args.self.now c.iter.ensures)
    (λ x b q k. search (rules, tests))
