use Rattle.bstr.specs.Owned.{bstring_bytes}
use Rattle.gixp_matching.proofs.SoughtLemmas.{name_added}
use Rattle.gixp_matching.proofs.match_group.sought.add_name.Goals as goal

pub returns : goal.returns
returns c = λ text.
    name_added c.args.set.now c.insert.new.self c.as_bytes.result (bstring_bytes c.args.name.now) text
    c.in_ok-insert.ensures.updates c.as_bytes.ensures
