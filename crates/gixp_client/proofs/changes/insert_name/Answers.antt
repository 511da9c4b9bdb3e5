use Rattle.bstr.specs.Owned.{bstring_bytes}
use Rattle.gixp_client.proofs.ChangeLemmas.{name_added}
use Rattle.gixp_client.proofs.changes.insert_name.Goals as goal

pub returns : goal.returns
returns c = λ text.
    name_added c.args.names.now c.insert.new.self c.as_bytes.result (bstring_bytes c.args.name.now) text
    c.in_ok-insert.ensures.updates c.as_bytes.ensures
