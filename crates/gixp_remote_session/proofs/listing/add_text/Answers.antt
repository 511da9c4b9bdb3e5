use Rattle.gixp_updates.proofs.NamedLemmas.{name_added}
use Rattle.gixp_remote_session.proofs.listing.add_text.Goals as goal

pub returns : goal.returns
returns c = λ text. name_added c.args.names.now c.insert.new.self c.args.name text c.in_ok-insert.ensures.updates
