use Rattle.std.proofs.Common.{◌∙◌}
use Rattle.gixp_updates.proofs.NoteLemmas.{is_id_by}
use Rattle.gixp_updates.proofs.refs.unmatched.is_id.Goals as goal

pub returns : goal.returns
returns c = c.is_some.ensures ∙ is_id_by c.args.source.now c.id_in.result c.id_in.ensures
