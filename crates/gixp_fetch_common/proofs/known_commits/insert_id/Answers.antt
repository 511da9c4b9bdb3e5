-- The ids that were there stay, and one comes.
use Rattle.std.proofs.Common.{◌∙◌}
use Rattle.gixp_fetch_common.proofs.KnownLemmas.{keep_cond, added}
use Rattle.gixp_fetch_common.proofs.known_commits.insert_id.Goals as goal

pub returns-in-Ok-clause-keeps : goal.returns-in-Ok-clause-keeps
returns-in-Ok-clause-keeps c q h = c.in-Ok.ensures.updates.0 q ∙ keep_cond _ _ h

pub returns-in-Ok-clause-adds : goal.returns-in-Ok-clause-adds
returns-in-Ok-clause-adds c q h = added c.args.id.now q _ _ (c.in-Ok.ensures.updates.0 q) h
