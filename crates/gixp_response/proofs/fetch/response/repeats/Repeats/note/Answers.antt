-- One more row if a commit is named, and one more flag.
use Rattle.std.proofs.Common.{◌∙◌, ap, ◌++◌, ◌∷◌, [], true}
use Rattle.gixp_response.proofs.CommonLemmas.{noted_more}
use Rattle.gixp_response.proofs.fetch.response.repeats.Repeats.note.Goals as goal

pub returns : goal.returns
returns c had h =
    noted_more had c.args.found c.args.self.now _ h c.in_ok-push_row.ensures.rows
    (c.in_ok-push.ensures.items ∙ ap (λ flags. flags ++ true ∷ []) c.in_ok-push_row.ensures.flags)
