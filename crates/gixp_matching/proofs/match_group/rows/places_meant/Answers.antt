use Rattle.std.proofs.Common.{sym, subst}
use Rattle.std.proofs.lemmas.Result.{IfOk-weaker}
use Rattle.gixp_refspec.specs.Matching.{candidates}
use Rattle.gixp_matching.specs.Rows.{ArePlaces}
use Rattle.gixp_matching.proofs.PlaceLemmas.{places_are}
use Rattle.gixp_matching.proofs.match_group.rows.places_meant.Goals as goal

pub returns : goal.returns
unfolding candidates
returns c =
    IfOk-weaker c.in_order.result _ _
    (λ list h. subst (ArePlaces (candidates c.args.short.now) c.args.rows.now) (sym h)
    (places_are (candidates c.args.short.now) c.args.rows.now _ c.in_order.ensures.ordered c.in_ok-places.ensures))
    c.in_order.ensures.same
