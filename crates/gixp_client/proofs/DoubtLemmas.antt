-- No id is in doubt.
use Rattle.std.proofs.Common.{◌≡◌, true, List, [], length, sym, subst}
use Rattle.std.specs.Prelude.{◌==◌}
use Rattle.std.proofs.lemmas.Bool.{eqb-true}
use Rattle.std.proofs.lemmas.List.{nil_from_length}
use Rattle.gixp_hash.specs.declared.object_id.ObjectId.{ObjectId}
use Rattle.gixp_graph.specs.Object.{Objects}
use Rattle.gixp_reachable.specs.Reached.{ShowsReached}

pub no_ids : (ids : List ObjectId) → (length ids == 0) ≡ true → ids ≡ []
no_ids ids e = nil_from_length ids (eqb-true (length ids) 0 e)

pub none_hidden : (objects reached : Objects) (tips doubted : List ObjectId) → doubted ≡ [] → ShowsReached objects tips [] reached
    → ShowsReached objects tips doubted reached
none_hidden objects reached tips doubted e h = subst (λ (x : List ObjectId). ShowsReached objects tips x reached) (sym e) h
