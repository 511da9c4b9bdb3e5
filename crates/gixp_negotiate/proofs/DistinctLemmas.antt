-- The set of ids.
use Rattle.std.proofs.Common.{◌≡◌, Bool, true, false, cond, List, [], ◌∷◌, ◌++◌, refl, sym, ap, ◌∙◌, ◌||◌}
use Rattle.std.specs.List.{list_any}
use Rattle.std.specs.BTreeMap.{is_at}
use Rattle.std.proofs.lemmas.List.Folds.{list_any-append}
use Rattle.std.proofs.lemmas.Map.Text.{is_eq-slice_cmp}
use Rattle.gixp_hash.specs.declared.object_id.ObjectId.{ObjectId}
use Rattle.gixp_hash.specs.ObjectId.{id_cmp}
use Rattle.gixp_negotiate.specs.Rounds.{is_same_id, has_id, keeping}
use Rattle.gixp_negotiate.specs.Distinct.{IsIndex}

same_at : (id q : ObjectId) → is_at (id_cmp id) q ≡ is_same_id id q
same_at id q = is_eq-slice_cmp id.bytes q.bytes

or_cond : (b had : Bool) → cond b true had ≡ (had || (b || false))
or_cond true true = refl
or_cond true false = refl
or_cond false true = refl
or_cond false false = refl

-- one more id
pub index_more : (keys more ids : List ObjectId) (id : ObjectId) → IsIndex keys ids → ((q : ObjectId) → list_any (is_at (id_cmp q)) more
    ≡ cond (is_at (id_cmp id) q) true (list_any (is_at (id_cmp q)) keys)) → IsIndex more (ids ++ id ∷ [])
index_more keys more ids id i u q =
    u q ∙ (ap (λ b. cond b true (list_any (is_at (id_cmp q)) keys)) (same_at id q)
    ∙ (ap (cond (is_same_id id q) true) (i q)
    ∙ (or_cond (is_same_id id q) (has_id ids q) ∙ sym (list_any-append (λ had. is_same_id had q) ids (id ∷ [])))))

-- an id that is among the ids, and one that isn't
pub kept_there : (ids : List ObjectId) (id : ObjectId) → has_id ids id ≡ true → ids ≡ keeping ids id
kept_there ids id e = ap (λ b. cond b ids (ids ++ id ∷ [])) (sym e)

pub kept_new : (ids : List ObjectId) (id : ObjectId) → has_id ids id ≡ false → ids ++ id ∷ [] ≡ keeping ids id
kept_new ids id e = ap (λ b. cond b ids (ids ++ id ∷ [])) (sym e)
