-- A list of ids and its set.
use Rattle.std.proofs.Common.{◌≡◌, ◌∙◌, Bool, true, false, cond, refl}
use Rattle.std.specs.Prelude.{◌||◌}
use Rattle.std.specs.BTreeSet.{BTreeSet, Updates, contains}
use Rattle.std.specs.Ordering.{eq_by_cmp}
use Rattle.gixp_hash.specs.ObjectId.{id_cmp}
use Rattle.gixp_hash.specs.declared.object_id.ObjectId.{ObjectId}

cond_or : (b c : Bool) → cond b true c ≡ (b || c)
cond_or true c = refl
cond_or false c = refl

pub id_added : (old new : BTreeSet ObjectId) (id q : ObjectId) → Updates id_cmp old new id true
    → contains id_cmp new q ≡ (eq_by_cmp id_cmp id q || contains id_cmp old q)
id_added old new id q u = u.0 q ∙ cond_or (eq_by_cmp id_cmp id q) (contains id_cmp old q)
