-- The local names of mappings, and their set.
use Rattle.std.proofs.Common.{◌≡◌, ℕ, Bool, true, false, cond, List, refl, ap, ◌∙◌}
use Rattle.std.specs.Prelude.{◌||◌}
use Rattle.std.specs.Borrow.{Bor}
use Rattle.std.specs.BTreeSet.{BTreeSet, Updates}
use Rattle.std.specs.Str.{bytes_eq}
use Rattle.std.specs.Ordering.{nat_cmp}
use Rattle.std.specs.Cmp.Lexicographic.{slice_cmp}
use Rattle.std.proofs.lemmas.Map.Text.{is_eq-slice_cmp}
use Rattle.gixp_client.specs.Changes.{has_key}

pub cond_or : (b c : Bool) → cond b true c ≡ (b || c)
cond_or true c = refl
cond_or false c = refl

pub name_added : (keys new : BTreeSet (Bor (List ℕ))) (k : Bor (List ℕ)) (text name : List ℕ)
    → Updates (λ (x y : Bor (List ℕ)). slice_cmp nat_cmp x.now y.now) keys new k true → k.now ≡ text
    → has_key new name ≡ (bytes_eq text name || has_key keys name)
name_added keys new k text name u e =
    u.0 (record { ref_ptr = (0, 0); now = name })
    ∙ ap (λ b. cond b true (has_key keys name)) (is_eq-slice_cmp k.now name ∙ ap (λ t. bytes_eq t name) e)
    ∙ cond_or (bytes_eq text name) (has_key keys name)
