-- The mappings of refs by a single refspec.
use Rattle.std.proofs.Common.{◌≡◌, ℕ, ◌+◌, List, [], ◌∷◌, ◌++◌, Option, Some, None, length, map, reverse, refl, ap, sym, ◌∙◌, subst}
use Rattle.std.specs.Prelude.{option_to_list}
use Rattle.std.specs.List.{slice_get, AllZip, flat_map, enumerate_from}
use Rattle.std.proofs.lemmas.List.{append-nil, append_assoc, length-append}
use Rattle.gixp_refs.specs.declared.handshake.Ref.{Ref}
use Rattle.gixp_refs.specs.Ref.{ref_value, unpacked_name}
use Rattle.gixp_matching.specs.Mappings.{Mapped}
use Rattle.gixp_refmap.specs.declared.refmap.mapping.Mapping.{Mapping}
use Rattle.gixp_refmap.specs.Mapping.{value_name, value_names}
use Rattle.gixp_refmap.specs.Made.{IsUnplaced}
use Rattle.gixp_refmap.proofs.ItemLemmas.{reversed_front}
use Rattle.gixp_refmap.proofs.UnplacedLemmas.{name_of_value}

zip_join : {A B : Type 0} (R : A → B → Type 0) (xs more : List A) (ys others : List B) → AllZip R xs ys → AllZip R more others
    → AllZip R (xs ++ more) (ys ++ others)
zip_join R [] more [] others h g = g
zip_join R [] more (y ∷ ys) others h g = absurd h
zip_join R (x ∷ xs) more [] others h g = absurd h
zip_join R (x ∷ xs) more (y ∷ ys) others h g = (h.0, zip_join R xs more ys others h.1 g)

reversed_grown : {A : Type 0} (more made : List A) (one : Option A) → more ≡ made ++ option_to_list one
    → reverse more ≡ option_to_list one ++ reverse made
reversed_grown more made None e = ap reverse (e ∙ append-nil made)
reversed_grown more made (Some x) e = reversed_front more made x e

between : {A B : Type 0} (f : A → B) (front back : List A) (x : A) → slice_get (map f (front ++ x ∷ back)) (length front) ≡ Some (f x)
between f [] back x = refl
between f (y ∷ front) back x = between f front back x

-- one more ref was taken
pub taken_more : (all before after gone : List Ref) (r : Ref) → all ≡ before ++ gone → before ≡ after ++ r ∷ [] → all ≡ after ++ r ∷ gone
taken_more all before after gone r e split = e ∙ ap (λ rs. rs ++ gone) split ∙ append_assoc after (r ∷ []) gone

-- the mappings with the one of one more ref, which comes before those that were compared
pub compared_more : (pairs : ℕ × List ℕ → List Mapped) (all before after gone : List Ref) (r : Ref) (one : Option Mapping)
    (made more : List Mapping) → all ≡ before ++ gone → before ≡ after ++ r ∷ [] → more ≡ made ++ option_to_list one
    → ((i : ℕ) → slice_get (map ref_value all) i ≡ Some (ref_value r)
    → AllZip (IsUnplaced (map ref_value all)) (pairs (i, unpacked_name r)) (option_to_list one))
    → AllZip (IsUnplaced (map ref_value all)) (flat_map pairs (enumerate_from (length before) (value_names (map ref_value gone))))
    (reverse made)
    → AllZip (IsUnplaced (map ref_value all)) (flat_map pairs (enumerate_from (length after) (value_names (map ref_value (r ∷ gone)))))
    (reverse more)
compared_more pairs all before after gone r one made more e split grown here kept =
    let refs = map ref_value all in
    let i = length after in
    let rest = value_names (map ref_value gone) in
    let there : slice_get refs i ≡ Some (ref_value r) = (
    ap (λ rs. slice_get (map ref_value rs) i) (taken_more all before after gone r e split) ∙ between ref_value after gone r) in
    let long : length before ≡ i + 1 = ap length split ∙ length-append after (r ∷ []) in
    let P : ℕ → Type 0 = λ n. AllZip (IsUnplaced refs) (flat_map pairs (enumerate_from n rest)) (reverse made) in
    let Q : List ℕ → Type 0 = λ name. AllZip (IsUnplaced refs) (pairs (i, name)) (option_to_list one) in
    let R : List Mapping → Type 0 = λ xs. AllZip (IsUnplaced refs)
    (flat_map pairs (enumerate_from i (value_names (map ref_value (r ∷ gone))))) xs in
    subst R (sym (reversed_grown more made one grown))
    (zip_join (IsUnplaced refs) (pairs (i, value_name (ref_value r))) (flat_map pairs (enumerate_from (i + 1) rest)) (option_to_list one)
    (reverse made) (subst Q (name_of_value r) (here i there)) (subst P long kept))
