-- Source and local name of a mapping follow from its place.
use Rattle.std.proofs.Common.{◌≡◌, ℕ, ◌+◌, ◌<◌, ◌≤◌, Bool, true, false, cond, List, [], ◌∷◌, ◌++◌, Option, Some, None, length, map, get_or, ap, sym, ◌∙◌, refl, arith, append_assoc, length-append}
use Rattle.std.specs.Prelude.{◌||◌, option_to_list}
use Rattle.std.specs.Borrow.{Bor}
use Rattle.std.specs.Option.{option_copied, option_map, IfSome, MatchOption}
use Rattle.std.specs.List.{slice_get, flat_map, enumerate_from, AllByRecursion}
use Rattle.std.proofs.lemmas.Option.{slice_get-map, slice_get-get_or, slice_get_past}
use Rattle.gixp_hash.specs.ObjectId.{id_of}
use Rattle.gixp_refspec.specs.Spec.{Spec, is_negative}
use Rattle.gixp_refspec.specs.Matching.{middle_of, local_of}
use Rattle.gixp_matching.specs.Mappings.{Source, FullName, ObjectId, Mapped, mapped, id_mapping, id_mappings, pair, pairs_of, pairs, is_excluded}
use Rattle.gixp_matching.specs.Places.{repeated, place_of, id_places, places_with, FollowsFromPlace, made_at}
use Rattle.gixp_matching.proofs.ListLemmas.{map_of_flat_map, flat_map_same, stands_at}

-- ---- lists made of lists

module _ {B : Type 0} (P : B → Type 0) where
  all_appended : (xs ys : List B) → AllByRecursion P xs → AllByRecursion P ys → AllByRecursion P (xs ++ ys)
  all_appended [] ys h k = k
  all_appended (x ∷ xs) ys h k = (h.0, all_appended xs ys h.1 k)

  module _ {A : Type 0} (f : ℕ × A → List B) where
    all_from : (all done rest : List A) (k : ℕ) → all ≡ done ++ rest → k ≡ length done
        → ((i : ℕ) (x : A) → slice_get all i ≡ Some x → AllByRecursion P (f (i, x))) → AllByRecursion P (flat_map f (enumerate_from k rest))
    all_from all done [] k split e h = tt
    all_from all done (x ∷ rest) k split e h =
        all_appended (f (k, x)) (flat_map f (enumerate_from (k + 1) rest)) (h k x (stands_at all done rest x k split e))
        (all_from all (done ++ x ∷ []) rest (k + 1) (split ∙ sym (append_assoc done (x ∷ []) rest))
        (omega (arith, length-append done (x ∷ []), e)) h)

    -- a property of the results for each element and its index
    pub all_made : (all : List A) → ((i : ℕ) (x : A) → slice_get all i ≡ Some x → AllByRecursion P (f (i, x)))
        → AllByRecursion P (flat_map f (enumerate_from 0 all))
    all_made all h = all_from all [] all 0 refl refl h

-- an element that was read at an index
pub read_at : {A B : Type 0} (h : A → B) (xs : List A) (k : ℕ) (r : Option (Bor A)) (Q : Bor A → Type 0)
    → IfSome r (λ x. x.now ≡ get_or xs k x.now) → MatchOption r (length xs ≤ k) (λ x. (k < length xs) × Q x)
    → option_map h (option_copied r) ≡ slice_get (map h xs) k
read_at h xs k None Q read past = sym (slice_get-map h xs k ∙ ap (option_map h) (slice_get_past xs k past))
read_at h xs k (Some x) Q read within =
    sym (slice_get-map h xs k ∙ ap (option_map h) (slice_get-get_or xs k x.now within.0 ∙ ap Some (sym read)))

-- ---- the indices of mappings

pub ids_placed : (specs : List Spec) → flat_map id_places (enumerate_from 0 specs) ≡ map place_of (id_mappings specs)
ids_placed specs = map_of_flat_map place_of id_mapping (enumerate_from 0 specs)

pub pairs_placed : (specs : List Spec) (names : List (List ℕ)) → flat_map (places_with specs names) (enumerate_from 0 specs)
    ≡ map place_of (pairs specs names)
pairs_placed specs names =
    flat_map_same (places_with specs names) (λ s. map place_of (pairs_of specs names s))
    (λ s. map_of_flat_map place_of (pair specs s) (enumerate_from 0 names)) (enumerate_from 0 specs)
    ∙ map_of_flat_map place_of (pairs_of specs names) (enumerate_from 0 specs)

-- ---- each mapping

-- the mapping of a match follows from its place
pair_follows : (specs : List Spec) (names : List (List ℕ)) (k : ℕ) (s : Spec) (i : ℕ) (name : List ℕ) → slice_get specs k ≡ Some s
    → slice_get names i ≡ Some name → AllByRecursion (FollowsFromPlace specs names) (pair specs (k, s) (i, name))
unfolding pair
pair_follows specs names k s i name here at = by (is_negative s.sign || is_excluded specs name) (middle_of s.source name) refl
  where
    by : (b : Bool) (middle : Option (List ℕ)) → middle_of s.source name ≡ middle
        → AllByRecursion (FollowsFromPlace specs names)
        (cond b [] (option_to_list (option_map (λ m. mapped (Some i) (FullName name) (local_of s m) k) middle)))
    by true middle e = tt
    by false None e = tt
    by false (Some m) e = (record { source = at; local = sym (rw (here, e) refl) }, tt)

-- the mapping of an id follows from its place
id_follows : (specs : List Spec) (names : List (List ℕ)) (k : ℕ) (s : Spec) → slice_get specs k ≡ Some s
    → AllByRecursion (FollowsFromPlace specs names) (id_mapping (k, s))
unfolding id_mapping
id_follows specs names k s here = by (is_negative s.sign) (id_of s.source) refl
  where
    by : (b : Bool) (id : Option (List ℕ)) → id_of s.source ≡ id
        → AllByRecursion (FollowsFromPlace specs names)
        (cond b [] (option_to_list (option_map (λ bytes. mapped None (ObjectId bytes) (local_of s []) k) id)))
    by true id e = tt
    by false None e = tt
    by false (Some bytes) e = (record { source = rw here e; local = sym (rw here refl) }, tt)

-- each mapping follows from its place
pub repeated_follow : (specs : List Spec) (names : List (List ℕ)) → AllByRecursion (FollowsFromPlace specs names) (repeated specs names)
repeated_follow specs names =
    let P = FollowsFromPlace specs names in
    all_appended P (id_mappings specs) (pairs specs names) (all_made P id_mapping specs (λ k s here. id_follows specs names k s here))
    (all_made P (pairs_of specs names) specs
    (λ k s here. all_made P (pair specs (k, s)) names (λ i name at. pair_follows specs names k s i name here at)))

-- ---- mappings made from places

-- a mapping that follows from its place is made from it
remade : (specs : List Spec) (names : List (List ℕ)) (item : Option ℕ) (source : Source) (local : Option (List ℕ)) (spec : ℕ)
    → FollowsFromPlace specs names (mapped item source local spec) → made_at specs names (item, spec) ≡ Some (mapped item source local spec)
remade specs names (Some i) (FullName name) local spec h =
    rw h.source (ap (λ l. Some (mapped (Some i) (FullName name) l spec)) (sym h.local))
remade specs names (Some i) (ObjectId id) local spec h = absurd h.source
remade specs names None (FullName name) local spec h = absurd h.source
remade specs names None (ObjectId id) local spec h =
    rw h.source (ap (λ l. Some (mapped None (ObjectId id) l spec)) (sym h.local))

-- all mappings are made again from their places
pub remade_all : (specs : List Spec) (names : List (List ℕ)) (ms : List Mapped) → AllByRecursion (FollowsFromPlace specs names) ms
    → flat_map (λ place. option_to_list (made_at specs names place)) (map place_of ms) ≡ ms
remade_all specs names [] h = refl
remade_all specs names (m ∷ ms) h =
    ap (λ o. option_to_list o ++ flat_map (λ place. option_to_list (made_at specs names place)) (map place_of ms))
    (remade specs names m.item m.source m.local m.spec h.0)
    ∙ ap (λ l. m ∷ l) (remade_all specs names ms h.1)
