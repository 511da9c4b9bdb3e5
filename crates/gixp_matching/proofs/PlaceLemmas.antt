-- The indices of the refs that a short name may mean.
use Rattle.std.proofs.Common.{◌≡◌, ℕ, ◌+◌, ◌<◌, ◌==◌, Bool, true, false, cond, List, [], ◌∷◌, ◌++◌, length, map, filter, get_or, ◌≤◌, Option, Some, None, Less, Equal, refl, sym, ap, ◌∙◌, append_assoc, subst, arith, length-append}
use Rattle.std.specs.Prelude.{◌||◌}
use Rattle.std.specs.Borrow.{Bor}
use Rattle.std.specs.BTreeSet.{BTreeSet, contains, IsOrdered}
use Rattle.std.specs.Cmp.{unsigned_tied, nat_cmp_is, ranked}
use Rattle.std.specs.List.{list_any, flat_map, slice_get, enumerate_from, AllByRecursion}
use Rattle.std.specs.List.Sorted.{IsStrictlySortedBy}
use Rattle.std.specs.Option.{option_map}
use Rattle.std.specs.Ordering.{nat_cmp, is_eq}
use Rattle.std.specs.Str.{bytes_eq}
use Rattle.std.proofs.lemmas.Bool.{or_left, or_right}
use Rattle.std.proofs.lemmas.Cmp.{nat_cmp_total}
use Rattle.std.proofs.lemmas.List.{append-nil}
use Rattle.std.proofs.lemmas.List.Folds.{list_any-append}
use Rattle.std.proofs.lemmas.Option.{slice_get-map, slice_get-get_or, slice_get_past}
use Rattle.std.proofs.lemmas.Map.Lookups.{btree_set_from_contains}
use Rattle.gixp_matching.specs.declared.match_group.rows.Row.{Row}
use Rattle.gixp_refspec.specs.declared.needle.Needle.TheVariants.{Short as the_short}
use Rattle.gixp_refspec.specs.Spec.{Spec, is_negative}
use Rattle.gixp_refspec.specs.Matching.{candidates, where_true}
use Rattle.gixp_matching.specs.Places.{pair_places, places_with}
use Rattle.gixp_refspec.specs.Needle.{IsNeedle}
use Rattle.gixp_matching.specs.Rows.{shown, is_row_of, meant, IsRowTable, AreSought, has_place, AddsPlaces, HasPlaces, ArePlaces, ref_at}
use Rattle.gixp_matching.specs.Sought.{sought_by, is_among}
use Rattle.gixp_matching.proofs.DistinctLemmas.{is_eq-reverse}
use Rattle.gixp_matching.proofs.FirstLemmas.{or_none}
use Rattle.gixp_matching.proofs.ListLemmas.{any_same, kept_same, stands_at}
use Rattle.gixp_packetline.proofs.ListLemmas.{any_of_map}
use Rattle.gixp_matching.proofs.NeedleLemmas.{middle_with-needle}
use Rattle.gixp_matching.proofs.PairLemmas.{pair_none}
use Rattle.gixp_matching.proofs.RowLemmas.{meant_none, flat_map-filter}
use Rattle.gixp_matching.proofs.SoughtLemmas.{itself, short_sought}

pub none_added : (set : BTreeSet ℕ) → AddsPlaces [] set set
none_added set place = sym (or_none (contains nat_cmp set place))

turned : (a b : Bool) → cond a true b ≡ (b || (a || false))
turned true true = refl
turned true false = refl
turned false true = refl
turned false false = refl

-- the index of one ref
pub place_added : (ref : ℕ × List ℕ) (old new : BTreeSet ℕ)
    → ((place : ℕ) → contains nat_cmp new place ≡ cond (is_eq (nat_cmp ref.0 place)) true (contains nat_cmp old place))
    → AddsPlaces (ref ∷ []) old new
place_added ref old new step place =
    step place ∙ ap (λ b. cond b true (contains nat_cmp old place)) (unsigned_tied ref.0 place)
    ∙ turned (ref.0 == place) (contains nat_cmp old place)

or_again : (a b c : Bool) → ((a || b) || c) ≡ (a || (b || c))
or_again true b c = refl
or_again false b c = refl

-- the indices of more refs
pub places_added : (refs more : List (ℕ × List ℕ)) (old now new : BTreeSet ℕ) → AddsPlaces refs old now → AddsPlaces more now new
    → AddsPlaces (refs ++ more) old new
places_added refs more old now new kept step place =
    step place ∙ ap (λ b. b || has_place place more) (kept place)
    ∙ or_again (contains nat_cmp old place) (has_place place refs) (has_place place more)
    ∙ ap (λ b. contains nat_cmp old place || b) (sym (list_any-append (λ (r : ℕ × List ℕ). r.0 == place) refs more))

-- an empty set has the indices of no name
pub no_places : (all : List (List ℕ)) (set : BTreeSet ℕ) (place : ℕ) → set.keys ≡ []
    → contains nat_cmp set place ≡ has_place place (meant all [])
no_places all set place h = rw h (ap (has_place place) (meant_none all))

both_have : (q f a b : Bool) → f ≡ (a || b) → (q || f) ≡ ((q || a) || (q || b))
both_have true f a b h = refl
both_have false f a b h = h

first_has : (q f a b : Bool) → f ≡ (a || b) → (q || f) ≡ ((q || a) || b)
first_has true f a b h = refl
first_has false f a b h = h

second_has : (q f a b : Bool) → f ≡ (a || b) → (q || f) ≡ (a || (q || b))
second_has true f true b h = refl
second_has true f false b h = refl
second_has false f a b h = h

-- an element is found among those that pass one of two tests
any_of_either : {X : Type 0} (p a b : X → Bool) (xs : List X) → list_any p (filter (λ x. a x || b x) xs)
    ≡ (list_any p (filter a xs) || list_any p (filter b xs))
any_of_either p a b [] = refl
any_of_either {X} p a b (x ∷ xs) = at (a x) (b x) (any_of_either p a b xs)
  where
    at : (c d : Bool) → list_any p (filter (λ y. a y || b y) xs) ≡ (list_any p (filter a xs) || list_any p (filter b xs))
        → list_any p (cond (c || d) (x ∷ filter (λ y. a y || b y) xs) (filter (λ y. a y || b y) xs))
        ≡ (list_any p (cond c (x ∷ filter a xs) (filter a xs)) || list_any p (cond d (x ∷ filter b xs) (filter b xs)))
    at true true h = both_have (p x) _ _ _ h
    at true false h = first_has (p x) _ _ _ h
    at false true h = second_has (p x) _ _ _ h
    at false false h = h

-- the indices of one more name
pub places_more : (wanted all texts : List (List ℕ)) (text : List ℕ) (rows run : List Row) (now new : BTreeSet ℕ)
    → IsRowTable wanted all rows → is_among wanted text ≡ true
    → ((place : ℕ) → contains nat_cmp now place ≡ has_place place (meant all texts)) → run ≡ filter (is_row_of text) rows
    → AddsPlaces (map shown run) now new
    → (place : ℕ) → contains nat_cmp new place ≡ has_place place (meant all (texts ++ text ∷ []))
places_more wanted all texts text rows run now new table has kept was step place =
    let refs = enumerate_from 0 all in
    let before : ℕ × List ℕ → Bool = λ ref. list_any (λ t. bytes_eq ref.1 t) texts in
    let here : ℕ × List ℕ → Bool = λ ref. bytes_eq ref.1 text in
    let both = kept_same (λ ref. list_any (λ t. bytes_eq ref.1 t) (texts ++ text ∷ [])) (λ ref. before ref || here ref)
    (λ ref. list_any-append (λ t. bytes_eq ref.1 t) texts (text ∷ []) ∙ ap (λ b. before ref || b) (or_none (here ref))) refs in
    let its : map shown run ≡ filter here refs = ap (map shown) was ∙ table.has_all text has in
    step place ∙ ap (λ b. b || has_place place (map shown run)) (kept place)
    ∙ ap (λ l. has_place place (meant all texts) || has_place place l) its
    ∙ sym (ap (has_place place) both ∙ any_of_either (λ (ref : ℕ × List ℕ). ref.0 == place) before here refs)

-- ---- in ascending order

less_from : (j k : ℕ) → j < k → nat_cmp j k ≡ Less
less_from j k l = sym (nat_cmp_is j k Less l)

-- the indices of refs from one on are above those before it
above : (q : ℕ × List ℕ → Bool) (j k : ℕ) (xs : List (List ℕ)) → j < k
    → AllByRecursion (λ y. nat_cmp j y ≡ Less) (map (λ ref. ref.0) (filter q (enumerate_from k xs)))
above q j k [] l = tt
above q j k (x ∷ xs) l = at (q (k, x)) (above q j (k + 1) xs (omega arith))
  where
    at : (b : Bool) → AllByRecursion (λ y. nat_cmp j y ≡ Less) (map (λ ref. ref.0) (filter q (enumerate_from (k + 1) xs)))
        → AllByRecursion (λ y. nat_cmp j y ≡ Less)
        (map (λ ref. ref.0) (cond b ((k, x) ∷ filter q (enumerate_from (k + 1) xs)) (filter q (enumerate_from (k + 1) xs))))
    at true h = (less_from j k l, h)
    at false h = h

rising : (q : ℕ × List ℕ → Bool) (k : ℕ) (xs : List (List ℕ))
    → IsStrictlySortedBy nat_cmp (map (λ ref. ref.0) (filter q (enumerate_from k xs)))
unfolding IsStrictlySortedBy
rising q k [] = tt
rising q k (x ∷ xs) = at (q (k, x)) (rising q (k + 1) xs)
  where
    at : (b : Bool) → IsStrictlySortedBy nat_cmp (map (λ ref. ref.0) (filter q (enumerate_from (k + 1) xs)))
        → IsStrictlySortedBy nat_cmp (map (λ ref. ref.0)
        (cond b ((k, x) ∷ filter q (enumerate_from (k + 1) xs)) (filter q (enumerate_from (k + 1) xs))))
    at true h = (above q k (k + 1) xs (omega arith), h)
    at false h = h

same_place : (p q : ℕ) → is_eq (nat_cmp q p) ≡ (p == q)
same_place p q = ap is_eq (nat_cmp_total.antisymm q p) ∙ is_eq-reverse (nat_cmp p q) ∙ unsigned_tied p q

-- the numbers of the set are these indices in order
pub places_are : (texts : List (List ℕ)) (rows : List Row) (set : BTreeSet ℕ) → IsOrdered nat_cmp set → HasPlaces texts rows set
    → ArePlaces texts rows set.keys
places_are texts rows set up has wanted all table within =
    let q : ℕ × List ℕ → Bool = λ ref. list_any (λ text. bytes_eq ref.1 text) texts in
    let refs = meant all texts in
    let t : BTreeSet ℕ = record { keys = map (λ ref. ref.0) refs } in
    btree_set_from_contains nat_cmp_total set t up (rising q 0 all)
    (λ place. has wanted all table within place
    ∙ sym (any_of_map (λ p. is_eq (nat_cmp place p)) (λ (ref : ℕ × List ℕ). ref.0) refs
    ∙ any_same (λ (ref : ℕ × List ℕ). is_eq (nat_cmp place ref.0)) (λ ref. ref.0 == place) (λ ref. same_place ref.0 place) refs))
    (λ x y h. ranked x y Equal (sym h))

-- ---- the refs at the indices

-- no ref has an index past the last one
pub no_ref : {X : Type 0} (h : X → List ℕ) (xs : List X) (k : ℕ) → length xs ≤ k → ref_at (map h xs) k ≡ []
no_ref h xs k l =
    let none : slice_get (map h xs) k ≡ None = slice_get-map h xs k ∙ ap (option_map h) (slice_get_past xs k l) in
    rw none refl

-- each other index has a ref
pub one_ref : {X : Type 0} (h : X → List ℕ) (xs : List X) (k : ℕ) (x : X) → k < length xs → x ≡ get_or xs k x
    → ref_at (map h xs) k ≡ (k, h x) ∷ []
one_ref h xs k x l e =
    let one : slice_get (map h xs) k ≡ Some (h x) = slice_get-map h xs k
    ∙ ap (option_map h) (slice_get-get_or xs k x l ∙ ap Some (sym e)) in
    rw one refl

the_ref : (all front xs : List (List ℕ)) (x : List ℕ) (k : ℕ) → all ≡ front ++ x ∷ xs → k ≡ length front → ref_at all k ≡ (k, x) ∷ []
the_ref all front xs x k h e =
    let found = stands_at all front xs x k h e in
    rw found refl

-- the results for the refs at these indices are those for the refs
refs_at : {B : Type 0} (f : ℕ × List ℕ → List B) (q : ℕ × List ℕ → Bool) (all front xs : List (List ℕ)) (k : ℕ) → all ≡ front ++ xs
    → k ≡ length front
    → flat_map (λ place. flat_map f (ref_at all place)) (map (λ ref. ref.0) (filter q (enumerate_from k xs)))
    ≡ flat_map f (filter q (enumerate_from k xs))
refs_at f q all front [] k h e = refl
refs_at {B} f q all front (x ∷ xs) k h e =
    at (q (k, x)) (refs_at f q all (front ++ x ∷ []) xs (k + 1) (h ∙ sym (append_assoc front (x ∷ []) xs))
    (omega (arith, length-append front (x ∷ []), e)))
  where
    at : (b : Bool) → flat_map (λ place. flat_map f (ref_at all place)) (map (λ ref. ref.0) (filter q (enumerate_from (k + 1) xs)))
        ≡ flat_map f (filter q (enumerate_from (k + 1) xs))
        → flat_map (λ place. flat_map f (ref_at all place))
        (map (λ ref. ref.0) (cond b ((k, x) ∷ filter q (enumerate_from (k + 1) xs)) (filter q (enumerate_from (k + 1) xs))))
        ≡ flat_map f (cond b ((k, x) ∷ filter q (enumerate_from (k + 1) xs)) (filter q (enumerate_from (k + 1) xs)))
    at true more =
        ap (λ l. flat_map f l ++ flat_map (λ place. flat_map f (ref_at all place))
        (map (λ ref. ref.0) (filter q (enumerate_from (k + 1) xs)))) (the_ref all front xs x k h e)
        ∙ ap (λ l. l ++ flat_map (λ place. flat_map f (ref_at all place)) (map (λ ref. ref.0) (filter q (enumerate_from (k + 1) xs))))
        (append-nil (f (k, x)))
        ∙ ap (λ l. f (k, x) ++ l) more
    at false more = more

-- a short name has the places of the refs that it may mean
pub short_placed : (specs : List Spec) (wanted all : List (List ℕ)) (s : ℕ × Spec) (name : Bor (List ℕ)) (rows : List Row) (places : List ℕ)
    (now new : List (Option ℕ × ℕ)) → IsNeedle s.1.source (the_short name) → is_negative s.1.sign ≡ false → IsRowTable wanted all rows
    → AreSought wanted (sought_by s.1) → ArePlaces (candidates name.now) rows places
    → new ≡ now ++ flat_map (λ place. flat_map (pair_places specs s) (ref_at all place)) places
    → new ≡ now ++ places_with specs all s
short_placed specs wanted all s name rows places now new made positive table has was step =
    step ∙ ap (λ l. now ++ flat_map (λ place. flat_map (pair_places specs s) (ref_at all place)) l)
    (was wanted all table (subst (AreSought wanted) (short_sought s.1 name positive made) has))
    ∙ ap (λ l. now ++ l) (refs_at (pair_places specs s)
    (λ ref. list_any (λ text. bytes_eq ref.1 text) (candidates name.now)) all [] all 0 refl refl)
    ∙ ap (λ l. now ++ l) (flat_map-filter (pair_places specs s) (λ ref. list_any (λ text. bytes_eq ref.1 text) (candidates name.now))
    (λ ref other. sym (pair_none specs s ref (sym (middle_with-needle s.1.source ref.1 (the_short name) made) ∙ ap where_true other)))
    (enumerate_from 0 all))

-- where a list of texts and one more are looked up, so are both parts
pub sought_front : (wanted texts : List (List ℕ)) (text : List ℕ) → AreSought wanted (texts ++ text ∷ []) → AreSought wanted texts
sought_front wanted texts text has t is = has t (list_any-append (λ other. bytes_eq t other) texts (text ∷ []) ∙ or_left _ _ is)

pub sought_last : (wanted texts : List (List ℕ)) (text : List ℕ) → AreSought wanted (texts ++ text ∷ []) → is_among wanted text ≡ true
sought_last wanted texts text has =
    has text (list_any-append (λ other. bytes_eq text other) texts (text ∷ []) ∙ or_right _ _ (or_left _ _ (itself text)))
