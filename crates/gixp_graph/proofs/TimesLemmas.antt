-- Lists of links in one vector, and the map of them.
use Rattle.std.proofs.Common.{arith, ◌≡◌, ℕ, ℤ, ◌+◌, ◌-◌, ◌<◌, ◌≤◌, ◌∙◌, ◌⊎◌, ⊎_elim, zero, suc, Bool, true, false, cond, List, [], ◌∷◌, ◌++◌, map, length, length-append, Option, Some, None, refl, sym, ap, subst, append_assoc}
use Rattle.std.specs.declared.cmp.Ordering.{Ordering}
use Rattle.std.specs.declared.cmp.Ordering.TheVariants.{Less, Equal, Greater}
use Rattle.std.specs.Ordering.{int_cmp, is_eq, is_lt, match_ordering, MatchOrdering}
use Rattle.std.specs.Map.{lookup, remove_entry, keys_of, values_of}
use Rattle.std.specs.BTreeMap.{is_at, insert_entry}
use Rattle.std.specs.List.{flat_map}
use Rattle.std.specs.List.Sorted.{IsPermutation}
use Rattle.std.proofs.lemmas.Map.Lookups.{exact_signed}
use Rattle.std.proofs.lemmas.Map.Views.{All-map-remove_entry, All-values-insert_entry, IfSome-lookup_from_All}
use Rattle.std.proofs.lemmas.List.Sorted.{All-permutation, IsPermutation-refl, IsPermutation-trans, IsPermutation-append_right, IsPermutation-append_left, IsPermutation-append_comm, IsPermutation-cons, IsPermutation-sym, IsPermutation-middle}
use Rattle.std.proofs.lemmas.List.Elements.{All-nil, All-cons, All-head, All-tail, All-append, All-map, All-weaker}
use Rattle.std.proofs.lemmas.Grind.{flat_map-append}
use Rattle.std.proofs.lemmas.List.{append-nil}
use Rattle.std.proofs.Math.ListN.{get_or-append}
use Rattle.std.proofs.Math.Seq.{get_or-append_seam}
use Rattle.std.proofs.lemmas.Cmp.{int_ranked}
use Rattle.std.proofs.lemmas.Int.{ints}
use lib.Signed.{◌<ℤ◌}
use Rattle.std.specs.Prelude.{All, ◌≤ℤ◌, IfSome, IfNone, Result, Ok, Err, OnOk, OnErr}
use Rattle.gixp_graph.specs.declared.queue.Entry.{Entry}
use Rattle.gixp_graph.specs.declared.times.Link.{Link}
use Rattle.gixp_graph.specs.Queue.{entry_at}
use Rattle.gixp_graph.specs.Times.{link_at, IsLinked, numbers_from, numbers_of, entries_of, entries_in, all_entries, with_list, EndsWithin, AllEnd, IsTimes, IsRest, TakesList}
use Rattle.gixp_graph.proofs.NodeLemmas.{nat_cases}

-- the default for an index past the end
abbrev none : Link
none = record { number = 0; next = 0 }

-- ---- lists through the links

module _ (links : List Link) (linked : IsLinked links) where
  -- a list has no more links than there are before its end
  pub enough : (f g n : ℕ) → n ≤ f → n ≤ g → n ≤ length links → numbers_from f links n ≡ numbers_from g links n
  unfolding numbers_from
  enough zero zero n a b l = refl
  enough zero (suc g) zero a b l = refl
  enough zero (suc g) (suc i) a b l = absurd (omega arith)
  enough (suc f) zero zero a b l = refl
  enough (suc f) zero (suc i) a b l = absurd (omega arith)
  enough (suc f) (suc g) zero a b l = refl
  enough (suc f) (suc g) (suc i) a b l =
      let back : (link_at links i).next ≤ i = linked i (omega arith) in
      ap (λ ns. (link_at links i).number ∷ ns)
      (enough f g (link_at links i).next (omega arith) (omega arith) (omega arith))

  -- a new link changes no list
  pub kept : (x : Link) (f n : ℕ) → n ≤ length links → numbers_from f (links ++ x ∷ []) n ≡ numbers_from f links n
  unfolding numbers_from
  kept x zero n l = refl
  kept x (suc f) zero l = refl
  kept x (suc f) (suc i) l =
      let back : (link_at links i).next ≤ i = linked i (omega arith) in
      ap (λ (k : Link). k.number ∷ numbers_from f (links ++ x ∷ []) k.next) (get_or-append links (x ∷ []) none i (omega arith))
      ∙ ap (λ ns. (link_at links i).number ∷ ns) (kept x f (link_at links i).next (omega arith))

  pub numbers_kept : (x l : Link) → EndsWithin links l → numbers_of (links ++ x ∷ []) l ≡ numbers_of links l
  unfolding numbers_of
  numbers_kept x l e = ap (λ ns. l.number ∷ ns) (kept x l.next l.next e)

  -- the rest of a longer list is the list before
  more_at : (l : Link) → EndsWithin links l → numbers_from (suc (length links)) (links ++ l ∷ []) (suc (length links)) ≡ numbers_of links l
  unfolding numbers_from numbers_of
  more_at l e =
      ap (λ (k : Link). k.number ∷ numbers_from (length links) (links ++ l ∷ []) k.next) (get_or-append_seam links l [] none)
      ∙ ap (λ ns. l.number ∷ ns) (kept l (length links) l.next e ∙ enough (length links) l.next l.next e (omega arith) e)

  pub numbers_more : (l : Link) (n : ℕ) → EndsWithin links l → numbers_of (links ++ l ∷ []) (record { number = n; next = length links + 1 })
      ≡ n ∷ numbers_of links l
  unfolding numbers_of
  numbers_more l n e =
      let one : suc (length links) ≡ length links + 1 = omega arith in
      ap (λ ns. n ∷ ns) (subst (λ m. numbers_from m (links ++ l ∷ []) m ≡ numbers_of links l) one (more_at l e))

  -- the links still go back
  pub linked_more : (l : Link) → EndsWithin links l → IsLinked (links ++ l ∷ [])
  linked_more l e i b = ⊎_elim
      (λ here. subst (λ j. (link_at (links ++ l ∷ []) j).next ≤ j) (sym here)
      (subst (λ (k : Link). k.next ≤ length links) (sym (get_or-append_seam links l [] none)) e))
      (λ before.
      let within : i < length links = omega (arith, length-append links (l ∷ [])) in
      subst (λ (k : Link). k.next ≤ i) (sym (get_or-append links (l ∷ []) none i within)) (linked i within))
      (nat_cases i (length links))

  -- a list without a next link has one number
  pub numbers_one : (l : Link) → l.next ≡ 0 → numbers_of links l ≡ l.number ∷ []
  unfolding numbers_of numbers_from
  numbers_one l e = ap (λ ns. l.number ∷ ns) (subst (λ m. numbers_from m links m ≡ []) (sym e) refl)

  -- a list with a next link has its number and the rest's
  rest_at : (next : ℕ) (r : Link) → next ≤ length links → 0 < next → link_at links (next - 1) ≡ r
      → numbers_from next links next ≡ numbers_of links r
  unfolding numbers_from numbers_of
  rest_at zero r a b e = absurd (omega arith)
  rest_at (suc i) r a b e =
      let one : i ≡ suc i - 1 = omega arith in
      let back : (link_at links i).next ≤ i = linked i (omega arith) in
      ap (λ ns. (link_at links i).number ∷ ns) (enough i (link_at links i).next (link_at links i).next back (omega arith) (omega arith))
      ∙ ap (λ (k : Link). k.number ∷ numbers_from k.next links k.next) (ap (link_at links) one ∙ e)

  pub numbers_rest : (l r : Link) → EndsWithin links l → 0 < l.next → link_at links (l.next - 1) ≡ r → numbers_of links l
      ≡ l.number ∷ numbers_of links r
  unfolding numbers_of
  numbers_rest l r e b is = ap (λ ns. l.number ∷ ns) (rest_at l.next r e b is)

  -- the rest of a list continues within the links
  pub ends_rest : (l r : Link) → EndsWithin links l → 0 < l.next → link_at links (l.next - 1) ≡ r → EndsWithin links r
  ends_rest l r e b is =
      let back : (link_at links (l.next - 1)).next ≤ l.next - 1 = linked (l.next - 1) (omega arith) in
      let same : (link_at links (l.next - 1)).next ≡ r.next = ap (λ (k : Link). k.next) is in
      omega arith

  -- the entries of a map stay the same after a link is appended
  pub entries_kept : (x : Link) (es : List (ℤ × Link)) → AllEnd links es → entries_in (links ++ x ∷ []) es ≡ entries_in links es
  unfolding entries_in
  entries_kept x [] h = refl
  entries_kept x (e ∷ es) h =
      ap (λ ns. map (entry_at e.0) ns ++ flat_map (entries_of (links ++ x ∷ [])) es)
      (numbers_kept x e.1 (All-head (EndsWithin links) e.1 (values_of es) h))
      ∙ ap (λ ws. map (entry_at e.0) (numbers_of links e.1) ++ ws) (entries_kept x es (All-tail (EndsWithin links) e.1 (values_of es) h))

-- lists continue within more links too
pub ends_more : (links : List Link) (x : Link) (es : List (ℤ × Link)) → AllEnd links es → AllEnd (links ++ x ∷ []) es
ends_more links x es h = All-weaker (EndsWithin links) (EndsWithin (links ++ x ∷ []))
    (λ l e. omega (arith, length-append links (x ∷ []))) (values_of es) h

-- ---- the map

turn : (a b c : List Entry) → IsPermutation (a ++ (b ++ c)) (b ++ (a ++ c))
turn a b c = subst (λ l. IsPermutation l (b ++ (a ++ c))) (append_assoc a b c)
    (subst (λ l. IsPermutation ((a ++ b) ++ c) l) (append_assoc b a c)
    (IsPermutation-append_left c (a ++ b) (b ++ a) (IsPermutation-append_comm a b)))

tied : (o : Ordering) → is_eq o ≡ true → o ≡ Equal
tied Less e = cc
tied Equal e = refl
tied Greater e = cc

module _ (links : List Link) where
  -- removing a time removes its entries
  pub entries_remove : (es : List (ℤ × Link)) (t : ℤ) (l : Link) → lookup (is_at (int_cmp t)) es ≡ Some l
      → IsPermutation (entries_in links es) (entries_of links (t, l) ++ entries_in links (remove_entry (is_at (int_cmp t)) es))
  unfolding entries_in
  entries_remove [] t l e = cc
  entries_remove (x ∷ xs) t l e = at (λ h. entries_remove xs t l h) (is_eq (int_cmp t x.0)) refl e
    where
      at : (lookup (is_at (int_cmp t)) xs ≡ Some l → IsPermutation (flat_map (entries_of links) xs)
          (entries_of links (t, l) ++ flat_map (entries_of links) (remove_entry (is_at (int_cmp t)) xs))) → (b : Bool)
          → is_eq (int_cmp t x.0) ≡ b → cond b (Some x.1) (lookup (is_at (int_cmp t)) xs) ≡ Some l
          → IsPermutation (entries_of links x ++ flat_map (entries_of links) xs)
          (entries_of links (t, l) ++ flat_map (entries_of links) (cond b xs (x ∷ remove_entry (is_at (int_cmp t)) xs)))
      at rest true s e =
          let time : t ≡ x.0 = exact_signed t x.0 (tied (int_cmp t x.0) s) in
          let same : x.1 ≡ l = cc in
          subst (λ (k : Link). IsPermutation (entries_of links x ++ flat_map (entries_of links) xs)
          (entries_of links (t, k) ++ flat_map (entries_of links) xs)) same
          (subst (λ z. IsPermutation (entries_of links x ++ flat_map (entries_of links) xs)
          (entries_of links (z, x.1) ++ flat_map (entries_of links) xs)) (sym time)
          (IsPermutation-refl (entries_of links x ++ flat_map (entries_of links) xs)))
      at rest false s e = IsPermutation-trans _ _ _ (IsPermutation-append_right (entries_of links x) _ _ (rest e))
          (turn (entries_of links x) (entries_of links (t, l)) (flat_map (entries_of links) (remove_entry (is_at (int_cmp t)) xs)))

  -- inserting a time inserts its entries
  pub entries_insert : (es : List (ℤ × Link)) (t : ℤ) (l : Link) → lookup (is_at (int_cmp t)) es ≡ None
      → IsPermutation (entries_of links (t, l) ++ entries_in links es) (entries_in links (insert_entry int_cmp es t l))
  unfolding entries_in
  entries_insert [] t l e = IsPermutation-refl (entries_of links (t, l) ++ [])
  entries_insert (x ∷ xs) t l e = at (λ h. entries_insert xs t l h) (int_cmp t x.0) e
    where
      at : (lookup (is_at (int_cmp t)) xs ≡ None → IsPermutation (entries_of links (t, l) ++ flat_map (entries_of links) xs)
          (flat_map (entries_of links) (insert_entry int_cmp xs t l))) → (o : Ordering)
          → cond (is_eq o) (Some x.1) (lookup (is_at (int_cmp t)) xs) ≡ None
          → IsPermutation (entries_of links (t, l) ++ (entries_of links x ++ flat_map (entries_of links) xs))
          (flat_map (entries_of links) (match_ordering o ((t, l) ∷ x ∷ xs) ((x.0, l) ∷ xs) (x ∷ insert_entry int_cmp xs t l)))
      at rest Less e = IsPermutation-refl (entries_of links (t, l) ++ (entries_of links x ++ flat_map (entries_of links) xs))
      at rest Equal e = absurd (let c : ◌≡◌ {A = Option Link} (Some x.1) None = e in cc)
      at rest Greater e = IsPermutation-trans _ _ _
          (turn (entries_of links (t, l)) (entries_of links x) (flat_map (entries_of links) xs))
          (IsPermutation-append_right (entries_of links x) _ _ (rest e))

  -- no entry is newer than the greatest time
  pub newest_all : (es : List (ℤ × Link)) (t : ℤ) → All (λ k. k ≤ℤ t) (keys_of es) → All (λ (w : Entry). w.time ≤ℤ t) (entries_in links es)
  unfolding entries_in
  newest_all [] t h = All-nil (λ (w : Entry). w.time ≤ℤ t)
  newest_all (x ∷ xs) t h = All-append (λ (w : Entry). w.time ≤ℤ t) (entries_of links x) (flat_map (entries_of links) xs)
      (All-map (λ (w : Entry). w.time ≤ℤ t) (entry_at x.0) (numbers_of links x.1)
      (λ k d l. All-head (λ k. k ≤ℤ t) x.0 (keys_of xs) h))
      (newest_all xs t (All-tail (λ k. k ≤ℤ t) x.0 (keys_of xs) h))

  -- no entry of a list is newer than its time
  pub own_time : (t u : ℤ) (l : Link) → t ≤ℤ u → All (λ (w : Entry). w.time ≤ℤ u) (entries_of links (t, l))
  own_time t u l e = All-map (λ (w : Entry). w.time ≤ℤ u) (entry_at t) (numbers_of links l) (λ k d b. e)

  -- the last list of a map
  pub entries_last : (es : List (ℤ × Link)) (p : ℤ × Link) → IsPermutation (entries_in links (es ++ p ∷ []))
      (entries_of links p ++ entries_in links es)
  unfolding entries_in
  entries_last es p = subst (λ l. IsPermutation l (entries_of links p ++ flat_map (entries_of links) es))
      (ap (λ l. flat_map (entries_of links) es ++ l) (sym (append-nil (entries_of links p)))
      ∙ sym (flat_map-append (entries_of links) es (p ∷ [])))
      (IsPermutation-append_comm (flat_map (entries_of links) es) (entries_of links p))

-- ---- times

less_le : (a b : ℤ) (o : Ordering) → MatchOrdering o (a <ℤ b) (a ≡ b) (b <ℤ a) → o ≡ Less → a ≤ℤ b
less_le a b Less h e = omega (arith, ints)
less_le a b Equal h e = cc
less_le a b Greater h e = cc

pub older : (t : ℤ) (ks : List ℤ) → All (λ k. int_cmp k t ≡ Less) ks → All (λ k. k ≤ℤ t) ks
older t ks h = All-weaker (λ k. int_cmp k t ≡ Less) (λ k. k ≤ℤ t)
    (λ k e. less_le k t (int_cmp k t) (int_ranked k t (int_cmp k t) refl) e) ks h

apart : (a b : ℤ) (o p : Ordering) → MatchOrdering o (a <ℤ b) (a ≡ b) (b <ℤ a) → MatchOrdering p (b <ℤ a) (b ≡ a) (a <ℤ b) → o ≡ Less
    → is_eq p ≡ false
apart a b o Less h k e = refl
apart a b Less Equal h k e = absurd (omega (arith, ints))
apart a b Equal Equal h k e = cc
apart a b Greater Equal h k e = cc
apart a b o Greater h k e = refl

-- a time that is after all others isn't among them
pub not_there : (t : ℤ) (es : List (ℤ × Link)) → All (λ k. int_cmp k t ≡ Less) (keys_of es) → lookup (is_at (int_cmp t)) es ≡ None
not_there t [] h = refl
not_there t (x ∷ xs) h =
    ap (λ b. cond b (Some x.1) (lookup (is_at (int_cmp t)) xs))
    (apart x.0 t (int_cmp x.0 t) (int_cmp t x.0) (int_ranked x.0 t (int_cmp x.0 t) refl) (int_ranked t x.0 (int_cmp t x.0) refl)
    (All-head (λ k. int_cmp k t ≡ Less) x.0 (keys_of xs) h))
    ∙ not_there t xs (All-tail (λ k. int_cmp k t ≡ Less) x.0 (keys_of xs) h)

-- ---- the lists of a map continue within the links

pub ends_last : (P : Link → Type 0) (es : List (ℤ × Link)) (p : ℤ × Link) → All P (values_of (es ++ p ∷ [])) → All P (values_of es) × P p.1
ends_last P [] p h = (All-nil P, All-head P p.1 [] h)
ends_last P (x ∷ xs) p h =
    let rest = ends_last P xs p (All-tail P x.1 (values_of (xs ++ p ∷ [])) h) in
    (All-cons P x.1 (values_of xs) (All-head P x.1 (values_of (xs ++ p ∷ [])) h) rest.0, rest.1)

-- ---- a number is added

module _ (links : List Link) (linked : IsLinked links) (es : List (ℤ × Link)) (ends : AllEnd links es) (t : ℤ) (n : ℕ) where
  -- the only one of its time
  pub added_alone : (rest : List (ℤ × Link)) → rest ≡ es → lookup (is_at (int_cmp t)) rest ≡ None
      → IsPermutation (entry_at t n ∷ entries_in links es)
      (entries_in links (insert_entry int_cmp rest t (record { number = n; next = 0 })))
  added_alone rest same none =
      let one : Link = record { number = n; next = 0 } in
      subst (λ l. IsPermutation (entry_at t n ∷ entries_in links l) (entries_in links (insert_entry int_cmp rest t one))) same
      (subst (λ ns. IsPermutation (map (entry_at t) ns ++ entries_in links rest) (entries_in links (insert_entry int_cmp rest t one)))
      (numbers_one links linked one refl) (entries_insert links rest t one none))

  pub ends_alone : (rest : List (ℤ × Link)) → rest ≡ es → AllEnd links (insert_entry int_cmp rest t (record { number = n; next = 0 }))
  ends_alone rest same = All-values-insert_entry int_cmp t (record { number = n; next = 0 }) (EndsWithin links) rest
      (subst (AllEnd links) (sym same) ends) (omega arith)

  module _ (rest : List (ℤ × Link)) (l : Link) (is : rest ≡ remove_entry (is_at (int_cmp t)) es)
      (there : lookup (is_at (int_cmp t)) es ≡ Some l) where
    -- the list that is taken out continues within the links
    pub end_there : EndsWithin links l
    end_there = subst (λ o. IfSome o (EndsWithin links)) there (IfSome-lookup_from_All (EndsWithin links) (is_at (int_cmp t)) es ends)

    -- the other lists continue within the links
    pub ends_others : AllEnd links rest
    ends_others = subst (AllEnd links) (sym is)
        (All-map-remove_entry (is_at (int_cmp t)) (λ (e : ℤ × Link). e.1) (EndsWithin links) es ends)

    -- before the others of its time
    pub added_more : lookup (is_at (int_cmp t)) rest ≡ None → IsPermutation (entry_at t n ∷ entries_in links es)
        (entries_in (links ++ l ∷ []) (insert_entry int_cmp rest t (record { number = n; next = length links + 1 })))
    added_more none =
        let more : Link = record { number = n; next = length links + 1 } in
        let same : map (entry_at t) (numbers_of (links ++ l ∷ []) more) ++ entries_in (links ++ l ∷ []) rest
        ≡ entry_at t n ∷ (entries_of links (t, l) ++ entries_in links rest) =
        ap (λ ns. map (entry_at t) ns ++ entries_in (links ++ l ∷ []) rest) (numbers_more links linked l n end_there)
        ∙ ap (λ ws. map (entry_at t) (n ∷ numbers_of links l) ++ ws) (entries_kept links linked l rest ends_others) in
        IsPermutation-trans _ _ _
        (IsPermutation-cons (entry_at t n) _ _
        (subst (λ r. IsPermutation (entries_in links es) (entries_of links (t, l) ++ entries_in links r))
        (sym is) (entries_remove links es t l there)))
        (subst (λ ws. IsPermutation ws (entries_in (links ++ l ∷ []) (insert_entry int_cmp rest t more))) same
        (entries_insert (links ++ l ∷ []) rest t more none))

    pub ends_longer : AllEnd (links ++ l ∷ []) (insert_entry int_cmp rest t (record { number = n; next = length links + 1 }))
    ends_longer = All-values-insert_entry int_cmp t (record { number = n; next = length links + 1 }) (EndsWithin (links ++ l ∷ [])) rest
        (ends_more links l rest ends_others) (omega (arith, length-append links (l ∷ [])))

-- ---- the results of the calls

pub put_ends : {A E : Type 0} (r : Result A E) (links : List Link) (rest new : List (ℤ × Link)) (t : ℤ) (l : Link)
    → OnOk r (new ≡ insert_entry int_cmp rest t l) → OnErr r (new ≡ rest) → AllEnd links rest → EndsWithin links l → AllEnd links new
put_ends (Ok x) links rest new t l ok err ends e =
    subst (AllEnd links) (sym ok) (All-values-insert_entry int_cmp t l (EndsWithin links) rest ends e)
put_ends (Err x) links rest new t l ok err ends e = subst (AllEnd links) (sym err) ends

module _ {A E : Type 0} (r : Result A E) (links : List Link) (linked : IsLinked links) (es : List (ℤ × Link)) (ends : AllEnd links es)
    (t : ℤ) (n : ℕ) (rest : List (ℤ × Link)) where
  pub alone_ok : (new : List (ℤ × Link)) → rest ≡ es → lookup (is_at (int_cmp t)) rest ≡ None
      → OnOk r (new ≡ insert_entry int_cmp rest t (record { number = n; next = 0 }))
      → OnOk r (IsPermutation (entry_at t n ∷ entries_in links es) (entries_in links new))
  alone_ok new same none ok = elim r as (λ x. OnOk x (new ≡ insert_entry int_cmp rest t (record { number = n; next = 0 }))
      → OnOk x (IsPermutation (entry_at t n ∷ entries_in links es) (entries_in links new))) [
        | Ok _ ↦ λ is. subst (λ l. IsPermutation (entry_at t n ∷ entries_in links es) (entries_in links l)) (sym is)
            (added_alone links linked es ends t n rest same none)
        | Err _ ↦ λ is. tt
      ] ok

  module _ (l : Link) (is : rest ≡ remove_entry (is_at (int_cmp t)) es) (there : lookup (is_at (int_cmp t)) es ≡ Some l) (ls : List Link)
      (grown : ls ≡ links ++ l ∷ []) where
    pub longer_linked : IsLinked ls
    longer_linked = subst IsLinked (sym grown) (linked_more links linked l (end_there links linked es ends t n rest l is there))

    pub longer_ends : (m : Link) → m ≡ record { number = n; next = length links + 1 } → (new : List (ℤ × Link))
        → OnOk r (new ≡ insert_entry int_cmp rest t m) → OnErr r (new ≡ rest) → AllEnd ls new
    longer_ends m made new ok err =
        put_ends r ls rest new t m ok err
        (subst (λ k. AllEnd k rest) (sym grown) (ends_more links l rest (ends_others links linked es ends t n rest l is there)))
        (subst (λ k. EndsWithin k m) (sym grown)
        (subst (EndsWithin (links ++ l ∷ [])) (sym made) (omega (arith, length-append links (l ∷ [])))))

    pub longer_ok : (m : Link) → m ≡ record { number = n; next = length links + 1 } → (new : List (ℤ × Link))
        → lookup (is_at (int_cmp t)) rest ≡ None → OnOk r (new ≡ insert_entry int_cmp rest t m)
        → OnOk r (IsPermutation (entry_at t n ∷ entries_in links es) (entries_in ls new))
    longer_ok m made new none ok = elim r as (λ x. OnOk x (new ≡ insert_entry int_cmp rest t m)
        → OnOk x (IsPermutation (entry_at t n ∷ entries_in links es) (entries_in ls new))) [
          | Ok _ ↦ λ e. subst (λ k. IsPermutation (entry_at t n ∷ entries_in links es) (entries_in k new)) (sym grown)
              (subst (λ k. IsPermutation (entry_at t n ∷ entries_in links es) (entries_in (links ++ l ∷ []) k))
              (sym (e ∙ ap (λ k. insert_entry int_cmp rest t k) made))
              (added_more links linked es ends t n rest l is there none))
          | Err _ ↦ λ e. tt
        ] ok

-- ---- the list that was taken out of the map

-- it is put back
pub restored : (links : List Link) (newest : Option (ℤ × Link)) (es : List (ℤ × Link)) → IsTimes links newest es
    → AllEnd links (with_list newest es) × IsPermutation (all_entries links newest es) (entries_in links (with_list newest es))
restored links None es h = (h.ends, IsPermutation-refl (entries_in links es))
restored links (Some p) es h = (
  All-values-insert_entry int_cmp p.0 p.1 (EndsWithin links) es h.ends h.taken.0,
  entries_insert links es p.0 p.1 (not_there p.0 es h.taken.1),
)

-- it was the last of the map
pub takes_last : (old new : List (ℤ × Link)) (p : ℤ × Link) → old ≡ new ++ p ∷ [] → All (λ k. int_cmp k p.0 ≡ Less) (keys_of new)
    → TakesList None old p new
takes_last old new p is before links h =
    let ends = ends_last (EndsWithin links) new p (subst (λ es. All (EndsWithin links) (values_of es)) is h.ends) in (
      record { linked = h.linked; ends = ends.0; taken = (ends.1, before) },
      subst (λ es. IsPermutation (entries_in links es) (entries_of links p ++ entries_in links new)) (sym is) (entries_last links new p),
    )

pub last_taken : (newest : Option (ℤ × Link)) (old new : List (ℤ × Link)) (o : Option (ℤ × Link)) → newest ≡ None
    → IfSome o (λ p. old ≡ new ++ p ∷ []) → IfSome o (λ p. All (λ k. int_cmp k p.0 ≡ Less) (keys_of new))
    → IfSome o (λ p. TakesList newest old p new)
last_taken newest old new None none is before = tt
last_taken newest old new (Some p) none is before = subst (λ m. TakesList m old p new) (sym none) (takes_last old new p is before)

-- its first number is taken
pub rest_times : (links : List Link) (p : ℤ × Link) (o : Option (ℤ × Link)) (es : List (ℤ × Link)) → IsTimes links (Some p) es
    → IsRest links p o → IsTimes links o es
rest_times links p None es h e = record { linked = h.linked; ends = h.ends; taken = tt }
rest_times links p (Some r) es h e =
    record {
      linked = h.linked;
      ends = h.ends;
      taken = (
        ends_rest links h.linked p.1 r.1 h.taken.0 e.1 e.2,
        subst (λ z. All (λ k. int_cmp k z ≡ Less) (keys_of es)) (sym e.0) h.taken.1,
      );
    }

pub rest_entries : (links : List Link) (p : ℤ × Link) (o : Option (ℤ × Link)) (es : List (ℤ × Link)) → IsTimes links (Some p) es
    → IsRest links p o → all_entries links (Some p) es ≡ entry_at p.0 p.1.number ∷ all_entries links o es
rest_entries links p None es h e =
    ap (λ ns. map (entry_at p.0) ns ++ entries_in links es) (numbers_one links h.linked p.1 e)
rest_entries links p (Some r) es h e =
    ap (λ ns. map (entry_at p.0) ns ++ entries_in links es) (numbers_rest links h.linked p.1 r.1 h.taken.0 e.1 e.2)
    ∙ ap (λ z. entry_at p.0 p.1.number ∷ (map (entry_at z) (numbers_of links r.1) ++ entries_in links es)) (sym e.0)

-- no number has a greater time
pub taken_newest : (links : List Link) (p : ℤ × Link) (es : List (ℤ × Link)) → IsTimes links (Some p) es
    → All (λ (w : Entry). w.time ≤ℤ p.0) (all_entries links (Some p) es)
taken_newest links p es h = All-append (λ (w : Entry). w.time ≤ℤ p.0) (entries_of links p) (entries_in links es)
    (own_time links p.0 p.0 p.1 (omega (arith, ints))) (newest_all links es p.0 (older p.0 (keys_of es) h.taken.1))

pub rest_newest : (links : List Link) (p : ℤ × Link) (o : Option (ℤ × Link)) (es : List (ℤ × Link)) → IsTimes links (Some p) es
    → IsRest links p o → All (λ (w : Entry). w.time ≤ℤ p.0) (all_entries links o es)
rest_newest links p o es h e = All-tail (λ (w : Entry). w.time ≤ℤ p.0) (entry_at p.0 p.1.number) (all_entries links o es)
    (subst (All (λ (w : Entry). w.time ≤ℤ p.0)) (rest_entries links p o es h e) (taken_newest links p es h))

-- no number has a greater time than the greatest key
pub last_newest : (links : List Link) (es : List (ℤ × Link)) (t : ℤ) → All (λ q. is_lt (int_cmp t q) ≡ false) (keys_of es)
    → All (λ (w : Entry). w.time ≤ℤ t) (entries_in links es)
last_newest links es t h = newest_all links es t
    (All-weaker (λ q. is_lt (int_cmp t q) ≡ false) (λ k. k ≤ℤ t)
    (λ k e. not_less t k (int_cmp t k) (int_ranked t k (int_cmp t k) refl) e) (keys_of es) h)
  where
    not_less : (a b : ℤ) (o : Ordering) → MatchOrdering o (a <ℤ b) (a ≡ b) (b <ℤ a) → is_lt o ≡ false → b ≤ℤ a
    not_less a b Less h e = cc
    not_less a b Equal h e = subst (λ z. z ≤ℤ a) h (omega (arith, ints))
    not_less a b Greater h e = omega (arith, ints)

-- ---- the entry that is stored apart from the map

module _ (e w f l : Entry) (old new : List Entry) (both : (◌≡◌ {A = Entry × Entry} (f, l) (e, w)) ⊎ (◌≡◌ {A = Entry × Entry} (f, l) (w, e)))
    (pushed : IsPermutation (l ∷ old) new) where
  -- of two entries one goes into the map
  pub pushed_beside : IsPermutation (e ∷ w ∷ old) (f ∷ new)
  pushed_beside = ⊎_elim
      (λ is. let a : f ≡ e = ap (λ (p : Entry × Entry). p.0) is in let b : l ≡ w = ap (λ (p : Entry × Entry). p.1) is in
      subst (λ x. IsPermutation (x ∷ w ∷ old) (f ∷ new)) a (subst (λ x. IsPermutation (f ∷ x ∷ old) (f ∷ new)) b
      (IsPermutation-cons f (l ∷ old) new pushed)))
      (λ is. let a : f ≡ w = ap (λ (p : Entry × Entry). p.0) is in let b : l ≡ e = ap (λ (p : Entry × Entry). p.1) is in
      subst (λ x. IsPermutation (e ∷ x ∷ old) (f ∷ new)) a (subst (λ x. IsPermutation (x ∷ f ∷ old) (f ∷ new)) b
      (IsPermutation-trans _ _ _ (IsPermutation-sym _ _ (IsPermutation-middle (f ∷ []) l old))
      (IsPermutation-cons f (l ∷ old) new pushed))))
      both

  -- the newer one stays apart from it
  pub newest_beside : l.time ≤ℤ f.time → All (λ (x : Entry). x.time ≤ℤ w.time) old → All (λ (x : Entry). x.time ≤ℤ f.time) new
  newest_beside le h =
      let last : w.time ≤ℤ f.time = ⊎_elim
      (λ is. subst (λ (x : Entry). x.time ≤ℤ f.time) (ap (λ (p : Entry × Entry). p.1) is) le)
      (λ is. subst (λ (x : Entry). x.time ≤ℤ f.time) (ap (λ (p : Entry × Entry). p.0) is) (omega (arith, ints))) both in
      All-permutation (λ (x : Entry). x.time ≤ℤ f.time) (l ∷ old) new pushed
      (All-cons (λ (x : Entry). x.time ≤ℤ f.time) l old le
      (All-weaker (λ (x : Entry). x.time ≤ℤ w.time) (λ (x : Entry). x.time ≤ℤ f.time) (λ x b. omega (arith, ints)) old h))

-- ---- the entries as a list

pub no_lists : (es : List (ℤ × Link)) → (0 < length es → ⊥) → es ≡ []
no_lists [] h = refl
no_lists (x ∷ xs) h = absurd (h (omega arith))

pub if_none : {A : Type 0} (o : Option A) (P : Type 0) → P → IfNone o P
if_none None P h = h
if_none (Some x) P h = tt

pub no_entries : (links : List Link) (es : List (ℤ × Link)) → es ≡ [] → entries_in links es ≡ []
unfolding entries_in
no_entries links es e = subst (λ l. flat_map (entries_of links) l ≡ []) (sym e) refl

module _ (links : List Link) (newest : Option (ℤ × Link)) (es : List (ℤ × Link)) (value : List Entry)
    (view : all_entries links newest es ≡ value) where
  -- the time of the list that was taken out is the greatest
  pub time_taken : (p : ℤ × Link) → newest ≡ Some p → IsTimes links newest es → All (λ (w : Entry). w.time ≤ℤ p.0) value
  time_taken p is h = subst (All (λ (w : Entry). w.time ≤ℤ p.0)) (ap (λ o. all_entries links o es) (sym is) ∙ view)
      (taken_newest links p es (subst (λ o. IsTimes links o es) is h))

  -- without such a list, the last time of the map is the greatest
  pub time_last : (t : ℤ) → newest ≡ None → All (λ q. is_lt (int_cmp t q) ≡ false) (keys_of es) → All (λ (w : Entry). w.time ≤ℤ t) value
  time_last t is h = subst (All (λ (w : Entry). w.time ≤ℤ t)) (ap (λ o. all_entries links o es) (sym is) ∙ view) (last_newest links es t h)

  -- without any list, there is no entry
  pub no_time : newest ≡ None → es ≡ [] → value ≡ []
  no_time is none = sym view ∙ ap (λ o. all_entries links o es) is ∙ no_entries links es none

  -- a list is put back, and a number is added
  pub pushed_times : (e : Entry) (back : List (ℤ × Link)) (more : List Link) (new : List (ℤ × Link)) → IsTimes links newest es
      → back ≡ with_list newest es → IsPermutation (e ∷ entries_in links back) (entries_in more new)
      → IsPermutation (e ∷ value) (entries_in more new)
  pushed_times e back more new h is added = subst (λ v. IsPermutation (e ∷ v) (entries_in more new)) view
      (IsPermutation-trans _ _ _ (IsPermutation-cons e _ _ (restored links newest es h).1)
      (subst (λ l. IsPermutation (e ∷ entries_in links l) (entries_in more new)) is added))

  pub pushed_ok : {A E : Type 0} (r : Result A E) (e : Entry) (back : List (ℤ × Link)) (more : List Link) (new : List (ℤ × Link))
      → IsTimes links newest es → back ≡ with_list newest es → OnOk r (IsPermutation (e ∷ entries_in links back) (entries_in more new))
      → OnOk r (IsPermutation (e ∷ value) (entries_in more new))
  pushed_ok (Ok x) e back more new h is added = pushed_times e back more new h is added
  pushed_ok (Err x) e back more new h is added = tt

  -- a number is taken
  pub popped_times : (p : ℤ × Link) (left : List (ℤ × Link)) (o : Option (ℤ × Link)) → IsTimes links newest es → TakesList newest es p left
      → IsRest links p o → IsPermutation value (entry_at p.0 p.1.number ∷ all_entries links o left)
  popped_times p left o h t r = subst (λ v. IsPermutation v (entry_at p.0 p.1.number ∷ all_entries links o left)) view
      (subst (IsPermutation (all_entries links newest es)) (rest_entries links p o left (t links h).0 r) (t links h).1)
