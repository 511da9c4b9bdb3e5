-- Lines, words and digits, read one after another.
use Rattle.std.proofs.Common.{◌≡◌, ℕ, ◌+◌, ◌-◌, ◌<◌, ◌≤◌, List, [], ◌∷◌, ◌++◌, length, take, drop, get_or, map, Option, Some, None, ap, refl, sym, subst, ◌∙◌, append_assoc, append-nil, arith}
use Rattle.std.specs.Prelude.{option_map, option_and_then}
use Rattle.std.proofs.lemmas.List.{drop_more, drop_all, take_more, take_all, take-map, drop-map, map-append}
use Rattle.gixp_hash.specs.declared.object_id.ObjectId.{ObjectId}
use Rattle.gixp_utils.specs.Lines.{text_lines}
use Rattle.gixp_memory.specs.Text.{after_lines, BeginsUnread, ReadsSome}
use Rattle.gixp_memory.specs.Repository.{one_digit_more, digits_more, named_id, named_ids}

-- one more digit
pub digit_more : (ds : List ℕ) (n m i : ℕ) → i < length ds → Some m ≡ one_digit_more n (get_or ds i 0)
    → digits_more 0 ds ≡ digits_more n (drop i ds) → digits_more 0 ds ≡ digits_more m (drop (i + 1) ds)
digit_more ds n m i l e h = h ∙ ap (digits_more n) (drop_more ds i 0 l)
    ∙ ap (λ o. option_and_then (λ k. digits_more k (drop (i + 1) ds)) o) (sym e)

-- the next byte isn't a digit, or the number gets too great
pub digit_none : (ds : List ℕ) (n i : ℕ) → i < length ds → None ≡ one_digit_more n (get_or ds i 0)
    → digits_more 0 ds ≡ digits_more n (drop i ds) → None ≡ digits_more 0 ds
digit_none ds n i l e h =
    sym (h ∙ ap (digits_more n) (drop_more ds i 0 l) ∙ ap (λ o. option_and_then (λ k. digits_more k (drop (i + 1) ds)) o) (sym e))

-- all digits were read
pub digits_all : (ds : List ℕ) (n i : ℕ) → length ds ≤ i → digits_more 0 ds ≡ digits_more n (drop i ds) → Some n ≡ digits_more 0 ds
digits_all ds n i l h = sym (h ∙ ap (digits_more n) (drop_all i ds l))

-- these ids, then the ids of the words to come
abbrev pub ids_in_front : List ObjectId → Option (List ObjectId) → Option (List ObjectId)
ids_in_front xs o = option_map (λ ids. xs ++ ids) o

-- the ids of all words are the ids so far and the ids of the words to come
pub record NamedSoFar (all left : List (List ℕ)) (ids : List ObjectId) : Type 0 where
  pub split : named_ids all ≡ ids_in_front ids (named_ids left)

none_in_front : (o : Option (List ObjectId)) → o ≡ ids_in_front [] o
none_in_front (Some ids) = refl
none_in_front None = refl

one_in_front : (xs : List ObjectId) (x : ObjectId) (o : Option (List ObjectId)) → ids_in_front xs (option_map (λ ids. x ∷ ids) o)
    ≡ ids_in_front (xs ++ x ∷ []) o
one_in_front xs x (Some ids) = ap Some (sym (append_assoc xs (x ∷ []) ids))
one_in_front xs x None = refl

pub named-start : (all : List (List ℕ)) → NamedSoFar all all []
named-start all = record { split = none_in_front (named_ids all) }

pub named-more : (all left rest : List (List ℕ)) (word : List ℕ) (ids more : List ObjectId) (id : ObjectId) → NamedSoFar all left ids
    → left ≡ word ∷ rest → named_id word ≡ Some id → more ≡ ids ++ id ∷ [] → NamedSoFar all rest more
named-more all left rest word ids more id h e f g = record {
  split = h.split ∙ ap (λ l. ids_in_front ids (named_ids l)) e
      ∙ ap (λ o. ids_in_front ids (option_and_then (λ i. option_map (λ is. i ∷ is) (named_ids rest)) o)) f
      ∙ one_in_front ids id (named_ids rest) ∙ ap (λ l. ids_in_front l (named_ids rest)) (sym g);
}

pub named-all : (all left : List (List ℕ)) (ids : List ObjectId) → NamedSoFar all left ids → left ≡ [] → named_ids all ≡ Some ids
named-all all left ids h e = h.split ∙ ap (λ l. ids_in_front ids (named_ids l)) e ∙ ap Some (append-nil ids)

pub named-none : (all left rest : List (List ℕ)) (word : List ℕ) (ids : List ObjectId) → NamedSoFar all left ids → left ≡ word ∷ rest
    → named_id word ≡ None → named_ids all ≡ None
named-none all left rest word ids h e f = h.split ∙ ap (λ l. ids_in_front ids (named_ids l)) e
    ∙ ap (λ o. ids_in_front ids (option_and_then (λ i. option_map (λ is. i ∷ is) (named_ids rest)) o)) f

-- ---- lines

module _ {S : Type 0} (step : S → List ℕ → Option S) where
  -- one more line
  after_more : (lines : List (List ℕ)) (line : List ℕ) (s : S) → after_lines step s (lines ++ line ∷ [])
      ≡ option_and_then (λ t. step t line) (after_lines step s lines)
  after_more [] line s = last (step s line)
    where
      last : (o : Option S) → option_and_then (λ t. Some t) o ≡ o
      last (Some t) = refl
      last None = refl
  after_more (x ∷ xs) line s = next (λ t. after_more xs line t) (step s x)
    where
      next : ((t : S) → after_lines step t (xs ++ line ∷ []) ≡ option_and_then (λ u. step u line) (after_lines step t xs))
          → (o : Option S) → option_and_then (λ t. after_lines step t (xs ++ line ∷ [])) o
          ≡ option_and_then (λ t. step t line) (option_and_then (λ t. after_lines step t xs) o)
      next r (Some t) = r t
      next r None = refl

-- so many lines were read
pub record ReadSoFar {S B : Type 0} (step : S → List ℕ → Option S) (f : B → List ℕ) (items : List B) (start : S) (i number : ℕ)
    (now : S) : Type 0 where
  pub count : number ≡ i
  pub read : after_lines step start (map f (take i items)) ≡ Some now

module _ {S B : Type 0} (step : S → List ℕ → Option S) (f : B → List ℕ) (items : List B) (start : S) where
  pub read_start : ReadSoFar step f items start 0 0 start
  read_start = record { count = refl; read = refl }

  pub read_more : (i n : ℕ) (line : List ℕ) (d : B) (now next : S) → ReadSoFar step f items start i n now → i < length items
      → line ≡ f (get_or items i d) → step now line ≡ Some next → ReadSoFar step f items start (i + 1) (n + 1) next
  read_more i n line d now next h l e s = record {
    count = ap (λ k. k + 1) h.count;
    read = ap (λ xs. after_lines step start (map f xs)) (take_more items i d l)
        ∙ ap (after_lines step start) (map-append f (take i items) (get_or items i d ∷ []))
        ∙ after_more step (map f (take i items)) (f (get_or items i d)) start
        ∙ ap (λ o. option_and_then (λ t. step t (f (get_or items i d))) o) h.read ∙ ap (step now) (sym e) ∙ s;
  }

  module _ (text : List ℕ) (lines : map f items ≡ text_lines text) where
    -- all lines were read
    pub read_all : (i n : ℕ) (now : S) → ReadSoFar step f items start i n now → length items ≤ i
        → after_lines step start (text_lines text) ≡ Some now
    read_all i n now h l = sym (ap (after_lines step start) (ap (map f) (take_all i items l) ∙ lines)) ∙ h.read

    -- some lines were read
    read_some : (i n k : ℕ) (now next : S) → ReadSoFar step f items start i n now → next ≡ now → k ≡ i
        → ReadsSome step start (text_lines text) k next
    read_some i n k now next h e g = ap (λ j. after_lines step start (take j (text_lines text))) g ∙ ap (λ ls.
        after_lines step start (take i ls)) (sym lines) ∙ ap (after_lines step start) (take-map f i items) ∙ h.read ∙ ap Some (sym e)

    -- the next line can't be read
    line_unread : (i k : ℕ) (line : List ℕ) (d : B) (now next : S) → i < length items → line ≡ f (get_or items i d)
        → step now line ≡ None → next ≡ now → k ≡ i → BeginsUnread step next (drop k (text_lines text))
    line_unread i k line d now next l e s g j =
        subst (λ ls. BeginsUnread step next ls)
        (sym (ap (λ m. drop m (text_lines text)) j ∙ ap (drop i) (sym lines) ∙ drop-map f i items ∙ ap (map f) (drop_more items i d l)))
        (ap (λ t. step t (f (get_or items i d))) g ∙ ap (step now) (sym e) ∙ s)

    -- after the lines before it, the next line can't be read: its number is returned
    pub stops_at_line : (i n : ℕ) (line : List ℕ) (d : B) (now next : S) → ReadSoFar step f items start i n now → i < length items
        → line ≡ f (get_or items i d) → step now line ≡ None → next ≡ now
        → (0 < n + 1) × ReadsSome step start (text_lines text) (n + 1 - 1) next × BeginsUnread step next (drop (n + 1 - 1) (text_lines text))
    stops_at_line i n line d now next h l e s g =
        let k : n + 1 - 1 ≡ i = omega (arith, h.count) in
        (omega arith, read_some i n (n + 1 - 1) now next h g k, line_unread i (n + 1 - 1) line d now next l e s g k)

    -- some lines were read, and no other, where an allocation failed
    pub stops_between : (i n : ℕ) (now next : S) → ReadSoFar step f items start i n now → next ≡ now
        → (k : ℕ) × ReadsSome step start (text_lines text) k next
    stops_between i n now next h e = (i, read_some i n i now next h e refl)
