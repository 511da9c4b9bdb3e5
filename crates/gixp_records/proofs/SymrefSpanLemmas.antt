-- The symrefs of a text of capabilities, word by word.
use Rattle.std.proofs.Common.{◌≡◌, ℕ, ◌+◌, ◌-◌, ◌<◌, ◌≤◌, ◌==◌, ◌⊎◌, inl, inr, Bool, true, false, List, [], ◌∷◌, ◌++◌, length, map, refl, ap, sym, ◌∙◌, arith, Option, Some, None, Result, Ok, Err, append_assoc, length-drop, nat_lt}
use Rattle.std.specs.Prelude.{filter, IfSome}
use Rattle.std.specs.Option.{option_map}
use Rattle.std.specs.List.{position_or_len, slice_split}
use Rattle.std.proofs.lemmas.Bool.{lt-ltb, ltb-true, false_from_ne_true, cases_lt}
use Rattle.std.proofs.lemmas.List.Elements.{All-from_get_or}
use Rattle.std.proofs.lemmas.List.Splits.{slice_split_none, slice_split_first}
use Rattle.std.proofs.lemmas.List.Sums.{fails_before_first}
use Rattle.gixp_capabilities.specs.Cut.{cut}
use Rattle.gixp_capabilities.specs.Capabilities.{capability_of, capabilities_of_words, has_bytes}
use Rattle.gixp_refs.specs.RefLine.{RefsRefusal}
use Rattle.gixp_refs.specs.RefAdvertisement.{Symref, symref_in, with_symref, symref_table, in_front}
use Rattle.gixp_records.specs.declared.advertised.refused.AdvertisedLineRefused.{AdvertisedLineRefused}
use Rattle.gixp_records.specs.declared.span.Span.{Span}
use Rattle.gixp_records.specs.Span.{text_at, IsWithin}
use Rattle.gixp_records.proofs.SpanLemmas.{length-text_at, cut_parts}
use Rattle.gixp_records.specs.V1RecordLine.{IsRefusedAs}

abbrev pub parts_after : ℕ → Option (List ℕ) → List (List ℕ)
parts_after b None = []
parts_after b (Some rest) = slice_split (λ x. x == b) rest

-- the first part ends before the first separator
parts_by : (b : ℕ) (text : List ℕ) → (position_or_len (λ x. x == b) text < length text) ⊎ (length text ≤ position_or_len
    (λ x. x == b) text) → slice_split (λ x. x == b) text ≡ (cut b text).0 ∷ parts_after b (cut b text).1
parts_by b text (inl lt) =
    let p : ℕ → Bool = λ x. x == b in
    let some : nat_lt (position_or_len p text) (length text) ≡ true = lt-ltb _ _ lt in
    rw some (slice_split_first p text 0 lt)
parts_by b text (inr le) =
    let p : ℕ → Bool = λ x. x == b in
    let none : nat_lt (position_or_len p text) (length text) ≡ false =
    false_from_ne_true _ (λ t. let x = ltb-true (position_or_len p text) (length text) t in absurd (omega arith)) in
    rw none (slice_split_none p text (All-from_get_or (λ x. p x ≡ false) text 0 (λ k lt. fails_before_first p text k 0 (omega arith))))

parts_of_cut : (b : ℕ) (text : List ℕ) → slice_split (λ x. x == b) text ≡ (cut b text).0 ∷ parts_after b (cut b text).1
parts_of_cut b text = parts_by b text (cases_lt (position_or_len (λ x. x == b) text) (length text))

-- the symrefs of the rest of the text
abbrev pub symrefs_left : Option (List ℕ) → Result (List Symref) RefsRefusal
symrefs_left None = Ok []
symrefs_left (Some text) = symref_table (capabilities_of_words text)

-- the length of the rest, plus one for each piece
abbrev pub span_left : Option Span → ℕ
span_left None = 0
span_left (Some s) = s.len + 1

-- the symref of a piece, unless that is empty
abbrev pub of_piece : List ℕ → Result (List Symref) RefsRefusal → Result (List Symref) RefsRefusal
of_piece [] rest = rest
of_piece (x ∷ xs) rest = with_symref (symref_in (capability_of (x ∷ xs))) rest

of_parts : (word : List ℕ) (rest : Option (List ℕ))
    → symref_table (map capability_of (filter has_bytes (word ∷ parts_after 32 rest))) ≡ of_piece word (symrefs_left rest)
unfolding capabilities_of_words
of_parts [] None = refl
of_parts [] (Some text) = refl
of_parts (x ∷ xs) None = refl
of_parts (x ∷ xs) (Some text) = refl

-- the symrefs of a text after its first piece is cut off
symrefs_of_cut : (text word : List ℕ) (rest : Option (List ℕ)) → cut 32 text ≡ (word, rest)
    → symref_table (capabilities_of_words text) ≡ of_piece word (symrefs_left rest)
unfolding capabilities_of_words
symrefs_of_cut text word rest e =
    ap (λ ws. symref_table (map capability_of (filter has_bytes ws)))
    (parts_of_cut 32 text ∙ ap (λ (c : List ℕ × Option (List ℕ)). c.0 ∷ parts_after 32 c.1) e) ∙ of_parts word rest

piece_some : (word : List ℕ) (rest : Result (List Symref) RefsRefusal) → (length word ≡ 0 → ⊥)
    → of_piece word rest ≡ with_symref (symref_in (capability_of word)) rest
piece_some [] rest z = absurd (z refl)
piece_some (x ∷ xs) rest z = refl

piece_none : (word : List ℕ) (rest : Result (List Symref) RefsRefusal) → length word ≡ 0 → of_piece word rest ≡ rest
piece_none [] rest z = refl
piece_none (x ∷ xs) rest z = absurd (omega arith)

added : (xs : List Symref) (s : Symref) (rest : Result (List Symref) RefsRefusal)
    → in_front xs (with_symref (Ok (Some s)) rest) ≡ in_front (xs ++ s ∷ []) rest
added xs s (Ok ys) = ap Ok (sym (append_assoc xs (s ∷ []) ys))
added xs s (Err e) = refl

-- a piece that is a symref
pub symref_more : (all : Result (List Symref) RefsRefusal) (xs : List Symref) (text word : List ℕ) (rest : Option (List ℕ)) (s : Symref)
    → all ≡ in_front xs (symref_table (capabilities_of_words text)) → cut 32 text ≡ (word, rest) → (length word ≡ 0 → ⊥)
    → symref_in (capability_of word) ≡ Ok (Some s) → all ≡ in_front (xs ++ s ∷ []) (symrefs_left rest)
symref_more all xs text word rest s h e z f =
    h ∙ ap (in_front xs) (symrefs_of_cut text word rest e ∙ piece_some word (symrefs_left rest) z
    ∙ ap (λ o. with_symref o (symrefs_left rest)) f) ∙ added xs s (symrefs_left rest)

-- a piece that isn't a symref
pub symref_other : (all : Result (List Symref) RefsRefusal) (xs : List Symref) (text word : List ℕ) (rest : Option (List ℕ))
    → all ≡ in_front xs (symref_table (capabilities_of_words text)) → cut 32 text ≡ (word, rest) → (length word ≡ 0 → ⊥)
    → symref_in (capability_of word) ≡ Ok None → all ≡ in_front xs (symrefs_left rest)
symref_other all xs text word rest h e z f =
    h ∙ ap (in_front xs) (symrefs_of_cut text word rest e ∙ piece_some word (symrefs_left rest) z
    ∙ ap (λ o. with_symref o (symrefs_left rest)) f)

-- an empty piece
pub symref_empty : (all : Result (List Symref) RefsRefusal) (xs : List Symref) (text word : List ℕ) (rest : Option (List ℕ))
    → all ≡ in_front xs (symref_table (capabilities_of_words text)) → cut 32 text ≡ (word, rest) → length word ≡ 0
    → all ≡ in_front xs (symrefs_left rest)
symref_empty all xs text word rest h e z =
    h ∙ ap (in_front xs) (symrefs_of_cut text word rest e ∙ piece_none word (symrefs_left rest) z)

-- a piece with an error
pub symref_bad : (all : Result (List Symref) RefsRefusal) (xs : List Symref) (text word : List ℕ) (rest : Option (List ℕ))
    (e : AdvertisedLineRefused) → all ≡ in_front xs (symref_table (capabilities_of_words text)) → cut 32 text ≡ (word, rest)
    → (length word ≡ 0 → ⊥) → IsRefusedAs (symref_in (capability_of word)) e → IsRefusedAs all e
symref_bad all xs text word rest r h e z j = (
  j.0,
  h ∙ ap (in_front xs) (symrefs_of_cut text word rest e ∙ piece_some word (symrefs_left rest) z
      ∙ ap (λ o. with_symref o (symrefs_left rest)) j.1),
  j.2,
)

-- the rest after a piece is shorter
pub span_less : (bytes : List ℕ) (text : Span) (word : List ℕ) (o : Option Span) → IsWithin bytes text → IfSome o (IsWithin bytes)
    → cut 32 (text_at bytes text) ≡ (word, option_map (text_at bytes) o) → span_left o < span_left (Some text)
span_less bytes text word None h k e = omega arith
span_less bytes text word (Some s) h k e =
    let p = cut_parts 32 (text_at bytes text) word (text_at bytes s) e in
    let i = p.0 in
    let all = length-text_at bytes text.at text.len h in
    let following = length-text_at bytes s.at s.len k in
    let less : length (text_at bytes s) ≡ length (text_at bytes text) - (i + 1) =
    ap length p.3 ∙ length-drop (i + 1) (text_at bytes text) in
    omega (arith, p.1)
