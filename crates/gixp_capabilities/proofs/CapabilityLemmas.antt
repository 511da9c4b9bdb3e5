-- The texts between blanks, as a loop that cuts them off one by one.
use Rattle.std.proofs.Common.{◌≡◌, ℕ, ◌+◌, ◌<◌, ◌≤◌, ◌==◌, ◌⊎◌, inl, inr, Bool, true, false, List, [], ◌∷◌, ◌++◌, length, map, refl, ap, sym, ◌∙◌, arith, Option, Some, None, append_assoc, nat_lt}
use Rattle.std.specs.Prelude.{filter}
use Rattle.std.specs.Option.{option_copied}
use Rattle.std.specs.Borrow.{Bor}
use Rattle.std.specs.List.{position_or_len, slice_split}
use Rattle.std.proofs.lemmas.Bool.{lt-ltb, ltb-true, eqb-true, false_from_ne_true, cases_lt}
use Rattle.std.proofs.lemmas.List.Elements.{All-from_get_or}
use Rattle.std.proofs.lemmas.List.Splits.{slice_split_none, slice_split_first}
use Rattle.std.proofs.lemmas.List.Sums.{fails_before_first}
use Rattle.gixp_capabilities.specs.Cut.{cut}
use Rattle.gixp_capabilities.specs.Capabilities.{CapabilityValue, capability_of, capabilities_of_words, has_bytes}

-- the parts after the first one
abbrev pub parts_after : ℕ → Option (List ℕ) → List (List ℕ)
parts_after b None = []
parts_after b (Some rest) = slice_split (λ x. x == b) rest

-- the first part is the text before the first separator
parts_by : (b : ℕ) (text : List ℕ) → (position_or_len (λ x. x == b) text < length text) ⊎ (length text ≤ position_or_len
    (λ x. x == b) text) → slice_split (λ x. x == b) text ≡ (cut b text).0 ∷ parts_after b (cut b text).1
parts_by b text (inl lt) =
    let p : ℕ → Bool = λ x. x == b in
    let some : nat_lt (position_or_len p text) (length text) ≡ true = lt-ltb _ _ lt in
    rw some (slice_split_first p text 0 lt)
parts_by b text (inr le) =
    let p : ℕ → Bool = λ x. x == b in
    let none : nat_lt (position_or_len p text) (length text) ≡ false =
    false_from_ne_true _ (λ t. let x = ltb-true (position_or_len p text) (length text) t in absurd (omega arith)) in
    rw none (slice_split_none p text (All-from_get_or (λ x. p x ≡ false) text 0 (λ k lt. fails_before_first p text k 0 (omega arith))))

pub parts_of_cut : (b : ℕ) (text : List ℕ) → slice_split (λ x. x == b) text ≡ (cut b text).0 ∷ parts_after b (cut b text).1
parts_of_cut b text = parts_by b text (cases_lt (position_or_len (λ x. x == b) text) (length text))

-- the capabilities still to come
abbrev pub words_left : Option (Bor (List ℕ)) → List CapabilityValue
words_left None = []
words_left (Some text) = capabilities_of_words text.now

-- the length of the rest of the text, with one more for its separator
abbrev pub text_left : Option (Bor (List ℕ)) → ℕ
text_left None = 0
text_left (Some text) = length text.now + 1

-- the capability of a piece, unless the piece is empty
abbrev pub of_piece : List ℕ → List CapabilityValue
of_piece [] = []
of_piece (x ∷ xs) = capability_of (x ∷ xs) ∷ []

of_parts : (word : List ℕ) (rest : Option (Bor (List ℕ)))
    → map capability_of (filter has_bytes (word ∷ parts_after 32 (option_copied rest))) ≡ of_piece word ++ words_left rest
unfolding capabilities_of_words
of_parts [] None = refl
of_parts [] (Some text) = refl
of_parts (x ∷ xs) None = refl
of_parts (x ∷ xs) (Some text) = refl

-- the capabilities of a text whose first piece is cut off
words_of_cut : (text word : List ℕ) (rest : Option (Bor (List ℕ))) → cut 32 text ≡ (word, option_copied rest)
    → capabilities_of_words text ≡ of_piece word ++ words_left rest
unfolding capabilities_of_words
words_of_cut text word rest e =
    ap (λ ws. map capability_of (filter has_bytes ws))
    (parts_of_cut 32 text ∙ ap (λ (c : List ℕ × Option (List ℕ)). c.0 ∷ parts_after 32 c.1) e) ∙ of_parts word rest

-- a nonempty piece was appended
pub word_more : (now all : List CapabilityValue) (text word : List ℕ) (rest : Option (Bor (List ℕ)))
    → cut 32 text ≡ (word, option_copied rest) → (length word == 0) ≡ false → now ++ capabilities_of_words text ≡ all
    → (now ++ capability_of word ∷ []) ++ words_left rest ≡ all
word_more now all text [] rest e n h = cc
word_more now all text (x ∷ xs) rest e n h = append_assoc now (capability_of (x ∷ xs) ∷ []) (words_left rest)
    ∙ (ap (λ (ws : List CapabilityValue). now ++ ws) (sym (words_of_cut text (x ∷ xs) rest e)) ∙ h)

-- an empty piece was skipped
pub word_none : (now all : List CapabilityValue) (text word : List ℕ) (rest : Option (Bor (List ℕ))) → cut 32 text
    ≡ (word, option_copied rest) → (length word == 0) ≡ true → now ++ capabilities_of_words text ≡ all → now ++ words_left rest ≡ all
word_none now all text [] rest e n h = ap (λ (ws : List CapabilityValue). now ++ ws) (sym (words_of_cut text [] rest e)) ∙ h
word_none now all text (x ∷ xs) rest e n h = absurd (omega (arith, eqb-true (length (x ∷ xs)) 0 n))

-- a name and a value that were cut apart
pub capability_from_cut : (text name : List ℕ) (value : Option (List ℕ)) → cut 61 text ≡ (name, value)
    → capability_of text ≡ record { name = name; value = value }
unfolding capability_of
capability_from_cut text name value e =
    ap (λ (c : List ℕ × Option (List ℕ)). let made : CapabilityValue = record { name = c.0; value = c.1 } in made) e
