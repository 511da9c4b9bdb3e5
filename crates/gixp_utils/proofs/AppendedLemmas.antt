-- Texts that are appended piece by piece.
use Rattle.std.proofs.Common.{◌≡◌, ℕ, ◌+◌, ◌<◌, List, [], ◌∷◌, ◌++◌, length, drop, flat_map, get_or, sym, ap, ◌∙◌, append_assoc, append-nil}
use Rattle.std.proofs.lemmas.List.{drop_more}

-- `now` is `old` with a first part of `all` appended; `left` is the rest of `all`
pub record Partly (old now left all : List ℕ) : Type 0 where
  pub split : now ++ left ≡ old ++ all

partly-more : (old now new left rest all x : List ℕ) → Partly old now left all → left ≡ x ++ rest → new ≡ now ++ x → Partly old new rest all
partly-more old now new left rest all x h e k =
    record { split = ap (λ l. l ++ rest) k ∙ append_assoc now x rest ∙ ap (λ l. now ++ l) (sym e) ∙ h.split }

partly-all : (old now left all : List ℕ) → Partly old now left all → left ≡ [] → now ≡ old ++ all
partly-all old now left all h e = sym (append-nil now) ∙ ap (λ l. now ++ l) (sym e) ∙ h.split

pub each-more : {X : Type 0} (show : X → List ℕ) (old now new : List ℕ) (left rest : List X) (x : X) (all : List ℕ)
    → Partly old now (flat_map show left) all → left ≡ x ∷ rest → new ≡ now ++ show x
    → Partly old new (flat_map show rest) all
each-more show old now new left rest x all h e w = partly-more old now new _ _ all (show x) h (ap (flat_map show) e) w

pub each-end : {X : Type 0} (show : X → List ℕ) (old now : List ℕ) (left : List X) (all : List ℕ)
    → Partly old now (flat_map show left) all → left ≡ [] → now ≡ old ++ all
each-end show old now left all h e = partly-all old now _ all h (ap (flat_map show) e)

-- the rest of a list from index i begins with the element at i
pub left-at : {X : Type 0} (xs : List X) (i : ℕ) (x : X) → i < length xs → x ≡ get_or xs i x → drop i xs ≡ x ∷ drop (i + 1) xs
left-at xs i x h e = drop_more xs i x h ∙ ap (λ y. y ∷ drop (i + 1) xs) (sym e)

pub left-byte : (xs : List ℕ) (i : ℕ) → i < length xs → drop i xs ≡ get_or xs i 0 ∷ drop (i + 1) xs
left-byte xs i h = drop_more xs i 0 h
