-- The parts of a request, by the values of their messages.
use Rattle.std.proofs.Common.{◌≡◌, ℕ, List, [], ◌∷◌, map, refl, ap, ◌∙◌}
use Rattle.std.specs.Prelude.{Bool, ◌&&◌}
use Rattle.std.specs.List.{list_all, flat_map}
use Rattle.std.proofs.lemmas.List.Folds.{list_all-append}
use Rattle.gixp_transport.specs.declared.message.Message.{Message}
use Rattle.gixp_transport.specs.Message.{text, fits, line_frame, value_frame, value_fits, message_value, message_frame, message_fits, request_frames, all_fit}

-- whether they fit into packet lines
pub fit_of_messages : (messages : List Message) → all_fit messages ≡ list_all value_fits (map message_value messages)
fit_of_messages [] = refl
fit_of_messages (m ∷ ms) = ap (λ b. message_fits m && b) (fit_of_messages ms)

pub fit_of_texts : {A : Type 0} (h : A → List ℕ) (xs : List A)
    → list_all (λ x. fits (h x)) xs ≡ list_all value_fits (map text (map h xs))
fit_of_texts h [] = refl
fit_of_texts h (x ∷ xs) = ap (λ b. fits (h x) && b) (fit_of_texts h xs)

-- their packet lines
pub frames_of_messages : (messages : List Message) → request_frames messages ≡ map value_frame (map message_value messages)
frames_of_messages [] = refl
frames_of_messages (m ∷ ms) = ap (λ fs. message_frame m ∷ fs) (frames_of_messages ms)

pub frames_of_texts : {A : Type 0} (h : A → List ℕ) (xs : List A)
    → map (λ x. line_frame (h x)) xs ≡ map value_frame (map text (map h xs))
frames_of_texts h [] = refl
frames_of_texts h (x ∷ xs) = ap (λ fs. line_frame (h x) ∷ fs) (frames_of_texts h xs)

-- a test of all elements of joined lists
pub all_of_flat : {A B : Type 0} (p : B → Bool) (f : A → List B) (xs : List A)
    → list_all p (flat_map f xs) ≡ list_all (λ x. list_all p (f x)) xs
all_of_flat p f [] = refl
all_of_flat p f (x ∷ xs) = list_all-append p (f x) (flat_map f xs) ∙ ap (λ b. list_all p (f x) && b) (all_of_flat p f xs)
