-- The rules of git-check-ref-format. The components of a name are its parts between slashes.
use Rattle.std.specs.Prelude.{ℕ, ◌==◌, nat_eq, nat_lt, Bool, not, ◌&&◌, ◌||◌, List, [], ◌∷◌, length, codes}
use Rattle.std.specs.List.{slice_split, list_all, list_any, starts_with, ends_with}
use Rattle.std.specs.Str.{bytes_eq}

-- neither a control character nor a space, nor one of ~ ^ : ? [ \
unfoldable pub is_name_byte : ℕ → Bool
is_name_byte b = nat_lt 32 b && not (b == 127) && not (list_any (λ x. x == b) (codes "~^:?[\\"))

-- whether a component is valid
unfoldable pub is_component : List ℕ → Bool
is_component part = not (length part == 0) && not (starts_with nat_eq part (codes ".")) && not (ends_with nat_eq part (codes ".lock"))

-- whether the text occurs in the bytes
abbrev pub occurs : List ℕ → List ℕ → Bool
occurs text [] = length text == 0
occurs text (b ∷ bytes) = starts_with nat_eq (b ∷ bytes) text || occurs text bytes

-- the components of a name
abbrev pub components : List ℕ → List (List ℕ)
components name = slice_split (λ b. b == 47) name

-- whether a name is valid, where an asterisk is an ordinary byte
unfoldable pub is_name : List ℕ → Bool
is_name name =
    not (bytes_eq name (codes "@")) && not (ends_with nat_eq name (codes ".")) && not (occurs (codes "..") name)
    && not (occurs (codes "@{") name) && list_all is_name_byte name && list_all is_component (components name)

-- whether a name is valid and has no asterisk
unfoldable pub is_partial_name : List ℕ → Bool
is_partial_name name = is_name name && not (list_any (λ b. b == 42) name)
