-- Refspecs as users write them: `@` means `HEAD` (gitrevisions, "@").
use Rattle.std.specs.Prelude.{◌==◌, ◌||◌, ℕ, nat_eq, Bool, if◌then◌else◌, List, [], ◌∷◌, ◌++◌, drop, codes}
use Rattle.std.specs.List.{starts_with}
use Rattle.std.specs.Str.{bytes_eq}

-- a refspec without its sign whose source is `@` alone
abbrev pub has_at : List ℕ → Bool
has_at body = bytes_eq body (codes "@") || starts_with nat_eq body (codes "@:")

-- this source means `HEAD`
abbrev pub with_head : List ℕ → List ℕ
with_head body = if has_at body then codes "HEAD" ++ drop 1 body else body

-- the sign of a refspec: `+` or `^`
abbrev pub is_sign : ℕ → Bool
is_sign b = b == 43 || b == 94

-- the text of a refspec, with `HEAD` for a source that is `@` alone
abbrev pub spelled : List ℕ → List ℕ
spelled [] = []
spelled (b ∷ body) = if is_sign b then b ∷ with_head body else with_head (b ∷ body)
