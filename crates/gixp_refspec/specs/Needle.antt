-- A source that was examined once, and is compared with many names.
use Rattle.std.specs.Prelude.{ℕ, ◌≡◌, true, false, List, Option, Some, None}
use Rattle.std.specs.List.{list_any}
use Rattle.std.specs.Borrow.{Bor}
use Rattle.std.specs.Str.{bytes_eq}
use Rattle.gixp_refspec.specs.declared.needle.Needle.{Needle}
use Rattle.gixp_refspec.specs.declared.needle.Needle.TheVariants.{Id as the_id, Pattern as the_pattern, Exact as the_exact, Short as the_short}
use Rattle.gixp_refspec.specs.Matching.{Id, Pattern, Exact, Short, is_pattern, kind_of, before_star, after_star, between, where_true, candidates}

-- the needle has the kind and the parts of the source
abbrev pub IsNeedle : List ℕ → Needle → Type 0
IsNeedle source the_id = kind_of source ≡ Id
IsNeedle source (the_pattern before after) = (kind_of source ≡ Pattern) × (before.now ≡ before_star source)
    × (after.now ≡ after_star source)
IsNeedle source (the_exact name) = (kind_of source ≡ Exact) × (name.now ≡ source)
IsNeedle source (the_short name) = (kind_of source ≡ Short) × (name.now ≡ source)

-- the middle of a name that the needle matches
abbrev pub middle_with : Needle → List ℕ → Option (List ℕ)
middle_with the_id name = None
middle_with (the_pattern before after) name = between before.now after.now name
middle_with (the_exact text) name = where_true (bytes_eq name text.now)
middle_with (the_short text) name = where_true (list_any (λ candidate. bytes_eq name candidate) (candidates text.now))

-- the text before and after the first asterisk, if there is one
abbrev pub IsAround : List ℕ → Option (Bor (List ℕ) × Bor (List ℕ)) → Type 0
IsAround text None = is_pattern text ≡ false
IsAround text (Some parts) = (is_pattern text ≡ true) × (parts.0.now ≡ before_star text) × (parts.1.now ≡ after_star text)
