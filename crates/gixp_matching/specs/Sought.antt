-- The full names that refspecs may mean, which are looked up among the refs.
use Rattle.std.specs.Prelude.{ℕ, ◌≡◌, nat_eq, Bool, true, if◌then◌else◌, List, []}
use Rattle.std.specs.Borrow.{Bor}
use Rattle.std.specs.HashSet.{HashSet, contains_by}
use Rattle.std.specs.List.{list_any, flat_map}
use Rattle.std.specs.Str.{bytes_eq}
use Rattle.gixp_refspec.specs.Spec.{Spec}
use Rattle.gixp_refspec.specs.Matching.{is_pattern, prefixes_of}
use Rattle.gixp_matching.specs.declared.match_group.sought.NameSet.{NameSet}
use Rattle.gixp_matching.specs.Digest.{tail}

-- the full names that a positive refspec may mean: an exact name, or the six of a short one; none for a pattern or an id
abbrev pub sought_by : Spec → List (List ℕ)
sought_by s = if is_pattern s.source then [] else prefixes_of s

-- the full names that the refspecs may mean
abbrev pub sought : List Spec → List (List ℕ)
sought specs = flat_map sought_by specs

-- the texts contain the name
abbrev pub is_among : List (List ℕ) → List ℕ → Bool
is_among texts name = list_any (λ text. bytes_eq name text) texts

-- the set contains the name
abbrev pub has_key : {S : Type 0} → HashSet (Bor (List ℕ)) S → List ℕ → Bool
has_key keys name = contains_by (λ key. bytes_eq name key.now) keys

-- the name set contains the name
abbrev pub has_name : NameSet → List ℕ → Bool
has_name set name = has_key set.names name

-- the set contains the number
abbrev pub has_tail : {S : Type 0} → HashSet ℕ S → ℕ → Bool
has_tail tails number = contains_by (nat_eq number) tails

-- the set has the last bytes of each of its names
abbrev pub HasTails : NameSet → Type 0
HasTails set = (text : List ℕ) → has_name set text ≡ true → has_tail set.tails (tail text) ≡ true
