-- Names of a server's refs, as a set.
use Rattle.std.specs.Prelude.{ℕ, ◌≡◌, Bool, ◌&&◌, List, Option, is_some}
use Rattle.std.specs.Option.{ForSome}
use Rattle.std.specs.Borrow.{Bor}
use Rattle.std.specs.BTreeSet.{BTreeSet, contains_by}
use Rattle.std.specs.List.{list_any}
use Rattle.std.specs.Ordering.{nat_cmp}
use Rattle.std.specs.Cmp.Lexicographic.{slice_cmp}
use Rattle.std.specs.Str.{bytes_eq}
use Rattle.gixp_refs.specs.declared.handshake.Ref.{Ref}
use Rattle.gixp_refs.specs.Ref.{unpacked_name, unpacked_target}

-- the set contains the text
abbrev pub has_text : BTreeSet (Bor (List ℕ)) → List ℕ → Bool
has_text names text = contains_by (λ key. slice_cmp nat_cmp text key.now) names

-- the ref has this name, and has an object
abbrev pub is_named : List ℕ → Ref → Bool
is_named text r = is_some (unpacked_target r) && bytes_eq text (unpacked_name r)

-- the set has the names of exactly the refs that have an object
abbrev pub HasNames : List Ref → BTreeSet (Bor (List ℕ)) → Type 0
HasNames refs names = (text : List ℕ) → has_text names text ≡ list_any (is_named text) refs

-- if there is a set, it has these names
abbrev pub KnowsNames : List Ref → Option (BTreeSet (Bor (List ℕ))) → Type 0
KnowsNames refs names = ForSome names (HasNames refs)
