-- Keys of sources and local names, and their order.
use Rattle.std.proofs.Common.{◌≡◌, ℕ, true, List, Option, Some, None, Ordering, Less, Equal, Greater, ap, sym, ◌∙◌, refl}
use Rattle.std.specs.Prelude.{◌&&◌}
use Rattle.std.specs.Option.{option_map, option_cmp}
use Rattle.std.specs.Ordering.{is_eq, ordering_then}
use Rattle.std.specs.Str.{bytes_eq}
use Rattle.std.proofs.lemmas.Bool.Decides.{same_from_decides}
use Rattle.std.proofs.lemmas.Map.Text.{is_eq-slice_cmp}
use Rattle.std.proofs.lemmas.Slice.Eq.{bytes_eq-Decides}
use Rattle.gixp_matching.specs.contracts.match_group.key.KeyBytesOrd.TheImpl as key_order
use Rattle.gixp_matching.specs.contracts.match_group.key.KeySourceOrd.TheImpl as source_order
use Rattle.gixp_matching.specs.declared.match_group.key.KeyBytes.{KeyBytes}
use Rattle.gixp_matching.specs.declared.match_group.key.KeySource.{KeySource}
use Rattle.gixp_matching.specs.declared.match_group.key.KeySource.TheVariants.{FullName as the_name_key, ObjectId as the_id_key}
use Rattle.gixp_matching.specs.Mappings.{Source, FullName, ObjectId, source_eq, local_eq}
use Rattle.gixp_matching.specs.MatchGroup.{key_bytes, key_source}

-- two comparisons in a row are equal where both are
pub is_eq-then : (a b : Ordering) → is_eq (ordering_then a b) ≡ (is_eq a && is_eq b)
is_eq-then Less b = refl
is_eq-then Equal b = refl
is_eq-then Greater b = refl

-- the order by bytes
abbrev pub by_bytes : KeyBytes → KeyBytes → Ordering
by_bytes = (key_order.ghosts).cmp

-- two keys are equal where their sources are
is_eq-source : (a b : KeySource) → is_eq ((source_order.ghosts).cmp a b) ≡ source_eq (key_source a) (key_source b)
is_eq-source (the_name_key a) (the_name_key b) = is_eq-slice_cmp (key_bytes a) (key_bytes b)
is_eq-source (the_name_key a) (the_id_key b) = refl
is_eq-source (the_id_key a) (the_name_key b) = refl
is_eq-source (the_id_key a) (the_id_key b) = is_eq-slice_cmp (key_bytes a) (key_bytes b)

-- two keys are equal where their local names are
is_eq-local : (a b : Option KeyBytes) → is_eq (option_cmp (key_order.ghosts).cmp a b)
    ≡ local_eq (option_map key_bytes a) (option_map key_bytes b)
is_eq-local None None = refl
is_eq-local None (Some b) = refl
is_eq-local (Some a) None = refl
is_eq-local (Some a) (Some b) = is_eq-slice_cmp (key_bytes a) (key_bytes b)

-- equality of bytes is symmetric
pub bytes_eq-turned : (a b : List ℕ) → bytes_eq a b ≡ bytes_eq b a
bytes_eq-turned a b = same_from_decides (bytes_eq a b) (bytes_eq b a)
    (λ h. sym ((bytes_eq-Decides a b).0 h), λ e. (bytes_eq-Decides a b).1 (sym e)) (bytes_eq-Decides b a)

-- equal sources are the same value
pub same_source_is : (a b : Source) → source_eq a b ≡ true → a ≡ b
same_source_is (FullName a) (FullName b) h = ap (λ x. let s : Source = FullName x in s) ((bytes_eq-Decides a b).0 h)
same_source_is (FullName a) (ObjectId b) h = cc
same_source_is (ObjectId a) (FullName b) h = cc
same_source_is (ObjectId a) (ObjectId b) h = ap (λ x. let s : Source = ObjectId x in s) ((bytes_eq-Decides a b).0 h)

-- equal local names are the same value
pub same_local_is : (a b : Option (List ℕ)) → local_eq a b ≡ true → a ≡ b
same_local_is None None h = refl
same_local_is None (Some b) h = cc
same_local_is (Some a) None h = cc
same_local_is (Some a) (Some b) h = ap (λ x. Some x) ((bytes_eq-Decides a b).0 h)

-- a source and a local name as a key
abbrev pub Key : Type 0
Key = KeySource × Option KeyBytes

-- the order of keys
abbrev pub by_key : Key → Key → Ordering
by_key a b = ordering_then ((source_order.ghosts).cmp a.0 b.0) (option_cmp (key_order.ghosts).cmp a.1 b.1)

-- two keys compare as equal where sources and local names are equal
pub is_eq-key : (a b : Key) → is_eq (by_key a b)
    ≡ (source_eq (key_source a.0) (key_source b.0) && local_eq (option_map key_bytes a.1) (option_map key_bytes b.1))
is_eq-key a b =
    is_eq-then ((source_order.ghosts).cmp a.0 b.0) (option_cmp (key_order.ghosts).cmp a.1 b.1)
    ∙ ap (λ t. t && is_eq (option_cmp (key_order.ghosts).cmp a.1 b.1)) (is_eq-source a.0 b.0)
    ∙ ap (λ t. source_eq (key_source a.0) (key_source b.0) && t) (is_eq-local a.1 b.1)
