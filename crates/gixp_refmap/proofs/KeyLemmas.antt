-- Texts as the keys of a set in insertion order.
use Rattle.std.proofs.Common.{◌≡◌, ℕ, Bool, true, false, List, [], ◌∷◌, ◌++◌, map, refl, sym, ◌∙◌}
use Rattle.std.specs.Bool.{one_answer, if◌then◌else◌}
use Rattle.std.specs.List.{list_any}
use Rattle.std.specs.Str.{bytes_eq}
use Rattle.std.proofs.lemmas.List.{map-append}
use Rattle.std.proofs.lemmas.Slice.Eq.{bytes_eq-Decides}
use Rattle.bstr.specs.declared.bstring.BString.{BString}
use Rattle.bstr.specs.Owned.{bstring_bytes}
use Rattle.indexmap.specs.IndexSet.{insert_key}
use Rattle.gixp_refmap.specs.Prefixes.{is_among, with_text}

turned : (a b : List ℕ) → bytes_eq a b ≡ bytes_eq b a
turned a b =
    let d = bytes_eq-Decides a b in
    let e = bytes_eq-Decides b a in
    one_answer (bytes_eq a b) (bytes_eq b a) d (λ t. sym (e.0 t), λ h. e.1 (sym h))

-- a key is among others where its text is among theirs
pub among_keys : (eq : BString → BString → Bool) → ((a b : BString) → eq a b ≡ bytes_eq (bstring_bytes a) (bstring_bytes b))
    → (keys : List BString) (key : BString)
    → list_any (eq key) keys ≡ is_among (map bstring_bytes keys) (bstring_bytes key)
among_keys eq same [] key = refl
among_keys eq same (k ∷ ks) key = rw (same key k, turned (bstring_bytes key) (bstring_bytes k), among_keys eq same ks key) refl

kept_or_after : (b : Bool) (keys : List BString) (key : BString)
    → map bstring_bytes (if b then keys else keys ++ key ∷ [])
    ≡ (if b then map bstring_bytes keys else map bstring_bytes keys ++ bstring_bytes key ∷ [])
kept_or_after true keys key = refl
kept_or_after false keys key = map-append bstring_bytes keys (key ∷ [])

-- the texts after an insertion
pub inserted_text : (eq : BString → BString → Bool) → ((a b : BString) → eq a b ≡ bytes_eq (bstring_bytes a) (bstring_bytes b))
    → (keys : List BString) (key : BString)
    → map bstring_bytes (insert_key eq keys key) ≡ with_text (map bstring_bytes keys) (bstring_bytes key)
inserted_text eq same keys key = kept_or_after (list_any (eq key) keys) keys key ∙ rw (among_keys eq same keys key) refl
