-- The steps of reading a line of an advertisement, and a symref.
use Rattle.std.proofs.Common.{◌≡◌, ℕ, List, [], ◌∷◌, length, refl, sym, ap, ◌∙◌, arith, Option, Some, None, Result, Ok, Err}
use Rattle.std.specs.Prelude.{true, false, codes, MatchResult}
use Rattle.std.specs.Char.{is_whitespace}
use Rattle.bstr.specs.Trim.{trim_end_by}
use Rattle.gixp_capabilities.specs.Cut.{cut}
use Rattle.gixp_capabilities.specs.Capabilities.{CapabilityValue, capability_of, is_text}
use Rattle.gixp_refs.specs.RefLine.{RefsRefusal, and_then, malformed_v1, malformed_symref}
use Rattle.gixp_refs.specs.RefAdvertisement.{Symref, symref_by, symref_of, symref_in, line_by_parts, line_by_path, v1_line}
use Rattle.gixp_records.specs.declared.advertised.refused.AdvertisedLineRefused.{AdvertisedLineRefused}
use Rattle.gixp_records.specs.V1RecordLine.{IsRefusedAs}

-- equal results have equal errors
pub refused_same : {A : Type 0} (o p : Result A RefsRefusal) (e : AdvertisedLineRefused) → o ≡ p → IsRefusedAs p e → IsRefusedAs o e
refused_same o p e h j = (j.0, h ∙ j.1, j.2)

pub answered_same : {A B : Type 0} (view : A → Result B RefsRefusal) (o p : Result B RefsRefusal) (r : Result A AdvertisedLineRefused)
    → o ≡ p → MatchResult r (λ x. p ≡ view x) (IsRefusedAs p) → MatchResult r (λ x. o ≡ view x) (IsRefusedAs o)
answered_same view o p (Ok x) h m = h ∙ m
answered_same view o p (Err e) h m = refused_same o p e h m

parts_empty : (text left path : List ℕ) → length path ≡ 0 → line_by_parts text (left, Some path) ≡ Err (malformed_v1 text)
parts_empty text left [] z = refl
parts_empty text left (x ∷ xs) z = absurd (omega arith)

parts_some : (text left path : List ℕ) → (length path ≡ 0 → ⊥) → line_by_parts text (left, Some path) ≡ line_by_path left path
parts_some text left [] z = absurd (z refl)
parts_some text left (x ∷ xs) z = refl

parts_of : (text trimmed left : List ℕ) (path : Option (List ℕ)) → trimmed ≡ trim_end_by is_whitespace text
    → cut 32 trimmed ≡ (left, path) → v1_line text ≡ line_by_parts trimmed (left, path)
parts_of text trimmed left path t c = ap (λ x. line_by_parts x (cut 32 x)) (sym t) ∙ ap (line_by_parts trimmed) c

pub path_none : (text trimmed left : List ℕ) → trimmed ≡ trim_end_by is_whitespace text → cut 32 trimmed ≡ (left, None)
    → v1_line text ≡ Err (malformed_v1 trimmed)
path_none text trimmed left t c = parts_of text trimmed left None t c

pub path_empty : (text trimmed left path : List ℕ) → trimmed ≡ trim_end_by is_whitespace text → cut 32 trimmed ≡ (left, Some path)
    → length path ≡ 0 → v1_line text ≡ Err (malformed_v1 trimmed)
path_empty text trimmed left path t c z = parts_of text trimmed left (Some path) t c ∙ parts_empty trimmed left path z

pub path_some : (text trimmed left path : List ℕ) → trimmed ≡ trim_end_by is_whitespace text → cut 32 trimmed ≡ (left, Some path)
    → (length path ≡ 0 → ⊥) → v1_line text ≡ line_by_path left path
path_some text trimmed left path t c z = parts_of text trimmed left (Some path) t c ∙ parts_some trimmed left path z

pub symref_nameless : (value name target : List ℕ) → length name ≡ 0 → symref_by value (name, Some target) ≡ Err (malformed_symref value)
symref_nameless value [] target z = refl
symref_nameless value (x ∷ xs) target z = absurd (omega arith)

pub symref_targetless : (value name target : List ℕ) → length target ≡ 0
    → symref_by value (name, Some target) ≡ Err (malformed_symref value)
symref_targetless value [] target z = refl
symref_targetless value (x ∷ xs) [] z = refl
symref_targetless value (x ∷ xs) (y ∷ ys) z = absurd (omega arith)

-- a symref whose target the server doesn't name
pub symref_null : (value name target : List ℕ) → (length name ≡ 0 → ⊥) → (length target ≡ 0 → ⊥)
    → is_text target (codes "(null)") ≡ true → symref_by value (name, Some target) ≡ Ok (record { name = name; target = None })
symref_null value [] target n z h = absurd (n refl)
symref_null value (x ∷ xs) [] n z h = absurd (z refl)
symref_null value (x ∷ xs) (y ∷ ys) n z h = rw h refl

capability_cut : (text name : List ℕ) (value : Option (List ℕ)) → cut 61 text ≡ (name, value)
    → capability_of text ≡ record { name = name; value = value }
unfolding capability_of
capability_cut text name value e =
    ap (λ (c : List ℕ × Option (List ℕ)). let made : CapabilityValue = record { name = c.0; value = c.1 } in made) e

-- a capability of another name
pub symref_other_name : (text name : List ℕ) (value : Option (List ℕ)) → cut 61 text ≡ (name, value)
    → is_text name (codes "symref") ≡ false → symref_in (capability_of text) ≡ Ok None
symref_other_name text name value e h = ap symref_in (capability_cut text name value e) ∙ (rw h refl)

-- a capability `symref`
pub symref_this_name : (text name : List ℕ) (value : Option (List ℕ)) → cut 61 text ≡ (name, value)
    → is_text name (codes "symref") ≡ true → symref_in (capability_of text) ≡ symref_of value
symref_this_name text name value e h = ap symref_in (capability_cut text name value e) ∙ (rw h refl)

pub symref_told : (text name value : List ℕ) (s : Symref) → cut 61 text ≡ (name, Some value)
    → is_text name (codes "symref") ≡ true → symref_by value (cut 58 value) ≡ Ok s → symref_in (capability_of text) ≡ Ok (Some s)
symref_told text name value s e h o =
    symref_this_name text name (Some value) e h ∙ ap (λ r. and_then r (λ (x : Symref). Ok (Some x))) o

pub symref_wrong : (text name value : List ℕ) (e : AdvertisedLineRefused) → cut 61 text ≡ (name, Some value)
    → is_text name (codes "symref") ≡ true → IsRefusedAs (symref_by value (cut 58 value)) e
    → IsRefusedAs (symref_in (capability_of text)) e
symref_wrong text name value e c h j =
    (j.0, symref_this_name text name (Some value) c h ∙ ap (λ r. and_then r (λ (x : Symref). Ok (Some x))) j.1, j.2)
