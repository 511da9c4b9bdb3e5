-- Lines that lose white space.
use Rattle.std.proofs.Common.{◌≡◌, ℕ, zero, suc, ◌<◌, ◌≤◌, nat_le, ◌||◌, Bool, true, false, List, [], ◌∷◌, refl, sym, ap, ◌∙◌, arith, MatchBool, slice_index, Result, Ok, Err}
use Rattle.std.specs.List.{list_any}
use Rattle.std.specs.Str.{IsAscii, IsNotAscii}
use Rattle.std.proofs.lemmas.Bool.Decides.{nat_tests}
use Rattle.gixp_refs.specs.Ref.{RefValue}
use Rattle.gixp_refs.specs.RefLine.{RefsRefusal, malformed_v1, malformed_v2, v2_line}
use Rattle.gixp_refs.specs.RefAdvertisement.{V1Line, v1_line}
use Rattle.gixp_records.specs.declared.line.LineRefused.{LineRefused}
use Rattle.gixp_records.specs.declared.line.LineRefused.TheVariants.{Malformed}
use Rattle.gixp_records.specs.declared.advertised.refused.AdvertisedLineRefused.{AdvertisedLineRefused}
use Rattle.gixp_records.specs.declared.advertised.refused.AdvertisedLineRefused.TheVariants.{Malformed as BadLine}
use Rattle.gixp_records.specs.RecordLine.{Judges}
use Rattle.gixp_records.specs.V1RecordLine.{IsRefusedAs}
use Rattle.gixp_records.specs.ListedLine.{loses_white_space, unless_lossy, listed_v1, listed_v2}

is_wide : (b : ℕ) → 128 ≤ b → nat_le 128 b ≡ true
is_wide b h = grind (arith, nat_tests)

is_narrow : (b : ℕ) → b < 128 → nat_le 128 b ≡ false
is_narrow b h = grind (arith, nat_tests)

either : (a b : Bool) → b ≡ true → (a || b) ≡ true
either true b e = refl
either false b e = e

neither : (a b : Bool) → a ≡ false → b ≡ false → (a || b) ≡ false
neither true b e f = e
neither false b e f = f

wide : (t : List ℕ) (i : ℕ) → 128 ≤ slice_index t i → list_any (λ b. nat_le 128 b) t ≡ true
wide [] i h = absurd (omega arith)
wide (b ∷ t) zero h = ap (λ x. x || list_any (λ c. nat_le 128 c) t) (is_wide b h)
wide (b ∷ t) (suc i) h = either (nat_le 128 b) (list_any (λ c. nat_le 128 c) t) (wide t i h)

narrow : (t : List ℕ) → IsAscii t → list_any (λ b. nat_le 128 b) t ≡ false
narrow [] h = refl
narrow (b ∷ t) h = neither (nat_le 128 b) (list_any (λ c. nat_le 128 c) t) (is_narrow b (h 0)) (narrow t (λ i. h (suc i)))

-- some byte is outside ASCII, or none is
pub wide_by : (t : List ℕ) (r : Bool) → MatchBool r (IsNotAscii t) (IsAscii t) → r ≡ list_any (λ b. nat_le 128 b) t
wide_by t true h = sym (wide t h.0 h.1)
wide_by t false h = sym (narrow t h)

unless-err : {A : Type 0} (o : Result A RefsRefusal) (lossy : Bool) (m e : RefsRefusal) → o ≡ Err e → unless_lossy o lossy m ≡ Err e
unless-err o lossy m e h = ap (λ x. unless_lossy x lossy m) h

unless-lossy : {A : Type 0} (o : Result A RefsRefusal) (lossy : Bool) (m : RefsRefusal) (x : A) → o ≡ Ok x → lossy ≡ true
    → unless_lossy o lossy m ≡ Err m
unless-lossy o lossy m x h k = ap (λ r. unless_lossy r lossy m) h ∙ ap (λ b. unless_lossy (Ok x) b m) k

unless-kept : {A : Type 0} (o : Result A RefsRefusal) (lossy : Bool) (m : RefsRefusal) (x : A) → o ≡ Ok x → lossy ≡ false
    → unless_lossy o lossy m ≡ Ok x
unless-kept o lossy m x h k = ap (λ r. unless_lossy r lossy m) h ∙ ap (λ b. unless_lossy (Ok x) b m) k

unless-ok : {A : Type 0} (o : Result A RefsRefusal) (lossy : Bool) (m : RefsRefusal) (x : A) → unless_lossy o lossy m ≡ Ok x
    → (o ≡ Ok x) × (lossy ≡ false)
unless-ok (Err e) lossy m x h = absurd cc
unless-ok (Ok y) true m x h = absurd cc
unless-ok (Ok y) false m x h = (h, refl)

-- a line with an error of its own
pub v2_listed-err : (text : List ℕ) (e : LineRefused) → Judges (v2_line text) e → Judges (listed_v2 text) e
v2_listed-err text e j = (j.0, unless-err (v2_line text) (loses_white_space text) (malformed_v2 text) j.0 j.1, j.2)

-- a ref whose line loses white space
pub v2_listed-lossy : (text : List ℕ) (v : RefValue) → v2_line text ≡ Ok v → loses_white_space text ≡ true
    → Judges (listed_v2 text) Malformed
v2_listed-lossy text v h k = (
  malformed_v2 text,
  unless-lossy (v2_line text) (loses_white_space text) (malformed_v2 text) v h k,
  refl,
)

-- a ref whose line loses none
pub v2_listed-kept : (text : List ℕ) (v : RefValue) → v2_line text ≡ Ok v → loses_white_space text ≡ false → listed_v2 text ≡ Ok v
v2_listed-kept text v h k = unless-kept (v2_line text) (loses_white_space text) (malformed_v2 text) v h k

pub v2_listed-ok : (text : List ℕ) (v : RefValue) → listed_v2 text ≡ Ok v → (v2_line text ≡ Ok v) × (loses_white_space text ≡ false)
v2_listed-ok text v h = unless-ok (v2_line text) (loses_white_space text) (malformed_v2 text) v h

-- the same for a line of an advertisement
pub v1_listed-err : (text : List ℕ) (e : AdvertisedLineRefused) → IsRefusedAs (v1_line text) e → IsRefusedAs (listed_v1 text) e
v1_listed-err text e j = (j.0, unless-err (v1_line text) (loses_white_space text) (malformed_v1 text) j.0 j.1, j.2)

pub v1_listed-lossy : (text : List ℕ) (v : V1Line) → v1_line text ≡ Ok v → loses_white_space text ≡ true
    → IsRefusedAs (listed_v1 text) BadLine
v1_listed-lossy text v h k = (
  malformed_v1 text,
  unless-lossy (v1_line text) (loses_white_space text) (malformed_v1 text) v h k,
  refl,
)

pub v1_listed-kept : (text : List ℕ) (v : V1Line) → v1_line text ≡ Ok v → loses_white_space text ≡ false → listed_v1 text ≡ Ok v
v1_listed-kept text v h k = unless-kept (v1_line text) (loses_white_space text) (malformed_v1 text) v h k
