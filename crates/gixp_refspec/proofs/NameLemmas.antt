-- What the tests of names mean.
use Rattle.std.proofs.Common.{◌≡◌, ℕ, ◌+◌, ◌≤◌, Bool, true, List, [], ◌∷◌, length, nat_eq, refl, arith, inl, inr, zero, suc}
use Rattle.std.specs.Prelude.{◌↔◌, ◌⊎◌}
use Rattle.std.specs.Bool.{Decides}
use Rattle.std.specs.List.{starts_with}
use Rattle.std.proofs.lemmas.Bool.{or_cases, or_left, or_right, eqb-true, eq-eqb}
use Rattle.std.proofs.lemmas.Bool.Decides.{same_from_decides, Decides-eqb}
use Rattle.std.proofs.lemmas.Slice.Eq.{starts_is}
use Rattle.std.proofs.lemmas.List.Prefix.{front_reads, front_from_reads, front_fits}
use Rattle.bstr.specs.Find.{OccursAt}
use Rattle.bstr.specs.Text.{Contains}
use Rattle.gixp_refspec.specs.Name.{occurs}

-- a text that the bytes begin with occurs at 0
pub starts-occurs_at : (text bytes : List ℕ) → starts_with nat_eq bytes text ≡ true → OccursAt bytes text 0
starts-occurs_at text bytes h =
    let e = (starts_is Decides-eqb bytes text (starts_with nat_eq bytes text) refl).0 h in
    let fits : length text ≤ length bytes = front_fits bytes text _ e in
    record {
      fits = omega arith;
      reads = λ j l. let k : 0 + j ≡ j = omega arith in rw k (front_reads 0 bytes text _ e j l);
    }

-- a text that occurs at 0 begins the bytes
pub starts-from_occurs_at : (text bytes : List ℕ) → OccursAt bytes text 0 → starts_with nat_eq bytes text ≡ true
starts-from_occurs_at text bytes h =
    let fits : length text ≤ length bytes = omega (arith, h.fits) in
    let e = front_from_reads 0 bytes text fits (λ j l. let k : 0 + j ≡ j = omega arith in rw k at (h.reads j l)) in
    (starts_is Decides-eqb bytes text (starts_with nat_eq bytes text) refl).1 _ e

-- with one more byte at the front, each offset rises by one
occurs_later : (text : List ℕ) (b : ℕ) (bytes : List ℕ) (k : ℕ) → OccursAt bytes text k → OccursAt (b ∷ bytes) text (suc k)
occurs_later text b bytes k h = record {
  fits = omega (arith, h.fits);
  reads = λ j l. let e : suc k + j ≡ suc (k + j) = omega arith in rw e (h.reads j l);
}

-- without the first byte, each later offset falls by one
occurs_before : (text : List ℕ) (b : ℕ) (bytes : List ℕ) (k : ℕ) → OccursAt (b ∷ bytes) text (suc k) → OccursAt bytes text k
occurs_before text b bytes k h = record {
  fits = omega (arith, h.fits);
  reads = λ j l. let e : suc k + j ≡ suc (k + j) = omega arith in rw e at (h.reads j l);
}

-- a text that occurs, occurs at 0 or later
occurs_first_or_later : (text : List ℕ) (b : ℕ) (bytes : List ℕ) (k : ℕ) → OccursAt (b ∷ bytes) text k → (OccursAt (b ∷ bytes) text 0)
    ⊎ Contains bytes text
occurs_first_or_later text b bytes zero h = inl h
occurs_first_or_later text b bytes (suc k) h = inr (k, occurs_before text b bytes k h)

-- `occurs` is true exactly where the text occurs at some offset
pub occurs-Decides : (text bytes : List ℕ) → Decides (occurs text bytes) (Contains bytes text)
occurs-Decides text [] = (
  λ h. let e : length text ≡ 0 = eqb-true _ _ h in (0, record { fits = omega arith; reads = λ j l. absurd (omega arith) }),
  λ (k, h). eq-eqb _ _ (omega (arith, h.fits)),
)
occurs-Decides text (b ∷ bytes) = (
  λ h. elim (or_cases (starts_with nat_eq (b ∷ bytes) text) (occurs text bytes) h) [
    | inl s ↦ (0, starts-occurs_at text (b ∷ bytes) s)
    | inr s ↦ (let r = (occurs-Decides text bytes).0 s in (suc r.0, occurs_later text b bytes r.0 r.1))
  ],
  λ (k, h). elim (occurs_first_or_later text b bytes k h) [
    | inl s ↦ or_left _ _ (starts-from_occurs_at text (b ∷ bytes) s)
    | inr s ↦ or_right _ _ ((occurs-Decides text bytes).1 s)
  ],
)

-- a test that says whether the text occurs is `occurs`
pub occurs_from_iff : (r : Bool) (text bytes : List ℕ) → ((r ≡ true) ↔ Contains bytes text) → r ≡ occurs text bytes
occurs_from_iff r text bytes h = same_from_decides r (occurs text bytes) (h.0, h.1) (occurs-Decides text bytes)
