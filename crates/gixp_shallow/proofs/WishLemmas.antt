-- Equality of the values of `Shallow`.
use Rattle.std.proofs.Common.{◌≡◌, ◌==◌, ℕ, Bool, true, false, List, map, Option, Some, None, sym, ap, ◌∙◌, refl}
use Rattle.std.specs.Prelude.{ℤ, ◌&&◌}
use Rattle.std.specs.Bool.{Decides}
use Rattle.std.specs.Cmp.Lexicographic.{pointwise}
use Rattle.std.specs.Cmp.Derive.Mapped.{pointwise-map}
use Rattle.std.specs.Option.{option_eq}
use Rattle.std.specs.Ordering.{int_eq}
use Rattle.std.specs.Str.{bytes_eq}
use Rattle.std.proofs.lemmas.Bool.{false≢true}
use Rattle.std.proofs.lemmas.Bool.Decides.{Decides-eqb, Decides-int_eq}
use Rattle.std.proofs.lemmas.Slice.Eq.{bytes_eq-Decides, slice_eq-Decides}
use Rattle.gixp_refspec.specs.declared.name.PartialName.{PartialName}
use Rattle.gixp_refspec.specs.PartialName.{name_bytes}
use Rattle.gixp_shallow.specs.declared.shallow.Shallow.{Shallow}
use Rattle.gixp_shallow.specs.declared.shallow.Shallow.TheVariants.{NoChange, DepthAtRemote, Deepen, Since, Exclude}
use Rattle.gixp_shallow.specs.contracts.shallow.ShallowPartialEq.TheImpl.{eq-value}
use Rattle.gixp_shallow.specs.Shallow.{ShallowValue, at_remote, deepens, since, excludes, shallow_value}

-- values of different kinds differ
apart : {P : Type 0} {r : Bool} → r ≡ false → ¬ P → Decides r P
apart e other = (λ t. absurd (false≢true (sym e ∙ t)), λ p. absurd (other p))

by_number : {x y : ℕ} {r : Bool} (made : ℕ → ShallowValue) → (made x ≡ made y → x ≡ y) → r ≡ (x == y) → Decides r (made x ≡ made y)
by_number {x} {y} made one e = (λ t. ap made ((Decides-eqb x y).0 (sym e ∙ t)), λ h. e ∙ (Decides-eqb x y).1 (one h))

both : (a b : Bool) {P Q : Type 0} → Decides a P → Decides b Q → Decides (a && b) (P × Q)
both true b p q = (λ t. (p.0 refl, q.0 t), λ h. q.1 h.1)
both false b p q = (λ t. absurd (false≢true t), λ h. p.1 h.0)

same_cutoff : (s t : Option ℤ) → Decides (option_eq int_eq s t) (s ≡ t)
same_cutoff None None = (λ t. refl, λ h. refl)
same_cutoff None (Some y) = apart refl (λ h. cc)
same_cutoff (Some x) None = apart refl (λ h. cc)
same_cutoff (Some x) (Some y) = (
  λ t. ap (λ z. Some z) ((Decides-int_eq x y).0 t),
  λ h. (Decides-int_eq x y).1
      (let same : x ≡ y = cc in same),
)

same_exclusion : (xs ys : List PartialName) (s t : Option ℤ) (r : Bool)
    → r ≡ (pointwise (λ x y. bytes_eq (name_bytes x) (name_bytes y)) xs ys && option_eq int_eq s t)
    → Decides r (excludes (map name_bytes xs) s ≡ excludes (map name_bytes ys) t)
same_exclusion xs ys s t r e =
    let names = slice_eq-Decides bytes_eq-Decides (map name_bytes xs) (map name_bytes ys)
    (pointwise (λ x y. bytes_eq (name_bytes x) (name_bytes y)) xs ys) (sym (pointwise-map name_bytes bytes_eq xs ys)) in
    let whole = both (pointwise (λ x y. bytes_eq (name_bytes x) (name_bytes y)) xs ys) (option_eq int_eq s t) names (same_cutoff s t) in (
      λ h. (let one = whole.0 (sym e ∙ h) in ap (λ ns. excludes ns s) one.0 ∙ ap (λ c. excludes (map name_bytes ys) c) one.1),
      λ h. e ∙ whole.1 ((let p : map name_bytes xs ≡ map name_bytes ys = cc in p), (let q : s ≡ t = cc in q)),
    )

-- two values are equal exactly if their plain data are
pub same_boundary : (a b : Shallow) (r : Bool) → r ≡ eq-value.it a b → Decides r (shallow_value a ≡ shallow_value b)
same_boundary NoChange NoChange r e = (λ t. refl, λ h. e)
same_boundary NoChange (DepthAtRemote y) r e = apart e (λ h. cc)
same_boundary NoChange (Deepen y) r e = apart e (λ h. cc)
same_boundary NoChange (Since y) r e = apart e (λ h. cc)
same_boundary NoChange (Exclude y t) r e = apart e (λ h. cc)
same_boundary (DepthAtRemote x) NoChange r e = apart e (λ h. cc)
same_boundary (DepthAtRemote x) (DepthAtRemote y) r e = by_number at_remote (λ h. cc) e
same_boundary (DepthAtRemote x) (Deepen y) r e = apart e (λ h. cc)
same_boundary (DepthAtRemote x) (Since y) r e = apart e (λ h. cc)
same_boundary (DepthAtRemote x) (Exclude y t) r e = apart e (λ h. cc)
same_boundary (Deepen x) NoChange r e = apart e (λ h. cc)
same_boundary (Deepen x) (DepthAtRemote y) r e = apart e (λ h. cc)
same_boundary (Deepen x) (Deepen y) r e = by_number deepens (λ h. cc) e
same_boundary (Deepen x) (Since y) r e = apart e (λ h. cc)
same_boundary (Deepen x) (Exclude y t) r e = apart e (λ h. cc)
same_boundary (Since x) NoChange r e = apart e (λ h. cc)
same_boundary (Since x) (DepthAtRemote y) r e = apart e (λ h. cc)
same_boundary (Since x) (Deepen y) r e = apart e (λ h. cc)
same_boundary (Since x) (Since y) r e = (
  λ t. ap since ((Decides-int_eq x y).0 (sym e ∙ t)),
  λ h. e ∙ (Decides-int_eq x y).1 (let same : x ≡ y = cc in same),
)
same_boundary (Since x) (Exclude y t) r e = apart e (λ h. cc)
same_boundary (Exclude x s) NoChange r e = apart e (λ h. cc)
same_boundary (Exclude x s) (DepthAtRemote y) r e = apart e (λ h. cc)
same_boundary (Exclude x s) (Deepen y) r e = apart e (λ h. cc)
same_boundary (Exclude x s) (Since y) r e = apart e (λ h. cc)
same_boundary (Exclude x s) (Exclude y t) r e = same_exclusion x.items y.items s t r e
