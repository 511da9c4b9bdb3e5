-- Calls that look commits up, one after another.
use Rattle.std.proofs.Common.{◌≡◌, ◌≤◌, ◌∙◌, ◌⊎◌, inl, inr, ⊎_elim, ℕ, refl, sym, subst, arith, Result, Ok, Err}
use Rattle.std.specs.Result.{IsErrAnd}
use Rattle.gixp_hash.specs.Failures.{HasRisen}
use Rattle.gixp_graph.specs.declared.objects.ObjectError.{ObjectError}
use Rattle.gixp_graph.specs.declared.objects.ObjectError.TheVariants as object
use Rattle.gixp_graph.specs.declared.negotiator.NegotiatorError.{NegotiatorError}
use Rattle.gixp_graph.specs.declared.negotiator.NegotiatorError.TheVariants.{Lookup, Memory}
use Rattle.gixp_graph.specs.GraphData.{GraphValue}
use Rattle.gixp_graph.specs.Refusals.{Written, ErrorIsRefusal}
use Rattle.gixp_graph.specs.Negotiation.{IsMemory, IsRefusal, ErrorIsLookupRefusal}
use Rattle.gixp_negotiators.specs.Marks.{COMMON, SEEN}
use Rattle.gixp_negotiators.specs.AddedMarks.{Grows}
use Rattle.gixp_negotiators.specs.MarkLaws.{grows_left}
use Rattle.gixp_negotiators.specs.LooksUpCommits.{LooksUpCommits, LookedUp}
use Rattle.gixp_negotiators.proofs.GrowLemmas.{grows_none, grows_on}

-- a failure that was counted since one graph was counted since an earlier one
risen_on : (a b c : ℕ) → a ≤ b → HasRisen b c → HasRisen a c
risen_on a b c le r = ⊎_elim (λ lt. inl (omega arith)) (λ e. inr e) r

refusal_on : (a b c : ℕ) (e : NegotiatorError) → a ≤ b → IsRefusal 0 0 b c e → IsRefusal 0 0 a c e
refusal_on a b c e le r = ⊎_elim (λ m. inl m) (λ more. inr (⊎_elim (λ own. inl own) (λ graph. inr (risen_on a b c le graph)) more)) r

-- marks are added to held commits
pub looked_held : (g h : GraphValue) → Grows g.graph h.graph → h.failures ≡ g.failures → h.refusals ≡ g.refusals → LookedUp g h
looked_held g h w failures refusals = record {
  grows = w;
  seen = grows_left SEEN g.graph h.graph w;
  common = grows_left COMMON g.graph h.graph w;
  failures = omega (arith, failures);
  failed = tt;
  unrefused = refusals;
  refused = tt;
}

-- no look-up
pub looked_none : (g : GraphValue) → LookedUp g g
looked_none g = looked_held g g (grows_none g.graph) refl refl

-- a call after calls that succeeded
pub looked_on : {A B : Type 0} {g h k : GraphValue} {a : A} → (r : Result B NegotiatorError) → LooksUpCommits g h (Ok a) → LooksUpCommits h k r
    → LooksUpCommits g k r
looked_on {A} {B} {g} {h} {k} {a} (Ok b) v w = record {
  grows = grows_on g.graph h.graph k.graph v.grows w.grows;
  seen = omega (arith, v.seen, w.seen);
  common = omega (arith, v.common, w.common);
  failures = omega (arith, v.failures, w.failures);
  failed = tt;
  unrefused = w.unrefused ∙ v.unrefused;
  refused = tt;
}
looked_on {A} {B} {g} {h} {k} {a} (Err e) v w = record {
  grows = grows_on g.graph h.graph k.graph v.grows w.grows;
  seen = omega (arith, v.seen, w.seen);
  common = omega (arith, v.common, w.common);
  failures = omega (arith, v.failures, w.failures);
  failed = refusal_on g.failures h.failures k.failures e v.failures w.failed;
  unrefused = tt;
  refused = subst (λ (s : Written ObjectError). ErrorIsLookupRefusal e s k.refusals) v.unrefused w.refused;
}

-- another value of a call that succeeded
pub looked_ok : {A B : Type 0} {g h : GraphValue} {a : A} {b : B} → LooksUpCommits g h (Ok a) → LooksUpCommits g h (Ok b)
looked_ok v = record {
  grows = v.grows;
  seen = v.seen;
  common = v.common;
  failures = v.failures;
  failed = tt;
  unrefused = v.unrefused;
  refused = tt;
}

-- the error of a failed call is returned
pub looked_from : {A B : Type 0} {g h : GraphValue} {e : NegotiatorError} → (r : Result B NegotiatorError) → IsErrAnd r (λ x. x ≡ e)
    → LooksUpCommits {T = A} g h (Err e) → LooksUpCommits g h r
looked_from (Ok b) is v = absurd is
looked_from {A} {B} {g} {h} {e} (Err x) is v = record {
  grows = v.grows;
  seen = v.seen;
  common = v.common;
  failures = v.failures;
  failed = subst (λ (y : NegotiatorError). IsRefusal 0 0 g.failures h.failures y) (sym is) v.failed;
  unrefused = tt;
  refused = subst (λ (y : NegotiatorError). ErrorIsLookupRefusal y g.refusals h.refusals) (sym is) v.refused;
}

unrefused_memory : (e : NegotiatorError) (s t : Written ObjectError) → IsMemory e → t ≡ s → ErrorIsLookupRefusal e s t
unrefused_memory (Lookup x) s t m is = inl (m, is)
unrefused_memory Memory s t m is = is

-- an allocation failed after calls that succeeded
pub looked_memory : {A B : Type 0} {g h : GraphValue} {a : A} → (e : NegotiatorError) → IsMemory e → LooksUpCommits {T = A} g h (Ok a)
    → LooksUpCommits {T = B} g h (Err e)
looked_memory {A} {B} {g} {h} e m v = record {
  grows = v.grows;
  seen = v.seen;
  common = v.common;
  failures = v.failures;
  failed = inl m;
  unrefused = tt;
  refused = unrefused_memory e g.refusals h.refusals m v.unrefused;
}

-- the error of the failed allocation is returned
pub looked_failed : {A B : Type 0} {g h : GraphValue} {a : A} → (e : NegotiatorError) (r : Result B NegotiatorError)
    → IsErrAnd r (λ x. x ≡ e) → IsMemory e → LooksUpCommits {T = A} g h (Ok a) → LooksUpCommits g h r
looked_failed {A} {B} e r is m v = looked_from {A = A} r is (looked_memory e m v)

pub looked_out : {A B : Type 0} {g h : GraphValue} {a : A} → (r : Result B NegotiatorError) → IsErrAnd r (λ x. x ≡ Memory)
    → LooksUpCommits {T = A} g h (Ok a) → LooksUpCommits g h r
looked_out r is v = looked_failed Memory r is tt v

-- the look-up failed
pub looked_lookup : {A : Type 0} {g h : GraphValue} → (e : ObjectError) (r : Result A NegotiatorError) → IsErrAnd r (λ x. x ≡ Lookup e)
    → h.graph ≡ g.graph → g.failures ≤ h.failures → (e ≡ object.Memory) ⊎ HasRisen g.failures h.failures
    → ErrorIsRefusal e g.refusals h.refusals → LooksUpCommits g h r
looked_lookup {A} {g} {h} e r is same failures failed refused =
    let w : Grows g.graph h.graph = subst (Grows g.graph) (sym same) (grows_none g.graph) in
    looked_from {A = A} {e = Lookup e} r is record {
      grows = w;
      seen = grows_left SEEN g.graph h.graph w;
      common = grows_left COMMON g.graph h.graph w;
      failures = failures;
      failed = ⊎_elim (λ m. inl m) (λ risen. inr (inr risen)) failed;
      unrefused = tt;
      refused = refused;
    }
