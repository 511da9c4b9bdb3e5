-- Answers after which no failure is counted: each is the one that is found in the pieces to come.
use Rattle.std.proofs.Common.{◌≡◌, ℕ, Bool, true, false, List, Some, inl, inr, refl, sym, ap, ◌∙◌, arith}
use Rattle.std.specs.Option.{option_map}
use Rattle.gixp_packetline.specs.declared.protocol.Protocol.{Protocol}
use Rattle.gixp_packetline.specs.Pieces.{Pieces}
use Rattle.gixp_packetline.specs.Reading.{Reading, Rose}
use Rattle.gixp_transport.specs.Transport.{SentBy}
use Rattle.gixp_sidebands.specs.Bands.{unband}
use Rattle.gixp_response.specs.Answer.{AnswerValue, Found, whole}
use Rattle.gixp_response.specs.AnswerReading.{Answered}
use Rattle.gixp_fetch.specs.View.{view}
use Rattle.gixp_planner.proofs.MappedLemmas.{if-known}

-- after a failure the count isn't 0
pub never-none : (old new : ℕ) → Rose old new → new ≡ 0 → ⊥
never-none old new r e = omega arith

same-value : (x y : AnswerValue) (p q : Pieces) → whole x p ≡ whole y q → x ≡ y
same-value x y p q e = cc

module _ (found : Pieces → Found) (under : Protocol) where
  pub found-in : (old new : Reading) (p : Pieces) (x : AnswerValue) → old.to_come ≡ Some p → new.failures ≡ 0
      → Answered found under old new x → (q : Pieces) × (found p ≡ whole x q)
  found-in old new p x e z (inl r) = let a = if-known _ old.to_come p e r.answer in (a.0, a.2)
  found-in old new p x e z (inr b) = absurd (never-none old.failures new.failures b.failures z)

  -- of the same pieces the same answer
  pub same-answer : (a b c d : Reading) (p : Pieces) (x y : AnswerValue) → a.to_come ≡ Some p → b.to_come ≡ Some p → c.failures ≡ 0
      → d.failures ≡ 0 → Answered found under a c x → Answered found under b d y → x ≡ y
  same-answer a b c d p x y e f z w l r =
      let one = found-in a c p x e z l in
      let other = found-in b d p y f w r in
      same-value x y one.0 other.0 (sym one.1 ∙ other.1)

  -- what is counted after an answer was counted before it, or the answer was cut short
  none-before : (old new : Reading) (x : AnswerValue) → Answered found under old new x → new.failures ≡ 0 → old.failures ≡ 0
  none-before old new x (inl r) z = sym r.failures ∙ z
  none-before old new x (inr b) z = absurd (never-none old.failures new.failures b.failures z)

-- a request that went out counts no failure
pub sent-failures : (persists : Bool) (old new : Reading) (bytes : List ℕ) → SentBy persists old new bytes → new.failures ≡ old.failures
sent-failures true old new bytes s = ap (λ (r : Reading). r.failures) s.2.rest ∙ ap (λ (r : Reading). r.failures) s.1.rest
sent-failures false old new bytes s = s.1.1

-- ---- through the bands

abbrev pub viewed : Bool → Pieces → Pieces
viewed false p = p
viewed true p = unband p

pub view-come : (banded : Bool) (r : Reading) (p : Pieces) → r.to_come ≡ Some p → (view banded r).to_come ≡ Some (viewed banded p)
unfolding view
view-come false r p e = e
view-come true r p e = ap (option_map unband) e

pub view-failures : (banded : Bool) (r : Reading) → (view banded r).failures ≡ r.failures
unfolding view
view-failures false r = refl
view-failures true r = refl

view-version : (banded : Bool) (r : Reading) → (view banded r).version ≡ r.version
unfolding view
view-version false r = refl
view-version true r = refl

module _ (found : Pieces → Found) (under : Protocol) (banded : Bool) (old new : Reading) (x : AnswerValue) where
  -- a reader after an answer knows the stops of its version
  pub answered-version : Answered found under old (view banded new) x → new.version ≡ under
  answered-version (inl r) = sym (view-version banded new) ∙ r.version
  answered-version (inr b) = sym (view-version banded new) ∙ b.version

  pub answered-none : Answered found under (view banded old) (view banded new) x → new.failures ≡ 0 → old.failures ≡ 0
  answered-none a z = sym (view-failures banded old)
      ∙ none-before found under (view banded old) (view banded new) x a (view-failures banded new ∙ z)
