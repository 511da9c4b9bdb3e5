-- The count of failures after a pack that was taken is the one in front of it.
use Rattle.std.proofs.Common.{◌≡◌, Bool, true, false, refl, ap, ◌∙◌}
use Rattle.std.specs.Prelude.{Result, Ok}
use Rattle.gixp_packetline.specs.Reading.{Reading}
use Rattle.gixp_sidebands.specs.Bands.{Side, is_begun}
use Rattle.gixp_fetch.specs.Receive.{Finishes, GivesBack}
use Rattle.gixp_fetch.specs.Received.{Received}

-- a consumer that takes a pack counts no failure
abbrev pub CountsNone : {C P X : Type 0} → (C → Side → P → Result Bool X → C → Side → P → Type 0) → Type 0
CountsNone {C = C} {P = P} consumes = (c : C) (s : Side) (p : P) (finished : Bool) (d : C) (t : Side) (q : P)
    → consumes c s p (Ok finished) d t q → t.reading.failures ≡ s.reading.failures

finished-failures : (finished : Bool) (old new : Side) → Finishes finished old new → new.reading.failures ≡ old.reading.failures
finished-failures true old new f = (f.drains refl).failures
finished-failures false old new f = ap (λ (s : Side). s.reading.failures) (f.stays refl)

pub back-failures : (s : Side) (new : Reading) → GivesBack s new → new.failures ≡ s.reading.failures
back-failures s new b = at (is_begun s.place) refl
  where
    at : (x : Bool) → is_begun s.place ≡ x → new.failures ≡ s.reading.failures
    at true e = (b.begun e).failures
    at false e = ap (λ (r : Reading). r.failures) (b.fresh e)

pub received-failures : {C P X : Type 0} (consumes : C → Side → P → Result Bool X → C → Side → P → Type 0) → CountsNone consumes
    → (c : C) (from : Reading) (d : C) (new : Reading) (q : P) → Received consumes c from d new q
    → new.failures ≡ from.failures
received-failures consumes none c from d new q r = back-failures r.end new r.back ∙ finished-failures r.finished r.mid r.end r.finishes
    ∙ none c _ r.p r.finished d r.mid q r.consumed.took
