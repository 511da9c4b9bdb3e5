-- What follows from the bodies, the refspecs, the objects and the haves: the outcome of a session, and all that it sends and
-- writes.
use Rattle.std.specs.Prelude.{ℕ, ◌≡◌, ◌⊎◌, ◌++◌, ◌∷◌, Bool, true, false, List, [], codes, Option, Result, Ok, Err, IsOk}
use Rattle.std.specs.Io.KnownBytes.{Appends, Keeps}
use Rattle.gixp_transport.specs.declared.bodies.Body.{Body}
use Rattle.gixp_refmap.specs.declared.refmap.map.RefMap.{RefMap}
use Rattle.gixp_fetch.specs.Fetch.{Parties}
use Rattle.gixp_refspec.specs.declared.parse.Error.{Error as SpecError}
use Rattle.gixp_planner.specs.declared.error.PlanError.{PlanError}
use Rattle.gixp_planner.specs.Refusal.{PlanRefusal, refusal, refusal_of, spec_name, IsPlanMemory}
use Rattle.gixp_planner.specs.Specs.{specs_of}
use Rattle.gixp_planner.specs.Text.{Course, mapped_shown, course_shown}
use Rattle.gixp_planner.specs.Session.{FetchesMapped}
use Rattle.gixp_planner.specs.PlannedText.{IsCourse, PlannedText}
use Rattle.gixp_planner.specs.Mapped.{IsMapped}

-- after the requests up to its ref map a session sent those of a fetch, or none where nothing was wanted
abbrev pub AsksAfterMap : Result Bool PlanRefusal → List (List ℕ) → List (List ℕ) → Type 0
AsksAfterMap (Ok true) mapping sent = (first : List ℕ) × (later : List (List ℕ)) × (sent ≡ mapping ++ first ∷ later)
AsksAfterMap (Ok false) mapping sent = sent ≡ mapping
AsksAfterMap (Err e) mapping sent = ⊥

-- two sessions over these bodies sent the same, have the same outcome, and print the same
pub record AreSame (bodies : List Body) (specs : List (List ℕ)) (c d : Course) : Type 0 where
  pub sent : c.sent ≡ d.sent
  pub ended : c.ended ≡ d.ended
  pub printed : mapped_shown c.mapped ≡ mapped_shown d.mapped
  pub shown : course_shown c ≡ course_shown d
  pub mapping : List (List ℕ)
  pub made : RefMap
  pub mapped : IsMapped bodies specs mapping made
  pub asked : AsksAfterMap c.ended mapping c.sent

-- a plan fails with this refspec's error, or with an allocation failure
abbrev pub RefusedForSpec : SpecError → Result (Unit {0}) PlanError → Type 0
RefusedForSpec error (Ok x) = ⊥
RefusedForSpec error (Err e) = (refusal_of e ≡ refusal (codes "spec") (spec_name error)) ⊎ IsPlanMemory (codes "spec") e
    ⊎ IsPlanMemory (codes "file") e

module _ {N I A S C P X : Type 0} (parties : Parties N I A S C P X) (IsOver : RefMap → N → Type 0) (IsEmpty : S → Type 0)
    (bodies : List Body) (specs : List (List ℕ)) where
  -- a session that succeeded, over such a negotiation
  abbrev pub EndsSession : Course → Type 0
  EndsSession course = IsCourse (λ m h old new r. FetchesMapped parties (IsOver m) IsEmpty h old new r) bodies specs course
      × IsOk course.ended

  -- a session whose whole text was written
  abbrev pub IsWritten : Option (List ℕ) → Option (List ℕ) → Type 0
  IsWritten old new = PlannedText (λ m h from to r. FetchesMapped parties (IsOver m) IsEmpty h from to r) bodies specs old new (Ok tt)

module _ {N I A S C P X : Type 0} (parties : Parties N I A S C P X) (IsOne IsOther : RefMap → N → Type 0) (IsEmpty : S → Type 0)
    (bodies : List Body) (specs : List (List ℕ)) where
  -- two sessions that succeeded are the same, and the same text is written. Where a refspec is an error, each plan fails with it or with
  -- an allocation failure, and nothing is written. Where a handshake fails nothing is written
  pub record Follow : Type 0 where
    pub session : (c d : Course) → EndsSession parties IsOne IsEmpty bodies specs c → EndsSession parties IsOther IsEmpty bodies specs d
        → AreSame bodies specs c d
    pub text : (old new from to : Option (List ℕ)) → IsWritten parties IsOne IsEmpty bodies specs old new
        → IsWritten parties IsOther IsEmpty bodies specs from to
        → (written : List ℕ) × Appends old new written × Appends from to written
    pub no_specs : (error : SpecError) → specs_of specs ≡ Err error → (old new : Option (List ℕ)) (r : Result (Unit {0}) PlanError)
        → PlannedText (λ m h from to x. FetchesMapped parties (IsOne m) IsEmpty h from to x) bodies specs old new r → Keeps old new
        × RefusedForSpec error r
    pub no_greeting : (e : PlanError) → e.step.now ≡ codes "handshake" → (old new : Option (List ℕ))
        → PlannedText (λ m h from to x. FetchesMapped parties (IsOne m) IsEmpty h from to x) bodies specs old new (Err e)
        → Appends old new []
