-- The planned text: what is written of a session over recorded bodies, and which step failed.
use Rattle.std.specs.Prelude.{ℕ, ◌≡◌, ◌⊎◌, Bool, true, List, [], codes, Option, Result, Ok, Err, IsOk}
use Rattle.std.specs.Io.KnownBytes.{Appends, Keeps}
use Rattle.gixp_transport.specs.declared.bodies.Body.{Body}
use Rattle.gixp_transport.specs.declared.bodies.Bodies.{Bodies}
use Rattle.gixp_transport.specs.Bodies.{bodies_reading, IsNewBodies}
use Rattle.gixp_packetline.specs.Reading.{Reading}
use Rattle.gixp_refmap.specs.declared.refmap.init.Context.{Context}
use Rattle.gixp_refmap.specs.declared.refmap.map.RefMap.{RefMap}
use Rattle.gixp_handshake.specs.declared.handshake.read.Handshake.{Handshake}
use Rattle.gixp_fetch.specs.declared.error.Error.{Error as FetchError}
use Rattle.gixp_fetch.specs.declared.options.Outcome.{Outcome}
use Rattle.gixp_planner.specs.declared.error.PlanError.{PlanError}
use Rattle.gixp_planner.specs.Refusal.{PlanRefusal, refusal_of, IsPlanMemory, IsUnwritten}
use Rattle.gixp_planner.specs.Written.{WritesBeginning}
use Rattle.gixp_planner.specs.Specs.{IsContext, RefusesSpecs}
use Rattle.gixp_planner.specs.Text.{Course, course_shown}
use Rattle.gixp_planner.specs.Session.{Runs, end_counted}

-- the text of a session was written, and the session's error is the result; or a write failed after a beginning of it
abbrev pub Shows : Option (List ℕ) → Option (List ℕ) → Course → Result (Unit {0}) PlanError → Type 0
Shows old new course (Ok x) = Appends old new (course_shown course) × IsOk course.ended
Shows old new course (Err e) = (Appends old new (course_shown course) × (course.ended ≡ Err (refusal_of e)))
    ⊎ (WritesBeginning old new (course_shown course) × IsUnwritten e)

module _ {A X : Type 0} (Receives : RefMap → Handshake → Reading → Reading → Result (Option Outcome) (FetchError A X) → Type 0)
    (bodies : List Body) (specs : List (List ℕ)) where
  -- the course of a session over these bodies, by these refspecs; it succeeded only where no read failed
  pub record IsCourse (course : Course) : Type 0 where
    pub context : Context
    pub transport : Bodies
    pub last : Reading
    pub ran : Result Bool PlanRefusal
    pub read : IsContext specs context
    pub over : IsNewBodies bodies [] [] transport
    pub runs : Runs Receives context true (bodies_reading transport) last course.mapped ran
    pub ended : course.ended ≡ end_counted last.failures ran
    pub sent : last.held.sent ≡ course.sent

  -- a session's text was written; or a refspec is an error, or an allocation failed, and nothing was written
  pub data PlannedText (old new : Option (List ℕ)) (r : Result (Unit {0}) PlanError) : Type 0 where
    shown : (course : Course) → IsCourse course → Shows old new course r → PlannedText old new r
    refused : (e : PlanError) → r ≡ Err e → RefusesSpecs specs e ⊎ IsPlanMemory (codes "file") e → Keeps old new → PlannedText old new r

-- a failed write, or else the error of a step
abbrev pub IsOutcome : Result (Unit {0}) PlanError → Result Bool PlanError → Result (Unit {0}) PlanError → Type 0
IsOutcome (Err e) ended r = r ≡ Err e
IsOutcome (Ok x) (Err e) r = r ≡ Err e
IsOutcome (Ok x) (Ok pack) r = r ≡ Ok tt
