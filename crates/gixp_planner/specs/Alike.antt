-- Sessions over recorded bodies, also failed ones: their requests, the text of their ref maps and their outcome follow from the bodies,
-- the refspecs, the objects and the haves.
use Rattle.std.specs.Prelude.{ℕ, ◌≡◌, ◌⊎◌, ⊤, Bool, List, codes, Option, Result, Ok, Err}
use Rattle.gixp_packetline.specs.declared.read.Error.{Error as ReadError}
use Rattle.gixp_packetline.specs.declared.read.Error.TheVariants as read
use Rattle.gixp_transport.specs.declared.bodies.Body.{Body}
use Rattle.gixp_refmap.specs.declared.refmap.map.RefMap.{RefMap}
use Rattle.gixp_negotiate.specs.Negotiate.{IsOwn}
use Rattle.gixp_fetch.specs.declared.consume.copy.CopyError.{CopyError}
use Rattle.gixp_fetch.specs.declared.consume.copy.CopyError.TheVariants as copy
use Rattle.gixp_fetch.specs.declared.error.Error.{Error as FetchError}
use Rattle.gixp_fetch.specs.declared.error.Error.TheVariants as fetch
use Rattle.gixp_fetch.specs.declared.options.Outcome.{Outcome}
use Rattle.gixp_fetch.specs.Fetch.{Parties}
use Rattle.gixp_planner.specs.Refusal.{PlanRefusal, refusal}
use Rattle.gixp_planner.specs.Session.{FetchesMapped}
use Rattle.gixp_planner.specs.Text.{Course, mapped_shown, course_shown}
use Rattle.gixp_planner.specs.PlannedText.{IsCourse}

-- a read failed for an interrupt
abbrev pub IsInterrupted : ReadError → Type 0
IsInterrupted read.Interrupted = ⊤
IsInterrupted _ = ⊥

-- the pack's consumer failed for an interrupt, or an allocation failed for its messages
abbrev pub IsPackDisturbed : CopyError → Type 0
IsPackDisturbed (copy.Read read.Memory) = ⊤
IsPackDisturbed (copy.Read e) = IsInterrupted e
IsPackDisturbed (copy.Write kind) = ⊥

-- the repository, its boundary, an interrupt or an allocation failure made a fetch fail: no body determines this
abbrev pub IsDisturbed : {A : Type 0} → FetchError A CopyError → Type 0
IsDisturbed (fetch.Negotiate e) = IsOwn e
IsDisturbed (fetch.FetchResponse e) = ⊥
IsDisturbed (fetch.WriteShallowFile e) = ⊤
IsDisturbed (fetch.ReadShallowFile e) = ⊤
IsDisturbed (fetch.LockShallowFile e) = ⊤
IsDisturbed (fetch.Client e) = ⊥
IsDisturbed (fetch.MissingServerFeature feature description) = ⊥
IsDisturbed fetch.RejectShallowRemote = ⊥
IsDisturbed (fetch.ConsumePack e) = IsPackDisturbed e
IsDisturbed (fetch.ReadRemainingBytes e) = IsInterrupted e
IsDisturbed fetch.Memory = ⊥

abbrev pub IsUndisturbed : {A : Type 0} → Result (Option Outcome) (FetchError A CopyError) → Type 0
IsUndisturbed (Ok o) = ⊤
IsUndisturbed (Err e) = IsDisturbed e → ⊥

-- an allocation failed
abbrev pub EndsForMemory : Result Bool PlanRefusal → Type 0
EndsForMemory ended = (step : List ℕ) × (ended ≡ Err (refusal step (codes "Memory")))

-- two sessions sent the same requests, their ref maps have the same text, and their outcome is the same: so the whole text is the same
pub record GoAlike (c d : Course) : Type 0 where
  pub sent : c.sent ≡ d.sent
  pub printed : mapped_shown c.mapped ≡ mapped_shown d.mapped
  pub ended : c.ended ≡ d.ended
  pub shown : course_shown c ≡ course_shown d

module _ {N I A S C P : Type 0} (parties : Parties N I A S C P CopyError) (IsOver : RefMap → N → Type 0) (IsEmpty : S → Type 0)
    (bodies : List Body) (specs : List (List ℕ)) where
  -- a session over these bodies, failed or not, whose fetch had no such failure and whose transport counted none
  pub record GoesSteadily (course : Course) : Type 0 where
    pub is_course : IsCourse (λ m h old new r. FetchesMapped parties (IsOver m) IsEmpty h old new r × IsUndisturbed r) bodies specs course
    pub unfailed : is_course.last.failures ≡ 0

-- two such sessions have the same requests, text and outcome, unless an allocation failed
abbrev pub CoursesFollow : {N I A S C P : Type 0} → Parties N I A S C P CopyError → (IsOne IsOther : RefMap → N → Type 0) → (S → Type 0)
    → List Body → List (List ℕ) → Type 0
CoursesFollow parties IsOne IsOther IsEmpty bodies specs = (c d : Course) → GoesSteadily parties IsOne IsEmpty bodies specs c
    → GoesSteadily parties IsOther IsEmpty bodies specs d
    → EndsForMemory c.ended ⊎ EndsForMemory d.ended ⊎ GoAlike c d
