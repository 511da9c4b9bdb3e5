-- The results of `write_next`.
use Rattle.std.specs.Prelude.{◌≡◌, ◌==◌, ◌⊎◌, ⊤, ℕ, ℤ, zero, suc, Bool, true, false, if◌then◌else◌, List, length, Option, Some, None, Result, Ok, Err}
use Rattle.std.specs.List.{flat_map, list_all}
use Rattle.gixp_graph.specs.Object.{Objects}
use Rattle.std.specs.declared.alloc.AllocError.{AllocError}
use Rattle.gixp_packetline.specs.Reading.{Reading}
use Rattle.gixp_refmap.specs.declared.refmap.map.RefMap.{RefMap}
use Rattle.gixp_utils.specs.Lines.{text_lines}
use Rattle.gixp_hash.specs.declared.object_id.ObjectId.{ObjectId}
use Rattle.gixp_refspec.specs.Name.{is_partial_name}
use Rattle.gixp_shallow.specs.declared.shallow.Shallow.{Shallow}
use Rattle.gixp_shallow.specs.declared.store.memory.ShallowMemory.{ShallowMemory}
use Rattle.gixp_shallow.specs.Shallow.{ShallowValue, no_change, at_remote, deepens, since, excludes, shallow_value}
use Rattle.gixp_handshake.specs.declared.handshake.read.Handshake.{Handshake}
use Rattle.gixp_fetch.specs.declared.error.Error.{Error as FetchError}
use Rattle.gixp_fetch.specs.declared.options.Outcome.{Outcome}
use Rattle.gixp_engine.specs.declared.consumer.Left.{Left}
use Rattle.gixp_engine.specs.declared.error.EngineError.{EngineError}
use Rattle.gixp_engine.specs.declared.error.EngineError.TheVariants.{Name, Limit, Memory}
use Rattle.gixp_engine.specs.Limits.{HandsFilter}
use Rattle.gixp_engine.specs.declared.step.EngineStep.{EngineStep}
use Rattle.gixp_engine.specs.declared.step.EngineStep.TheVariants.{Request, Pack, Nothing}
use Rattle.gixp_engine.specs.declared.step.SessionInput.{SessionInput}
use Rattle.gixp_engine.specs.EngineMessage.{engine_message}
use Rattle.gixp_engine.specs.Handed.{HandsIds, HandsSpecs}
use Rattle.gixp_engine.specs.NextStep.{IsNextStep}
use Rattle.gixp_calls.specs.declared.next.StepRecord.{StepRecord}
use Rattle.gixp_calls.specs.declared.next.SessionInputRecord.{SessionInputRecord}
use Rattle.gixp_calls.specs.EngineCodes.{engine_code}
use Rattle.gixp_calls.specs.Exports.{CopiesIfFits}

-- the history that a depth requests
abbrev pub depth_value : ℕ → ShallowValue
depth_value zero = no_change
depth_value (suc n) = at_remote (suc n)

-- the limit of the history that the record requests, if there is one with its number
abbrev pub limit_value : SessionInputRecord → Option ShallowValue
limit_value input_record =
    if input_record.limit == 0 then Some (depth_value input_record.depth)
    else if input_record.limit == 1 then Some (deepens input_record.depth)
    else if input_record.limit == 2 then Some (since input_record.since)
    else if input_record.limit == 3 then Some (excludes (text_lines input_record.excluded.now) None)
    else if input_record.limit == 4 then Some (excludes (text_lines input_record.excluded.now) (Some input_record.since))
    else None

-- the limit by the refs of a text, one per line; or a line is no name, or an allocation failed
abbrev pub HandsExcluded : List ℕ → Option ℤ → Result Shallow EngineError → Type 0
HandsExcluded text cutoff (Ok shallow) = shallow_value shallow ≡ excludes (text_lines text) cutoff
HandsExcluded text cutoff (Err Name) = list_all is_partial_name (text_lines text) ≡ false
HandsExcluded text cutoff (Err Memory) = ⊤
HandsExcluded text cutoff (Err _) = ⊥

-- that limit; or there is none with its number, or an excluded ref has no valid name, or an allocation failed
abbrev pub HandsLimit : SessionInputRecord → Result Shallow EngineError → Type 0
HandsLimit input_record (Ok shallow) = limit_value input_record ≡ Some (shallow_value shallow)
HandsLimit input_record (Err Limit) = limit_value input_record ≡ None
HandsLimit input_record (Err Name) = list_all is_partial_name (text_lines input_record.excluded.now) ≡ false
HandsLimit input_record (Err Memory) = ⊤
HandsLimit input_record (Err _) = ⊥

-- the arguments of the session, as the record has them: the refspecs, the haves, the limit of the history, the boundary and the filter
pub record IsSessionInput (input_record : SessionInputRecord) (input : SessionInput) : Type 0 where
  pub specs : HandsSpecs input_record.specs.now (Ok input.specs)
  pub haves : HandsIds input_record.haves.now (Ok input.haves)
  pub limit : HandsLimit input_record (Ok input.shallow)
  pub boundary : HandsIds input_record.boundary.now (Ok input.boundary)
  pub filter : HandsFilter input_record.filter.now (Ok input.filter)

-- the arguments, or the error of the refspecs, of the ids, of the filter or of the limit
abbrev pub ReadsInput : SessionInputRecord → Result SessionInput EngineError → Type 0
ReadsInput input_record (Ok input) = IsSessionInput input_record input
ReadsInput input_record (Err e) =
    HandsSpecs input_record.specs.now (Err e) ⊎ (HandsIds input_record.haves.now (Err e) ⊎ (HandsIds input_record.boundary.now (Err e)
    ⊎ (HandsFilter input_record.filter.now (Err e) ⊎ HandsLimit input_record (Err e))))

module _ {O : Type 0} (contents : O → Objects)
    (Receives : SessionInput → O → RefMap → Handshake → Reading → ShallowMemory → Reading → ShallowMemory
    → Result (Option Outcome) (FetchError AllocError Left) → Type 0)
    (bytes ends : List ℕ) (input_record : SessionInputRecord) where
  -- the step with these arguments, or the error in them
  pub data StepsAsReported (step : Result EngineStep EngineError) : Type 0 where
    unread : (e : EngineError) → ReadsInput input_record (Err e) → step ≡ Err e → StepsAsReported step
    read : (input : SessionInput) → ReadsInput input_record (Ok input) → IsNextStep contents (Receives input) bytes ends input step
        → StepsAsReported step

-- the bytes of ids, one id after another
abbrev pub id_bytes : List ObjectId → List ℕ
id_bytes ids = flat_map (λ (id : ObjectId). id.bytes) ids

-- the bytes of a step are at the start of the buffer; or the buffer is too small, and only the length is written
abbrev pub PassesBytes : ℕ → ℕ → List ℕ → List ℕ → StepRecord → ℕ → List ℕ → StepRecord → Type 0
PassesBytes kind place bytes old was code new now =
    ((code ≡ 0) × (now ≡ record { kind = kind; length = length bytes; place = place }) × CopiesIfFits bytes old new true)
    ⊎ ((code ≡ 2) × (now ≡ record was { length = length bytes }) × CopiesIfFits bytes old new false)

-- the boundary after the pack is passed; or an allocation failed
abbrev pub PassesPack : ℕ → List ObjectId → List ℕ → StepRecord → ℕ → List ℕ → StepRecord → Type 0
PassesPack place ids old was code new now = PassesBytes 2 place (id_bytes ids) old was code new now
    ⊎ ((code ≡ 4) × (now ≡ record was { length = 0 }) × (new ≡ old))

-- the step is written
abbrev pub PassesEngineStep : EngineStep → List ℕ → StepRecord → ℕ → List ℕ → StepRecord → Type 0
PassesEngineStep (Request request) old was code new now = PassesBytes 1 0 request.items old was code new now
PassesEngineStep (Pack place boundary) old was code new now = PassesPack place boundary.ids.items old was code new now
PassesEngineStep Nothing old was code new now = (code ≡ 0) × (now ≡ record { kind = 0; length = 0; place = 0 }) × (new ≡ old)

-- the server's message is at the start of the buffer if that is large enough; or there is none, and the error's number is returned
abbrev pub PassesWords : Option (List ℕ) → EngineError → List ℕ → StepRecord → ℕ → List ℕ → StepRecord → Type 0
PassesWords (Some words) e old was code new now =
    (code ≡ 15) × (now ≡ record was { length = length words }) × ((room : Bool) × CopiesIfFits words old new room)
PassesWords None e old was code new now = (code ≡ engine_code e) × (now ≡ record was { length = 0 }) × (new ≡ old)

-- the step or the error is written
abbrev pub PassesNext : Result EngineStep EngineError → List ℕ → StepRecord → ℕ → List ℕ → StepRecord → Type 0
PassesNext (Ok step) old was code new now = PassesEngineStep step old was code new now
PassesNext (Err e) old was code new now = PassesWords (engine_message e) e old was code new now

-- a step was made and written
pub record ExportsNext (Steps : Result EngineStep EngineError → Type 0) (old : List ℕ) (was : StepRecord) (code : ℕ) (new : List ℕ)
    (now : StepRecord) : Type 0 where
  pub step : Result EngineStep EngineError
  pub steps : Steps step
  pub reports : PassesNext step old was code new now
