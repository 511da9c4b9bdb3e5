-- The calls that a progress reporter records.
use Rattle.std.specs.Prelude.{◌≡◌, ◌⊎◌, ℕ, true, List, [], ◌∷◌, ◌++◌, map, string_bytes}
use Rattle.gixp_progress.specs.Progress.{ProgressCall, init, step, set, set_name, fail}
use Rattle.gixp_doubles.specs.declared.progress_log.Call.{Call}
use Rattle.gixp_doubles.specs.declared.progress_log.Call.TheVariants as call
use Rattle.gixp_doubles.specs.declared.progress_log.ProgressLog.{ProgressLog}

-- a recorded call as a call of a reporter
abbrev pub call_of : Call → ProgressCall
call_of (call.Init max unit) = init max unit.now
call_of call.Step = step
call_of (call.Set n) = set n
call_of (call.SetName name) = set_name (string_bytes name)
call_of (call.Fail message) = fail (string_bytes message)

-- the call is appended, or recorded as missing
abbrev pub WritesDown : ProgressLog → ProgressCall → ProgressLog → Type 0
WritesDown old reported new =
    ((map call_of new.calls.items ≡ map call_of old.calls.items ++ reported ∷ []) × (new.is_short ≡ old.is_short)
    × (new.children ≡ old.children))
    ⊎ ((new.calls.items ≡ old.calls.items) × (new.is_short ≡ true) × (new.children ≡ old.children))

-- only the id of a child is appended
abbrev pub AddsChild : ProgressLog → List ℕ → ProgressLog → Type 0
AddsChild old id new = (new.children.items ≡ old.children.items ++ id ∷ []) × (new.calls.items ≡ old.calls.items)
    × (new.is_short ≡ old.is_short)
