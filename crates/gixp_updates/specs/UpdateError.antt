-- Why updates can't be determined.
use Rattle.std.specs.Prelude.{◌≡◌, ◌≢◌, ℕ, ◌≤◌, Option, IsSome, Result, Ok, Err}
use Rattle.gixp_graph.specs.declared.objects.ObjectError.{ObjectError}
use Rattle.gixp_graph.specs.declared.objects.ObjectError.TheVariants.{Io, Corrupt, Memory as no_memory}
use Rattle.gixp_hash.specs.Failures.{HasRisen}
use Rattle.gixp_graph.specs.GraphData.{GraphValue}
use Rattle.gixp_graph.specs.Refusals.{ErrorIsRefusal, writing}
use Rattle.gixp_updates.specs.LookUps.{LooksUp}
use Rattle.gixp_updates.specs.declared.refs.error.Error.{Error}
use Rattle.gixp_updates.specs.declared.refs.error.Error.TheVariants.{FindObject, TooManyCommits, Memory}

-- the error of an update, by the objects' error
abbrev pub from_object : ObjectError → Error
from_object (Io kind) = FindObject (Io kind)
from_object Corrupt = FindObject Corrupt
from_object no_memory = Memory

-- the cause of each error: the objects recorded it, and counted a failure; or no call of the objects failed, and the
-- caller set a limit; or an allocation failed, in the objects or not
abbrev pub ErrorIsCaused : Option ℕ → Error → GraphValue → GraphValue → Type 0
ErrorIsCaused limit (FindObject e) old new = (e ≢ no_memory) × (new.refusals ≡ writing old.refusals e) × HasRisen old.failures new.failures
ErrorIsCaused limit TooManyCommits old new = IsSome limit × (new.refusals ≡ old.refusals)
ErrorIsCaused limit Memory old new = ErrorIsRefusal no_memory old.refusals new.refusals

abbrev pub ErrorIsCausedIfRefused : {T : Type 0} → Option ℕ → Result T Error → GraphValue → GraphValue → Type 0
ErrorIsCausedIfRefused limit (Ok x) old new = new.refusals ≡ old.refusals
ErrorIsCausedIfRefused limit (Err e) old new = ErrorIsCaused limit e old new

-- commits were looked up; if a look-up failed, the error shows why
pub record Consults {T : Type 0} (limit : Option ℕ) (r : Result T Error) (old new : GraphValue) : Type 0 where
  pub looks : LooksUp old.graph new.graph
  pub failures : old.failures ≤ new.failures
  pub reports : ErrorIsCausedIfRefused limit r old new
