-- The failures of the program, and their status.
use Rattle.std.specs.Prelude.{ℕ, List, codes, Result, Ok, Err}
use Rattle.std.specs.declared.io.ErrorKind.{ErrorKind}
use Rattle.std.specs.declared.io.ErrorKind.TheVariants.{OutOfMemory}
use Rattle.gixp_planner.specs.declared.listing.ListError.{ListError}
use Rattle.gixp_planner.specs.ListErrorName.{list_error_name}
use Rattle.gixp_planner.specs.Refusal.{PlanRefusal, refusal_of}
use Rattle.gixp_planner.specs.declared.command.failure.Failure.{Failure}
use Rattle.gixp_planner.specs.declared.command.failure.Failure.TheVariants.{Usage, Refused, Unplanned}

-- the words don't fit the usage; an error's name; or a plan's error
pub data FailureName : Type 0 where
  usage : FailureName
  named : List ℕ → FailureName
  unplanned : PlanRefusal → FailureName

abbrev pub name_of : Failure → FailureName
name_of Usage = usage
name_of (Refused name) = named name.now
name_of (Unplanned e) = unplanned (refusal_of e)

-- words that can't be read, by the kind of the failure
abbrev pub words_refusal : ErrorKind → FailureName
words_refusal OutOfMemory = named (codes "Memory")
words_refusal _ = usage

-- the refs can't be listed
abbrev pub list_refusal : ListError → FailureName
list_refusal e = named (list_error_name e)

-- 2 where the words don't fit the usage, 1 after another failure
abbrev pub status_of : Result (Unit {0}) Failure → ℕ
status_of (Ok x) = 0
status_of (Err Usage) = 2
status_of (Err (Refused name)) = 1
status_of (Err (Unplanned e)) = 1
