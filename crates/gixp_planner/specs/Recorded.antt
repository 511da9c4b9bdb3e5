-- The files of a recorded session.
use Rattle.std.specs.Prelude.{ℕ, ◌≡◌, ◌+◌, ◌⊎◌, List, [], ◌∷◌, Option, Some, None, Vec, Result, Ok, Err}
use Rattle.std.specs.declared.alloc.Global.{Global}
use Rattle.std.specs.declared.io.Error.{Error as IoError}
use Rattle.std.specs.declared.io.ErrorKind.TheVariants.{NotFound, OutOfMemory}
use Rattle.std.specs.declared.io.ErrorKind.{ErrorKind}
use Rattle.std.specs.IoError.{error_kind}
use Rattle.gixp_transport.specs.declared.bodies.Body.{Body}
use Rattle.gixp_transport.specs.declared.bodies.Body.TheVariants.{Bytes, Fail}
use Rattle.gixp_hash.specs.declared.object_id.ObjectId.{ObjectId}
use Rattle.gixp_planner.specs.declared.error.PlanError.{PlanError}
use Rattle.gixp_planner.specs.Haves.{ReadsHaves}
use Rattle.gixp_planner.specs.Refusal.{refusal_of, device_refusal}

-- nothing where a file doesn't exist, and else the kind of the failure
abbrev pub missing_file : ErrorKind → Result (Option (Vec ℕ Global)) ErrorKind
missing_file NotFound = Ok None
missing_file kind = Err kind

-- the bytes of a file, none where it doesn't exist, or why it can't be read
abbrev pub file_bytes : Result (Vec ℕ Global) IoError → Result (Option (Vec ℕ Global)) ErrorKind
file_bytes (Ok bytes) = Ok (Some bytes)
file_bytes (Err e) = missing_file (error_kind e)

module _ (Gives : ℕ → Result (Option (Vec ℕ Global)) ErrorKind → Type 0) where
  -- the files from this number on have these bodies, and the next file has this result
  abbrev pub AreBodies : ℕ → List Body → Result (Option (Vec ℕ Global)) ErrorKind → Type 0
  AreBodies k [] last = Gives k last
  AreBodies k (Bytes bytes ∷ bodies) last = Gives k (Ok (Some bytes)) × AreBodies (k + 1) bodies last
  AreBodies k (Fail kind ∷ bodies) last = ⊥

  -- the bodies of the files up to the first that doesn't exist; or the next one can't be read, or an allocation failed
  abbrev pub ReadsBodies : Result (Vec Body Global) ErrorKind → Type 0
  ReadsBodies (Ok bodies) = AreBodies 0 bodies.items (Ok None)
  ReadsBodies (Err kind) = ((before : List Body) × AreBodies 0 before (Err kind)) ⊎ (kind ≡ OutOfMemory)

-- the bodies, or the error of the kind
abbrev pub IsBodiesOrError : Result (Vec Body Global) ErrorKind → Result (Vec Body Global) PlanError → Type 0
IsBodiesOrError (Ok bodies) r = r ≡ Ok bodies
IsBodiesOrError (Err kind) (Ok bodies) = ⊥
IsBodiesOrError (Err kind) (Err e) = refusal_of e ≡ device_refusal kind

-- the haves in a file, none where it doesn't exist; or the error of the kind
abbrev pub ReadsHavesOf : Result (Option (Vec ℕ Global)) ErrorKind → Result (Vec ObjectId Global) PlanError → Type 0
ReadsHavesOf (Ok None) r = ReadsHaves [] r
ReadsHavesOf (Ok (Some text)) r = ReadsHaves text.items r
ReadsHavesOf (Err kind) (Ok ids) = ⊥
ReadsHavesOf (Err kind) (Err e) = refusal_of e ≡ device_refusal kind
