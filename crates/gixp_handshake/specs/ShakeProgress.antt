-- The calls of a progress reporter during a handshake.
use Rattle.std.specs.Prelude.{◌≡◌, ◌⊎◌, Bool, true, false, List, [], ◌∷◌, ◌++◌, codes, None, Result, Ok, Err}
use Rattle.gixp_transport.specs.declared.service.Service.{Service}
use Rattle.gixp_transport.specs.declared.service.SetServiceResponse.{SetServiceResponse}
use Rattle.gixp_capabilities.specs.declared.client.Error.{Error as ClientError}
use Rattle.gixp_transport.specs.Greeting.{Parameter}
use Rattle.gixp_transport.specs.Handshake.{Handshakes}
use Rattle.gixp_progress.specs.Progress.{ProgressCall, init, step, set_name, ReportedCalls}
use Rattle.gixp_packetline.specs.Reading.{Reading}
use Rattle.gixp_handshake.specs.declared.handshake.error.Error.{Error}
use Rattle.gixp_handshake.specs.declared.handshake.error.Error.TheVariants.{Memory}
use Rattle.gixp_handshake.specs.ShakeError.{is_denied}

-- the calls before the first handshake
abbrev pub shaking_calls : List ProgressCall
shaking_calls = init None (codes "steps") ∷ set_name (codes "handshake") ∷ step ∷ []

-- the calls before the second handshake
abbrev pub retrying_calls : List ProgressCall
retrying_calls = step ∷ set_name (codes "handshake (authenticated)") ∷ []

-- the calls after a first handshake for which the server requires credentials
abbrev pub authenticating_calls : List ProgressCall
authenticating_calls = set_name (codes "authentication") ∷ retrying_calls

abbrev pub calls_if_denied : Bool → List ProgressCall
calls_if_denied true = authenticating_calls
calls_if_denied false = []

-- the calls after the first handshake, if all succeed: none unless the server requires credentials
abbrev pub calls_after_first : Result SetServiceResponse ClientError → List ProgressCall
calls_after_first (Ok found) = []
calls_after_first (Err e) = calls_if_denied (is_denied e)

-- only a first part of these calls was made
pub record ReportedPart {P : Type 0} (reported : P → ProgressCall → P → Type 0) (old : P) (calls : List ProgressCall) (new : P) : Type 0 where
  pub made : List ProgressCall
  pub left : List ProgressCall
  pub split : calls ≡ made ++ left
  pub reports : ReportedCalls reported old made new

module _ {P : Type 0} (reported : P → ProgressCall → P → Type 0) where
  -- all of these calls were made where the result is a success, else a first part of them
  abbrev pub ReportedUpTo : {X E : Type 0} → P → List ProgressCall → Result X E → P → Type 0
  ReportedUpTo old calls (Ok x) new = ReportedCalls reported old calls new
  ReportedUpTo old calls (Err e) new = ReportedPart reported old calls new

  -- the calls after the first handshake, by its result
  abbrev pub ReportsOpening : {X : Type 0} → Service → List Parameter → Reading → P → Result X Error → P → Type 0
  ReportsOpening service ps reading old r new =
      (first : Result SetServiceResponse ClientError) × (mid : Reading) × Handshakes service ps reading mid first
      × ReportedUpTo old (calls_after_first first) r new

  -- the calls of the whole handshake; or none, where an allocation failed
  abbrev pub ReportsHandshake : {X : Type 0} → Service → List Parameter → Reading → P → Result X Error → P → Type 0
  ReportsHandshake service ps reading old r new =
      ((now : P) × ReportedCalls reported old shaking_calls now × ReportsOpening service ps reading now r new) ⊎ ((r ≡ Err Memory) × (new ≡ old))
