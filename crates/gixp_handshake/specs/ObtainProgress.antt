-- The calls of a progress reporter while a ref map is made.
use Rattle.std.specs.Prelude.{◌≡◌, Option, Some, None, Result}
use Rattle.gixp_progress.specs.Progress.{ProgressCall}
use Rattle.gixp_refmap.specs.declared.refmap.init.Error.{Error as MapError}
use Rattle.gixp_refmap.specs.ListingProgress.{ReportsListedMap}
use Rattle.gixp_handshake.specs.declared.handshake.ref_map.ObtainRefMap.{ObtainRefMap}
use Rattle.gixp_handshake.specs.declared.handshake.ref_map.ObtainRefMap.TheVariants.{Existing, LsRefsCommand}

module _ {P : Type 0} (reported : P → ProgressCall → P → Type 0) where
  -- no calls for an existing ref map, else the calls of a listing
  abbrev pub ReportsFetched : {X : Type 0} → ObtainRefMap → P → Result X MapError → P → Type 0
  ReportsFetched (Existing m) old r new = new ≡ old
  ReportsFetched (LsRefsCommand command context) old r new = ReportsListedMap reported old r new

  -- no calls with advertised refs, else the calls of a listing
  abbrev pub ReportsObtained : {R X : Type 0} → Option R → P → Result X MapError → P → Type 0
  ReportsObtained (Some refs) old r new = new ≡ old
  ReportsObtained None old r new = ReportsListedMap reported old r new
