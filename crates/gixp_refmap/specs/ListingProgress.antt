-- The calls of a progress reporter during a listing.
use Rattle.std.specs.Prelude.{◌≡◌, ◌⊎◌, List, [], ◌∷◌, codes, Result, Ok, Err}
use Rattle.gixp_progress.specs.Progress.{ProgressCall, step, set_name, ReportedCalls}
use Rattle.gixp_refmap.specs.declared.ls_refs.error.Error.{Error as ListError}
use Rattle.gixp_refmap.specs.declared.ls_refs.error.Error.TheVariants as list
use Rattle.gixp_refmap.specs.declared.refmap.init.Error.{Error as MapError}
use Rattle.gixp_refmap.specs.declared.refmap.init.Error.TheVariants as map

-- the calls before the command is sent
abbrev pub listing_calls : List ProgressCall
listing_calls = step ∷ set_name (codes "list refs") ∷ []

module _ {P : Type 0} (reported : P → ProgressCall → P → Type 0) where
  -- these calls were made, unless the server doesn't offer what the command requests; an allocation may fail before
  -- and after them
  abbrev pub ReportsListing : {X : Type 0} → P → Result X ListError → P → Type 0
  ReportsListing old (Ok refs) new = ReportedCalls reported old listing_calls new
  ReportsListing old (Err (list.Io kind)) new = ReportedCalls reported old listing_calls new
  ReportsListing old (Err (list.Transport e)) new = ReportedCalls reported old listing_calls new
  ReportsListing old (Err (list.Parse e)) new = ReportedCalls reported old listing_calls new
  ReportsListing old (Err (list.ArgumentValidation e)) new = new ≡ old
  ReportsListing old (Err list.Memory) new = (new ≡ old) ⊎ ReportedCalls reported old listing_calls new

  -- the same for a ref map of the listed refs
  abbrev pub ReportsListedMap : {X : Type 0} → P → Result X MapError → P → Type 0
  ReportsListedMap old (Ok m) new = ReportedCalls reported old listing_calls new
  ReportsListedMap old (Err (map.UnknownObjectFormat format)) new = ReportedCalls reported old listing_calls new
  ReportsListedMap old (Err (map.MappingValidation e)) new = ReportedCalls reported old listing_calls new
  ReportsListedMap {X} old (Err (map.ListRefs e)) new = ReportsListing {X = X} old (Err e) new
  ReportsListedMap old (Err map.Memory) new = (new ≡ old) ⊎ ReportedCalls reported old listing_calls new
