-- The calls of a progress reporter while a ref map is made.
use Rattle.std.proofs.Common.{ℕ, Bool, List, Option, Some, None, Vec, Result, Ok, Err, sym, refl, subst, inl, inr}
use Rattle.std.specs.declared.alloc.Global.{Global}
use Rattle.gixp_capabilities.specs.Capabilities.{CapabilityValue}
use Rattle.gixp_refs.specs.declared.handshake.Ref.{Ref}
use Rattle.gixp_refs.specs.Ref.{RefValue}
use Rattle.gixp_refspec.specs.Spec.{Spec}
use Rattle.gixp_requests.specs.Feature.{FeatureValue}
use Rattle.gixp_requests.specs.Command.{TableValue}
use Rattle.gixp_progress.specs.Progress.{ProgressCall, ReportedCalls}
use Rattle.gixp_refmap.specs.declared.ls_refs.error.Error.{Error as ListError}
use Rattle.gixp_refmap.specs.declared.refmap.init.Context.{Context}
use Rattle.gixp_refmap.specs.declared.refmap.init.Error.{Error as MapError}
use Rattle.gixp_refmap.specs.declared.refmap.init.Error.TheVariants as map
use Rattle.gixp_refmap.specs.declared.refmap.map.RefMap.{RefMap}
use Rattle.gixp_refmap.specs.ListingProgress.{listing_calls, ReportsListedMap}
use Rattle.gixp_refmap.specs.Mapping.{unknown_format, AnswersBy}
use Rattle.gixp_handshake.specs.declared.handshake.ref_map.ObtainRefMap.{ObtainRefMap}
use Rattle.gixp_handshake.specs.declared.handshake.ref_map.ObtainRefMap.TheVariants.{Existing, LsRefsCommand}
use Rattle.gixp_handshake.specs.Obtain.{HoldsWithRefs, MakesMap, PreparesBy}
use Rattle.gixp_handshake.specs.ObtainProgress.{ReportsFetched, ReportsObtained}

-- the error of a ref map of given refs isn't a failed listing
not_listed : (format : Option (List ℕ)) (specs : List Spec) (count : ℕ) (refs : List RefValue) (e : ListError)
    → AnswersBy format specs count refs (Err (map.ListRefs e)) → ⊥
not_listed None specs count refs e h = h
not_listed (Some format) specs count refs e h = h

module _ {P : Type 0} (reported : P → ProgressCall → P → Type 0) (old new : P) where
  -- the refs were listed, whatever the result of the ref map is
  pub listed_told : (caps : List CapabilityValue) (context : Context) (given : List Ref) (r : Result RefMap MapError)
      → ReportedCalls reported old listing_calls new → MakesMap caps context given r → ReportsListedMap reported old r new
  listed_told caps context given (Ok m) calls made = calls
  listed_told caps context given (Err (map.UnknownObjectFormat format)) calls made = calls
  listed_told caps context given (Err (map.MappingValidation e)) calls made = calls
  listed_told caps context given (Err (map.ListRefs e)) calls made =
      absurd (not_listed (unknown_format caps) _ _ _ e made.maps)
  listed_told caps context given (Err map.Memory) calls made = inr calls

  pub moved_told : (caps : List CapabilityValue) (context : Context) (given : List Ref) (r : Result RefMap MapError)
      → ReportedCalls reported old listing_calls new → HoldsWithRefs (λ made. MakesMap caps context given made) r → ReportsListedMap reported old r new
  moved_told caps context given (Ok m) calls made = calls
  moved_told caps context given (Err e) calls made = listed_told caps context given (Err e) calls made

  -- the calls follow from whether refs were advertised
  pub prepared_told : {X : Type 0} (refs : Option (Vec Ref Global)) (table : TableValue) (wanted : Bool) (agent : FeatureValue)
      (context : Context) (caps : List CapabilityValue) (o : ObtainRefMap) (r : Result X MapError)
      → PreparesBy refs table wanted agent context caps (Ok o) → ReportsFetched reported o old r new → ReportsObtained reported refs old r new
  prepared_told None table wanted agent context caps (Existing m) r p h = absurd p
  prepared_told None table wanted agent context caps (LsRefsCommand command handed) r p h = h
  prepared_told (Some refs) table wanted agent context caps (Existing m) r p h = h
  prepared_told (Some refs) table wanted agent context caps (LsRefsCommand command handed) r p h = absurd p

module _ {P : Type 0} (reported : P → ProgressCall → P → Type 0) (old : P) where
  -- nothing was prepared, and no calls were made
  pub unprepared_told : (refs : Option (Vec Ref Global)) (table : TableValue) (wanted : Bool) (agent : FeatureValue)
      (context : Context) (caps : List CapabilityValue) (e : MapError)
      → PreparesBy refs table wanted agent context caps (Err e) → ReportsObtained reported {X = RefMap} refs old (Err e) old
  unprepared_told None table wanted agent context caps e p =
      let Q : MapError → Type 0 = λ x. ReportsListedMap reported {X = RefMap} old (Err x) old in subst Q (sym p) (inl refl)
  unprepared_told (Some refs) table wanted agent context caps e p = refl
