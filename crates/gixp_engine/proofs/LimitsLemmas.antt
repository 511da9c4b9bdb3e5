-- The names of excluded refs, line by line.
use Rattle.std.proofs.Common.{◌≡◌, ◌<◌, ◌∙◌, ℕ, get_or, false, List, length, map, Err, ap}
use Rattle.std.specs.List.{list_all}
use Rattle.std.proofs.lemmas.List.{get_or-map, length-map}
use Rattle.std.proofs.lemmas.List.Folds.{list_all_at}
use Rattle.bstr.specs.BStr.{bstr_bytes}
use Rattle.bstr.specs.declared.bstr.BStr.{BStr}
use Rattle.gixp_refspec.specs.Name.{is_partial_name}
use Rattle.gixp_refspec.specs.declared.name.PartialName.{PartialName}
use Rattle.gixp_engine.specs.declared.error.EngineError.{EngineError}
use Rattle.gixp_engine.specs.declared.error.EngineError.TheVariants.{NoAnswer, TooManyAnswers, Lengths, Spec, Filter, Name, Limit, Handshake, NoFilters, Refs, UnterminatedRefs, UnsupportedRefName, Fetch, Pack, Memory}
use Rattle.gixp_engine.specs.Limits.{AddsName, HandsNames}

-- the line at this index is no name
no-name-at : (lines : List BStr) (i : ℕ) (d : BStr) → i < length lines → is_partial_name (bstr_bytes (get_or lines i d)) ≡ false
    → list_all is_partial_name (map bstr_bytes lines) ≡ false
no-name-at lines i d h e = list_all_at is_partial_name (map bstr_bytes lines) i (bstr_bytes d) (rw (length-map lines bstr_bytes) h)
    (ap is_partial_name (get_or-map bstr_bytes lines i d (bstr_bytes d) h) ∙ e)

-- the line at this index has an error
pub names-refused-at : (lines : List BStr) (i : ℕ) (d : BStr) (old new : List PartialName) (e : EngineError) → i < length lines
    → AddsName (bstr_bytes (get_or lines i d)) old new (Err e) → HandsNames (map bstr_bytes lines) (Err e)
names-refused-at lines i d old new Name h adds = no-name-at lines i d h adds
names-refused-at lines i d old new Memory h adds = tt
names-refused-at lines i d old new NoAnswer h adds = adds
names-refused-at lines i d old new TooManyAnswers h adds = adds
names-refused-at lines i d old new Lengths h adds = adds
names-refused-at lines i d old new (Spec e) h adds = adds
names-refused-at lines i d old new Filter h adds = adds
names-refused-at lines i d old new Limit h adds = adds
names-refused-at lines i d old new (Handshake e) h adds = adds
names-refused-at lines i d old new NoFilters h adds = adds
names-refused-at lines i d old new (Refs e) h adds = adds
names-refused-at lines i d old new UnterminatedRefs h adds = adds
names-refused-at lines i d old new UnsupportedRefName h adds = adds
names-refused-at lines i d old new (Fetch e) h adds = adds
names-refused-at lines i d old new (Pack e) h adds = adds
