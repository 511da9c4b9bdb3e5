-- The request of a session (git-fetch, "OPTIONS").
use Rattle.std.specs.Prelude.{◌≡◌, ℕ, ⊤, true, false, List, [], ◌∷◌, ◌++◌, Some, None, Ok, Err, String, string_bytes}
use Rattle.std.specs.declared.alloc.Global.{Global}
use Rattle.bstr.specs.Owned.{bstring_bytes}
use Rattle.gixp_shallow.specs.declared.shallow.Shallow.TheVariants.{NoChange}
use Rattle.gixp_negotiators.specs.declared.algorithm.Algorithm.TheVariants.{Consecutive}
use Rattle.gixp_refmap.specs.declared.fetch.Tags.TheVariants.{Included}
use Rattle.gixp_refspec.specs.declared.spec.RefSpec.{RefSpec}
use Rattle.gixp_refspec.specs.RefSpec.{owned_value_of}
use Rattle.gixp_refspec.specs.Spec.{spec_of}
use Rattle.gixp_refspec.specs.Spelling.{spelled}
use Rattle.gixp_client.specs.declared.tables.UriProtocols.TheVariants.{Neither}
use Rattle.gixp_client.specs.declared.error.Error.{Error}
use Rattle.gixp_client.specs.declared.error.Error.TheVariants as error
use Rattle.gixp_client.specs.declared.request.Request.{Request}

-- a request without refspecs, with the defaults of `git fetch`
pub record IsDefaultRequest (r : Request) : Type 0 where
  pub refspecs : r.refspecs.items ≡ []
  pub tags : r.tags ≡ Included
  pub shallow : r.shallow ≡ NoChange
  pub algorithm : r.algorithm ≡ Consecutive
  pub accepts_shallow : r.rejects_shallow ≡ false
  pub over_pipes : r.is_over_pipes ≡ true
  pub unfiltered : r.filter ≡ None
  pub stops : r.goes_on ≡ false
  pub wants_progress : r.wants_progress ≡ true
  pub wants_thin_pack : r.wants_thin_pack ≡ true
  pub checks_objects : r.trusts_objects ≡ false
  pub without_uris : r.uri_protocols ≡ Neither

-- the refspec of this text is appended
pub record AddsSpec (text : List ℕ) (old new : Request) : Type 0 where
  pub added : RefSpec
  pub value : spec_of (spelled text) ≡ Ok (owned_value_of added)
  pub following : new.refspecs.items ≡ old.refspecs.items ++ added ∷ []

-- the text isn't a refspec, for this reason; or an allocation failed
abbrev pub IsSpecRefusal : List ℕ → Error → Type 0
IsSpecRefusal text (error.Refspec spec why) = (bstring_bytes spec ≡ text) × (spec_of (spelled text) ≡ Err why)
IsSpecRefusal text error.Memory = ⊤
IsSpecRefusal text _ = ⊥

-- the filter is set, and nothing else changes
pub record SetsFilter (filter : List ℕ) (old new : Request) : Type 0 where
  pub text : String Global
  pub is_filter : string_bytes text ≡ filter
  pub set : new ≡ record old { filter = Some text }
