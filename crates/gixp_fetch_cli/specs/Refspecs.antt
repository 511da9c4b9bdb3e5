-- The request of a command line.
use Rattle.std.specs.Prelude.{◌≡◌, true, List, None, Ok, map}
use Rattle.bstr.specs.Owned.{bstring_bytes}
use Rattle.bstr.specs.declared.bstring.BString.{BString}
use Rattle.gix_protocol.specs.Spec.{spec_of}
use Rattle.gix_protocol.specs.RefSpec.{owned_value_of}
use Rattle.gix_protocol.specs.RefSpecType.{RefSpec}
use Rattle.gix_protocol.specs.RequestType.{Request}
use Rattle.gix_protocol.specs.UriProtocolsType.TheVariants.{Neither}
use Rattle.gixp_refspec.specs.Spelling.{spelled}
use Rattle.gixp_negotiators.specs.declared.algorithm.Algorithm.TheVariants.{Consecutive}

-- refspecs are those of the texts, one for each, in their order; a source that is `@` alone means `HEAD`
abbrev pub AreSpecsOf : List BString → List RefSpec → Type 0
AreSpecsOf texts specs = map (λ (t : BString). spec_of (spelled (bstring_bytes t))) texts ≡ map (λ (s : RefSpec). Ok (owned_value_of s)) specs

-- what no option of a command line sets is as in a default request
pub record HasOtherDefaults (request : Request) : Type 0 where
  pub algorithm : request.algorithm ≡ Consecutive
  pub over_pipes : request.is_over_pipes ≡ true
  pub unfiltered : request.filter ≡ None
  pub thin : request.wants_thin_pack ≡ true
  pub without_uris : request.uri_protocols ≡ Neither
