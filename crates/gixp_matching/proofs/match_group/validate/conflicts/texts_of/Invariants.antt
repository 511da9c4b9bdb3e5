use Rattle.std.proofs.Common.{◌≡◌, take, map}
use Rattle.bstr.specs.Owned.{bstring_bytes}
use Rattle.gixp_matching.specs.MatchGroup.{values}
use Rattle.gixp_refspec.specs.Spec.{text_of}
use Rattle.gixp_matching.proofs.match_group.validate.conflicts.texts_of.Given as goal

abbrev pub invariant-specs : goal.invariant-specs
invariant-specs l = map bstring_bytes l.found.items ≡ map text_of (take l.spec-index (values l.specs))
