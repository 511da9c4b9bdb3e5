-- The single refspec of a group that maps refs.
use Rattle.std.specs.Prelude.{ℕ, ◌≡◌, Bool, not, List, [], ◌∷◌, filter, Option, Some, None}
use Rattle.std.specs.List.{flat_map, enumerate_from}
use Rattle.gixp_refspec.specs.Needle.{IsNeedle}
use Rattle.gixp_refspec.specs.Matching.{Pattern, kind_of}
use Rattle.gixp_refspec.specs.RefSpec.{value_of}
use Rattle.gixp_refspec.specs.Spec.{Spec, is_negative}
use Rattle.gixp_matching.specs.declared.match_group.single.Single.{Single}
use Rattle.gixp_matching.specs.Mappings.{FullName, Mapped, mapped, pair}
use Rattle.gixp_matching.specs.MatchGroup.{values}
use Rattle.gixp_matching.specs.Places.{repeated}
use Rattle.gixp_matching.specs.Rows.{IsPrepared}

-- the index of the refspec in its group
abbrev pub single_index : Single → ℕ
single_index single = single.spec_index

-- the mapping of the ref at an index, if there is one
abbrev pub single_pair : List Spec → Single → ℕ × List ℕ → List Mapped
single_pair specs single ref = pair specs (single.spec_index, value_of single.spec.now) ref

-- the mapping of the ref at an index, by the local name of the ref if it is mapped
abbrev pub mapped_by : ℕ → ℕ → List ℕ → Option (Option (List ℕ)) → List Mapped
mapped_by spec_index i name None = []
mapped_by spec_index i name (Some local) = mapped (Some i) (FullName name) local spec_index ∷ []

-- this refspec makes all mappings of the refspecs
pub record IsSingle (specs : List Spec) (single : Single) : Type 0 where
  pub needle : IsNeedle single.spec.now.source.now single.needle
  pub same : values single.prepared.specs.now ≡ specs
  pub prepared : IsPrepared single.prepared
  pub all : (names : List (List ℕ)) → repeated specs names ≡ flat_map (single_pair specs single) (enumerate_from 0 names)

-- a refspec without the sign `^`
abbrev pub maps_refs : Spec → Bool
maps_refs s = not (is_negative s.sign)

-- exactly one refspec is positive, and its source is a pattern
pub record HasLonePattern (specs : List Spec) : Type 0 where
  pub spec : Spec
  pub lone : filter maps_refs specs ≡ spec ∷ []
  pub pattern : kind_of spec.source ≡ Pattern

-- the single refspec that makes all mappings; none where there is no such pattern
abbrev pub SinglesOut : List Spec → Option Single → Type 0
SinglesOut specs (Some single) = IsSingle specs single
SinglesOut specs None = ¬ HasLonePattern specs
