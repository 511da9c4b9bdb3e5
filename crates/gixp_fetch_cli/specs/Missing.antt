-- The refspec that makes a fetch fail, since the server has no such ref (git-fetch, "couldn't find remote ref").
use Rattle.std.specs.Prelude.{ℕ, List, [], ◌∷◌, Option, Some, None, if◌then◌else◌, slice_get}
use Rattle.std.specs.Option.{option_map, option_and_then}
use Rattle.gixp_refs.specs.declared.handshake.Ref.{Ref}
use Rattle.gixp_refspec.specs.declared.spec.RefSpec.{RefSpec}
use Rattle.gixp_refspec.specs.RefSpec.{owned_value_of}
use Rattle.gixp_updates.specs.declared.refs.unmatched.UnmatchedSpec.{UnmatchedSpec}
use Rattle.gixp_updates.specs.Unmatched.{unmatched_of}

-- the index of the first refspec that is no pattern
abbrev pub first_single : List UnmatchedSpec → Option ℕ
first_single [] = None
first_single (note ∷ notes) = if note.is_pattern then first_single notes else Some note.index

abbrev pub source_at : List RefSpec → ℕ → Option (List ℕ)
source_at specs place = option_map (λ s. (owned_value_of s).source) (slice_get specs place)

-- the source of the first refspec that is no pattern, and that no ref matches
abbrev pub missing_name : List Ref → List RefSpec → Option (List ℕ)
missing_name refs specs = option_and_then (source_at specs) (first_single (unmatched_of refs specs))
