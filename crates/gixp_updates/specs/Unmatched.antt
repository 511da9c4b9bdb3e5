-- The refspecs that no ref of a server matches (git-fetch, "<refspec>").
use Rattle.std.specs.Prelude.{ℕ, Bool, not, ◌&&◌, if◌then◌else◌, List, [], ◌∷◌, is_some}
use Rattle.std.specs.List.{list_any, flat_map, enumerate_from}
use Rattle.gixp_refs.specs.declared.handshake.Ref.{Ref}
use Rattle.gixp_refs.specs.Ref.{unpacked_name, unpacked_target}
use Rattle.gixp_refspec.specs.declared.needle.Needle.{Needle}
use Rattle.gixp_refspec.specs.declared.spec.RefSpec.{RefSpec}
use Rattle.gixp_refspec.specs.Spec.{Spec, is_id, is_negative}
use Rattle.gixp_refspec.specs.RefSpec.{owned_value_of}
use Rattle.gixp_refspec.specs.Matching.{matches, is_pattern}
use Rattle.gixp_refspec.specs.Needle.{middle_with}
use Rattle.gixp_updates.specs.declared.refs.unmatched.UnmatchedSpec.{UnmatchedSpec}

-- a needle matches a ref that has an object
abbrev pub is_match_with : Needle → Ref → Bool
is_match_with needle r = is_some (unpacked_target r) && is_some (middle_with needle (unpacked_name r))

-- a refspec matches a ref that has an object; an unborn ref has none
abbrev pub is_match : Spec → Ref → Bool
is_match s r = is_some (unpacked_target r) && matches s (unpacked_name r)

-- a positive refspec of names that matches none of the refs
abbrev pub is_unmatched : List Ref → Spec → Bool
is_unmatched refs s = not (is_negative s.sign) && not (is_id s.source) && not (list_any (is_match s) refs)

-- the entry for a refspec, if it matches none of the refs
abbrev pub note_on : List Ref → ℕ × RefSpec → List UnmatchedSpec
note_on refs s = if is_unmatched refs (owned_value_of s.1)
    then record { index = s.0; is_pattern = is_pattern (owned_value_of s.1).source } ∷ [] else []

-- the entries for all refspecs, in order
abbrev pub unmatched_of : List Ref → List RefSpec → List UnmatchedSpec
unmatched_of refs specs = flat_map (note_on refs) (enumerate_from 0 specs)
