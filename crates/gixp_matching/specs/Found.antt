-- Conflicts as the code finds them, with the texts of all refspecs at hand.
use Rattle.std.specs.Prelude.{ℕ, zero, suc, ◌≡◌, ◌+◌, Bool, if◌then◌else◌, List, [], ◌∷◌, ◌++◌, filter, map, replicate, take, unwrap_or}
use Rattle.std.specs.List.{All, slice_get, list_any, flat_map}
use Rattle.std.specs.Option.{option_map_or}
use Rattle.std.specs.Str.{bytes_eq}
use Rattle.gixp_matching.specs.declared.match_group.validate.Issue.{Issue}
use Rattle.gixp_matching.specs.declared.match_group.validate.groups.Group.{Group}
use Rattle.gixp_matching.specs.Digest.{step}
use Rattle.gixp_matching.specs.Groups.{following}
use Rattle.gixp_matching.specs.Mappings.{Mapped}
use Rattle.gixp_matching.specs.Validate.{conflict_of}
use Rattle.gixp_matching.specs.Validation.{Conflict, differ, has_local, of_local}

-- the text of a mapping's refspec, out of the texts of all refspecs
abbrev pub text_in : List (List ℕ) → Mapped → List ℕ
text_in texts m = option_map_or (λ text. text) (slice_get texts m.spec) []

-- the conflict of the mappings with a local name
abbrev pub found : List (List ℕ) → List ℕ → List Mapped → Conflict
found texts name group = record { destination = name; specs = map (text_in texts) group; sources = map (λ m. m.source) group }

-- the conflict of the mappings with a local name, where they have two sources
abbrev pub found_over : List (List ℕ) → List ℕ → List Mapped → List Conflict
found_over texts name group = if differ group then found texts name group ∷ [] else []

-- the conflict over a local name in a list of mappings
abbrev pub found_among : List (List ℕ) → List Mapped → List ℕ → List Conflict
found_among texts ms name = found_over texts name (of_local name ms)

-- the conflict is over this local name
abbrev pub is_over : List ℕ → Conflict → Bool
is_over name c = bytes_eq c.destination name

-- the local name of an issue
abbrev pub destination_of : Issue → List ℕ
destination_of issue = (conflict_of issue).destination

-- the new list has the conflicts of the old one and these more, for each local name
abbrev pub AddsConflicts : (List ℕ → List Conflict) → List Conflict → List Conflict → Type 0
AddsConflicts more old new = (name : List ℕ) → filter (is_over name) new ≡ filter (is_over name) old ++ more name

-- the conflict over a local name, where the mapping at this index is the first that has it
abbrev pub found_first : List (List ℕ) → List Mapped → ℕ → List ℕ → List Conflict
found_first texts ms place name =
    if list_any (has_local name) (take place ms) then []
    else if list_any (has_local name) (take (place + 1) ms) then found_among texts ms name else []

-- the conflicts over a local name in each group
abbrev pub found_in_groups : {M : Type 0} → (M → Mapped) → List (List ℕ) → List (Group M) → List ℕ → List Conflict
found_in_groups f texts groups name = flat_map (λ group. found_among texts (following f group.rows.now) name) groups

-- the first so many bytes as a big-endian number, padded with zeros
unfoldable pub leading : ℕ → List ℕ → ℕ
leading zero bytes = 0
leading (suc count) bytes = step (leading count bytes) (unwrap_or (slice_get bytes count) 0)

-- the first so many bytes, padded with zeros
unfoldable pub part : ℕ → List ℕ → List ℕ
part count bytes = take count (bytes ++ replicate count 0)

-- the first so many bytes are the same in all local names
abbrev pub ShareFront : ℕ → List Issue → Type 0
ShareFront count issues = (front : List ℕ) × All (λ issue. take count (destination_of issue) ≡ front) issues
