-- The lines of a list of refs (gitprotocol-v2, "ls-refs"; gitprotocol-pack, "Reference Discovery"). A line that loses white space
-- outside ASCII is malformed: git allows such white space in names of refs (git-check-ref-format), so the rest of the name may be the
-- name of another ref.
use Rattle.std.specs.Prelude.{ℕ, nat_le, true, false, if◌then◌else◌, Bool, List, [], ◌∷◌, Option, Result, Ok, Err}
use Rattle.std.specs.List.{list_any}
use Rattle.gixp_packetline.specs.Lines.{Lines}
use Rattle.gixp_packetline.specs.Reading.{lines_from_stop}
use Rattle.gixp_capabilities.specs.Client.{ClientRefusal}
use Rattle.gixp_transport.specs.CapabilityAdvertisement.{Advertised}
use Rattle.gixp_refs.specs.Ref.{RefValue}
use Rattle.gixp_refs.specs.RefLine.{RefsRefusal, malformed_v1, malformed_v2, trimmed_space, v2_line}
use Rattle.gixp_refs.specs.RefAdvertisement.{Symref, V1Line, v1_line, NamedRef, closed, group_with, group_end}

-- the white space at the end of a line, which the parser of refs ignores, has a byte outside ASCII
abbrev pub loses_white_space : List ℕ → Bool
loses_white_space line = list_any (λ b. nat_le 128 b) (trimmed_space line)

-- the meaning of a line, or its error; a line with a meaning that loses white space is malformed
abbrev pub unless_lossy : {A : Type 0} → Result A RefsRefusal → Bool → RefsRefusal → Result A RefsRefusal
unless_lossy (Err e) lossy malformed = Err e
unless_lossy (Ok x) true malformed = Err malformed
unless_lossy (Ok x) false malformed = Ok x

-- the ref of a line of an `ls-refs` response
abbrev pub listed_v2 : List ℕ → Result RefValue RefsRefusal
listed_v2 line = unless_lossy (v2_line line) (loses_white_space line) (malformed_v2 line)

-- the meaning of a line of an advertisement
abbrev pub listed_v1 : List ℕ → Result V1Line RefsRefusal
listed_v1 line = unless_lossy (v1_line line) (loses_white_space line) (malformed_v1 line)

-- the refs of the groups of an advertisement: a ref line, or a ref line and its peeled line; or the first error of a line or of the end
abbrev pub listed_groups : List (List ℕ) → Option RefsRefusal → List Symref → Option NamedRef → Result (List RefValue) RefsRefusal
listed_groups [] end t last = group_end (closed t last) end
listed_groups (text ∷ texts) end t last = group_with t last (listed_v1 text) (λ now. listed_groups texts end t now)

-- one of these lines loses white space
abbrev pub lines_lose_white_space : Lines → Bool
lines_lose_white_space l = list_any loses_white_space l.lines

-- a line of the refs of an advertisement loses white space, where the first one ends before its capabilities; not so an advertisement
-- without refs, or with an error
abbrev pub refs_lose_white_space : Result Advertised ClientRefusal → Bool
refs_lose_white_space (Ok a) = if a.has_refs then lines_lose_white_space (lines_from_stop a.stopped a.version a.rest) else false
refs_lose_white_space (Err e) = false
