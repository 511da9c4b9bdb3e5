-- The packet lines that are passed on, and the lines of the section `packfile-uris` (gitprotocol-v2, "fetch").
use Rattle.std.specs.Prelude.{ℕ, Bool, true, false, if◌then◌else◌, List, [], ◌∷◌, ◌++◌}
use Rattle.gixp_packetline.specs.Frames.{Frame, payload, special, End, ended, Frames, no_frames, with_frame}
use Rattle.gixp_packetline.specs.declared.protocol.MessageKind.TheVariants.{Flush, Delimiter, ResponseEnd, Text}
use Rattle.gixp_packfile_uris.specs.declared.place.LinePlace.{LinePlace}
use Rattle.gixp_packfile_uris.specs.declared.place.LinePlace.TheVariants.{SectionStart, Over}
use Rattle.gixp_packfile_uris.specs.declared.place.Fate.TheVariants.{Pass, Take, Refuse}
use Rattle.gixp_packfile_uris.specs.Line.{text_of, fate}
use Rattle.gixp_packfile_uris.specs.Parts.{in_uris, after_delimiter}

-- the packet lines without the section; a delimiter packet ends it, and an invalid line or a flush packet in it ends the stream
abbrev pub without_uris : LinePlace → List Frame → End → Frames
without_uris place [] end = no_frames end
without_uris place (payload p ∷ frames) end = elim (fate place p) [
  | Pass next ↦ with_frame (payload p) (without_uris next frames end)
  | Take next ↦ without_uris next frames end
  | Refuse ↦ no_frames ended
]
without_uris place (special Delimiter ∷ frames) end =
    if in_uris place then without_uris Over frames end else with_frame (special Delimiter) (without_uris (after_delimiter place) frames end)
without_uris place (special Flush ∷ frames) end =
    if in_uris place then no_frames ended else with_frame (special Flush) (without_uris SectionStart frames end)
without_uris place (special ResponseEnd ∷ frames) end =
    if in_uris place then no_frames ended else with_frame (special ResponseEnd) (without_uris SectionStart frames end)
without_uris place (special Text ∷ frames) end = no_frames ended

-- the lines of the section, without their bands and LFs
abbrev pub uri_lines : LinePlace → List Frame → List (List ℕ)
uri_lines place [] = []
uri_lines place (payload p ∷ frames) = elim (fate place p) [
  | Pass next ↦ uri_lines next frames
  | Take next ↦ (if in_uris place then text_of p ∷ [] else []) ++ uri_lines next frames
  | Refuse ↦ []
]
uri_lines place (special Delimiter ∷ frames) = if in_uris place then uri_lines Over frames else uri_lines (after_delimiter place) frames
uri_lines place (special Flush ∷ frames) = if in_uris place then [] else uri_lines SectionStart frames
uri_lines place (special ResponseEnd ∷ frames) = if in_uris place then [] else uri_lines SectionStart frames
uri_lines place (special Text ∷ frames) = []

-- whether the section has an invalid line, a flush packet or a response-end packet
abbrev pub is_refused : LinePlace → List Frame → Bool
is_refused place [] = false
is_refused place (payload p ∷ frames) = elim (fate place p) [
  | Pass next ↦ is_refused next frames
  | Take next ↦ is_refused next frames
  | Refuse ↦ true
]
is_refused place (special Delimiter ∷ frames) = if in_uris place then is_refused Over frames else is_refused (after_delimiter place) frames
is_refused place (special Flush ∷ frames) = if in_uris place then true else is_refused SectionStart frames
is_refused place (special ResponseEnd ∷ frames) = if in_uris place then true else is_refused SectionStart frames
is_refused place (special Text ∷ frames) = false
