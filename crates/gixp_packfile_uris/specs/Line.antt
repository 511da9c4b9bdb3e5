-- What happens to a packet line of a response, by where it occurs (gitprotocol-v2, "fetch": "packfile-uris",
-- "sideband-all"; git's "Packfile URIs").
use Rattle.std.specs.Prelude.{ℕ, suc, ◌+◌, ◌-◌, ◌<◌, ◌==◌, nat_eq, nat_lt, not, ◌&&◌, ◌||◌, Bool, true, false, if◌then◌else◌, List, [], ◌∷◌, length, take, drop, codes, slice_range}
use Rattle.std.specs.Io.BufRead.{strip_last}
use Rattle.std.specs.List.{starts_with, list_all}
use Rattle.std.specs.Str.{bytes_eq}
use Rattle.std.specs.Char.{is_ascii_hexdigit}
use Rattle.gixp_packfile_uris.specs.declared.place.LinePlace.{LinePlace}
use Rattle.gixp_packfile_uris.specs.declared.place.LinePlace.TheVariants.{SectionStart, Section, Uris, Over}
use Rattle.gixp_packfile_uris.specs.declared.place.Fate.{Fate}
use Rattle.gixp_packfile_uris.specs.declared.place.Fate.TheVariants.{Pass, Take, Refuse}

-- a line without band 1, where all lines have a band
abbrev pub without_band : List ℕ → List ℕ
without_band line = if starts_with nat_eq line (1 ∷ []) then drop 1 line else line

-- without its LF, too
abbrev pub text_of : List ℕ → List ℕ
text_of line = strip_last 10 (without_band line)

-- whether a line is a message on band 2 or 3
abbrev pub is_message : List ℕ → Bool
is_message [] = false
is_message (band ∷ text) = (band == 2) || (band == 3)

abbrev pub is_header : List ℕ → Bool
is_header line = bytes_eq (text_of line) (codes "packfile-uris")

-- whether a byte is neither a blank nor a control character
abbrev pub is_uri_byte : ℕ → Bool
is_uri_byte b = nat_lt 32 b && not (b == 127)

-- whether a line is the 40 hexadecimal digits of a pack's hash, a space, and a URI
abbrev pub is_uri_line : List ℕ → Bool
is_uri_line text = if nat_lt (length text) 42 then false
    else list_all is_ascii_hexdigit (take 40 text) && (bytes_eq (slice_range text 40 41) (codes " ") && list_all is_uri_byte (drop 41 text))

-- a line at the start of a section
abbrev pub start_fate : List ℕ → Fate
start_fate line = if is_header line then Take (Uris 0) else Pass Section

-- a line in the section, which has at most 1,000
abbrev pub uri_fate : ℕ → List ℕ → Fate
uri_fate count line = if nat_lt count 1000 && is_uri_line (text_of line) then Take (Uris (count + 1)) else Refuse

abbrev pub fate_at : LinePlace → List ℕ → Fate
fate_at SectionStart line = start_fate line
fate_at (Uris count) line = uri_fate count line
fate_at Section line = Pass Section
fate_at Over line = Pass Over

-- a message may occur anywhere, and is passed on
abbrev pub fate : LinePlace → List ℕ → Fate
fate place line = if is_message line then Pass place else fate_at place line
