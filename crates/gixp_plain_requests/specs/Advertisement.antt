-- The first ref line of a reference advertisement, with the names of capabilities that the server lacks (gitprotocol-pack,
-- "Reference Discovery").
use Rattle.std.specs.Prelude.{ℕ, ◌+◌, ◌==◌, nat_lt, Bool, true, false, not, ◌&&◌, ◌||◌, if◌then◌else◌, List, [], ◌++◌, length, take, drop, slice_range, codes, Option, Some, None}
use Rattle.std.specs.Option.{option_map}
use Rattle.std.specs.Str.{bytes_eq}
use Rattle.std.specs.Io.BufRead.{strip_last}
use Rattle.gixp_packetline.specs.Frames.{size_of}
use Rattle.gixp_packetline.specs.FrameText.{payload_text}
use Rattle.gixp_capabilities.specs.Capabilities.{CapabilityValue, capabilities_of_line}
use Rattle.gixp_plain_requests.specs.declared.missing.Missing.{Missing}
use Rattle.gixp_plain_requests.specs.declared.named.NamedCapabilities.{NamedCapabilities}
use Rattle.gixp_plain_requests.specs.Lacks.{lacks_nothing, lacks}
use Rattle.gixp_plain_requests.specs.Lines.{line_end}

-- a text, if it is missing
abbrev pub text_if : Bool → List ℕ → List ℕ
text_if true text = text
text_if false text = []

-- the names that a client needs, each after a blank
abbrev pub missing_names : Missing → List ℕ
missing_names m = text_if m.multi_ack_detailed (codes " multi_ack_detailed") ++ (text_if m.side_band (codes " side-band-64k")
    ++ text_if m.include_tag (codes " include-tag"))

-- a ref line with the missing names after its capabilities
abbrev pub named_line : Missing → List ℕ → List ℕ
named_line m line = strip_last 10 line ++ (missing_names m ++ line_end line)

-- what a line with capabilities lacks; nothing if it has none
abbrev pub lacks_by : Option (List CapabilityValue × ℕ) → Missing
lacks_by None = lacks_nothing
lacks_by (Some found) = lacks found.0

-- what the server of a ref line lacks; nothing if the names don't fit into the packet line
abbrev pub lacks_in : List ℕ → Missing
lacks_in line = let m = lacks_by (capabilities_of_line line) in
    if nat_lt 65516 (length (named_line m line)) then lacks_nothing else m

-- the size of a packet line by the number of its digits; 4 if it has no payload, or if they begin no packet line
abbrev pub size_by : Option ℕ → ℕ
size_by None = 4
size_by (Some n) = if nat_lt 65520 n then 4 else if nat_lt n 4 then 4 else n

-- the size of the packet line at the front, its digits included; 4 before all digits are present
abbrev pub line_size : List ℕ → ℕ
line_size bytes = if nat_lt (length bytes) 4 then 4 else size_by (size_of (take 4 bytes))

-- whether the packet line at the front is whole
abbrev pub is_whole : List ℕ → Bool
is_whole bytes = not (nat_lt (length bytes) (line_size bytes))

-- the packet line at the front, as far as it is present
abbrev pub first_text : List ℕ → List ℕ
first_text bytes = take (line_size bytes) bytes

-- whether a packet line says that the server speaks version 1; then the first ref line follows
abbrev pub is_version_1 : List ℕ → Bool
is_version_1 text = bytes_eq text (codes "000eversion 1\n") || bytes_eq text (codes "000dversion 1")

-- the size of such a packet line at the front; 0 if there is none
abbrev pub version_size : List ℕ → ℕ
version_size bytes = if is_whole bytes && is_version_1 (first_text bytes) then line_size bytes else 0

-- whether a whole packet line with a payload is at the front
abbrev pub has_line : List ℕ → Bool
has_line bytes = is_whole bytes && nat_lt 4 (line_size bytes)

-- what the server lacks by the packet line at the front
abbrev pub lacks_first : List ℕ → Missing
lacks_first bytes = if has_line bytes then lacks_in (drop 4 (first_text bytes)) else lacks_nothing

-- the packet line at the front with the missing names
abbrev pub named_first : List ℕ → List ℕ
named_first bytes = if has_line bytes then payload_text (named_line (lacks_first bytes) (drop 4 (first_text bytes))) else first_text bytes

-- the bytes with the missing names in the packet line at the front
abbrev pub with_names : List ℕ → List ℕ
with_names bytes = named_first bytes ++ drop (line_size bytes) bytes

-- an advertisement with the missing names in its first ref line
abbrev pub advertised : List ℕ → List ℕ
advertised bytes = take (version_size bytes) bytes ++ with_names (drop (version_size bytes) bytes)

-- what the server lacks by its advertisement
abbrev pub lacks_advertised : List ℕ → Missing
lacks_advertised bytes = lacks_first (drop (version_size bytes) bytes)

-- how many bytes are needed before the names can be added
abbrev pub size_needed : List ℕ → ℕ
size_needed bytes = version_size bytes + line_size (drop (version_size bytes) bytes)

-- the bytes that a reader has still to pass on, of held bytes and of the bytes after them
abbrev pub passed_on : (is_named : Bool) → (held : List ℕ) → List ℕ → List ℕ
passed_on true held bytes = held ++ bytes
passed_on false held bytes = advertised (held ++ bytes)

-- the same of a reader
abbrev pub to_come : {R : Type 0} → (R → Option (List ℕ)) → NamedCapabilities R → Option (List ℕ)
to_come remaining n = option_map (passed_on n.is_named (slice_range n.room.items n.start n.end)) (remaining n.reader)

-- whether the first ref line was passed on, and nothing is held
abbrev pub is_after_names : {R : Type 0} → NamedCapabilities R → Bool
is_after_names n = n.is_named && (n.start == n.end)
