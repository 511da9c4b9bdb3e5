-- A request as a server receives it that lacks capabilities (gitprotocol-pack, "Packfile Negotiation";
-- gitprotocol-capabilities).
use Rattle.std.specs.Prelude.{ℕ, Bool, true, false, ◌&&◌, if◌then◌else◌, List, [], ◌∷◌, ◌++◌, drop, map, filter, flat_map, nat_eq, codes}
use Rattle.std.specs.List.{starts_with}
use Rattle.std.specs.Str.{bytes_eq}
use Rattle.std.specs.Io.BufRead.{strip_last}
use Rattle.gixp_utils.specs.Lines.{line_words}
use Rattle.gixp_packetline.specs.FrameText.{payload_text}
use Rattle.gixp_plain_requests.specs.declared.missing.Missing.{Missing}
use Rattle.gixp_plain_requests.specs.declared.request.LineKind.{LineKind}
use Rattle.gixp_plain_requests.specs.declared.request.LineKind.TheVariants.{Want, Shallow, Depth, Other}
use Rattle.gixp_plain_requests.specs.Lines.{lines_of, after_lines, line_end}

abbrev pub kind_of : List ℕ → LineKind
kind_of line = if starts_with nat_eq line (codes "want ") then Want
    else if starts_with nat_eq line (codes "shallow ") then Shallow
    else if starts_with nat_eq line (codes "deepen") then Depth
    else Other

abbrev pub is_kind : LineKind → LineKind → Bool
is_kind Want Want = true
is_kind Shallow Shallow = true
is_kind Depth Depth = true
is_kind Other Other = true
is_kind _ _ = false

-- the lines of a kind, in their order
abbrev pub of_kind : LineKind → List (List ℕ) → List (List ℕ)
of_kind kind lines = filter (λ line. is_kind kind (kind_of line)) lines

-- a capability that isn't requested: the server lacks it, and no other takes its place
abbrev pub is_left_out : Missing → List ℕ → Bool
is_left_out m word = if bytes_eq word (codes "side-band-64k") then m.side_band
    else if bytes_eq word (codes "include-tag") then m.include_tag
    else m.agent && starts_with nat_eq word (codes "agent=")

-- what is requested in place of `multi_ack_detailed`
abbrev pub acknowledgement_words : Missing → List (List ℕ)
acknowledgement_words m = if m.multi_ack_detailed then (if m.multi_ack then [] else codes "multi_ack" ∷ [])
    else codes "multi_ack_detailed" ∷ []

-- what is requested in place of a word
abbrev pub sent_words : Missing → List ℕ → List (List ℕ)
sent_words m word = if bytes_eq word (codes "multi_ack_detailed") then acknowledgement_words m
    else if is_left_out m word then [] else word ∷ []

-- each of these words after a blank
abbrev pub after_blanks : List (List ℕ) → List ℕ
after_blanks words = flat_map (λ (word : List ℕ). 32 ∷ word) words

-- the words that are sent in place of these words
abbrev pub all_sent_words : Missing → List (List ℕ) → List (List ℕ)
all_sent_words m words = flat_map (sent_words m) words

-- a `want` line without the capabilities that the server lacks
abbrev pub sent_want : Missing → List ℕ → List ℕ
sent_want m line = codes "want" ++ (after_blanks (all_sent_words m (line_words (drop 5 (strip_last 10 line)))) ++ line_end line)

-- packet lines as text
abbrev pub texts_of_lines : List (List ℕ) → List ℕ
texts_of_lines lines = flat_map payload_text lines

-- the lines before the first flush packet, in git's order: wants, the boundary, a depth, others
abbrev pub sent_lines : Missing → List (List ℕ) → List (List ℕ)
sent_lines m lines = map (sent_want m) (of_kind Want lines) ++ (of_kind Shallow lines ++ (of_kind Depth lines ++ of_kind Other lines))

-- the request: these lines, and the bytes from the first flush packet on
unfoldable pub request_sent : Missing → List ℕ → List ℕ
request_sent m bytes = texts_of_lines (sent_lines m (lines_of bytes)) ++ after_lines bytes
