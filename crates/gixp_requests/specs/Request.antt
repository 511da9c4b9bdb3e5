-- The packet lines of a fetch request (gitprotocol-v2, "Command Request", "fetch"; gitprotocol-pack, "Packfile Negotiation").
use Rattle.std.specs.Prelude.{ℕ, Bool, if◌then◌else◌, List, [], ◌∷◌, ◌++◌, map, filter, position, Option, Some, None, Result, is_some, codes}
use Rattle.std.specs.List.{list_all, swap}
use Rattle.gixp_capabilities.specs.declared.client.Error.{Error}
use Rattle.gixp_packetline.specs.Frames.{Frame}
use Rattle.gixp_packetline.specs.FrameText.{texts_of}
use Rattle.gixp_packetline.specs.Reading.{Reading}
use Rattle.gixp_transport.specs.Message.{MessageValue, text, flush, value_frame, value_fits, command_values}
use Rattle.gixp_transport.specs.Transport.{Sends}
use Rattle.gixp_requests.specs.Feature.{FeatureValue, feature_text}
use Rattle.gixp_requests.specs.Arguments.{ArgumentsValue, is_want, is_v2}

-- whether a feature has a value; under version 2 only such features are sent
abbrev pub has_value : FeatureValue → Bool
has_value f = is_some f.value

abbrev pub sent_features : List FeatureValue → List (List ℕ)
sent_features features = map feature_text (filter has_value features)

abbrev pub done_line : List ℕ
done_line = codes "done"

abbrev pub done_lines : Bool → List (List ℕ)
done_lines done = if done then done_line ∷ [] else []

-- the arguments of a `fetch` of version 2
abbrev pub fetch_arguments : List (List ℕ) → List (List ℕ) → Bool → List (List ℕ)
fetch_arguments lines haves done = lines ++ (haves ++ done_lines done)

-- the lines with the first want and the first line exchanged, as versions 0 and 1 require
abbrev pub exchanged : {A : Type 0} → List A → Option ℕ → List A
exchanged lines None = lines
exchanged lines (Some i) = swap lines 0 i

abbrev pub want_first : List (List ℕ) → List (List ℕ)
want_first lines = exchanged lines (position is_want lines)

-- a flush packet after the lines, if there are any
abbrev pub flush_after : List (List ℕ) → List MessageValue
flush_after [] = []
flush_after (line ∷ lines) = flush ∷ []

-- the last message of a request of version 0 or 1: `done` or a flush packet
abbrev pub done_value : Bool → MessageValue
done_value done = if done then text done_line else flush

-- the lines, a flush packet after them, the haves, and `done` or a flush packet
abbrev pub upload_values : List (List ℕ) → List (List ℕ) → Bool → List MessageValue
upload_values lines haves done = map text (want_first lines) ++ (flush_after lines ++ (map text haves ++ done_value done ∷ []))

-- the messages of a fetch request
abbrev pub request_values : ArgumentsValue → Bool → List MessageValue
request_values a done =
    if is_v2 a.version then command_values (codes "fetch") (sent_features a.features) (fetch_arguments a.lines a.haves done)
    else upload_values a.lines a.haves done

-- a call that sends these messages as a request
abbrev pub SendsValues : Reading → Reading → List MessageValue → Result (Unit {0}) Error → Type 0
SendsValues old new values r = Sends old new (list_all value_fits values) (texts_of (map value_frame values)) r

-- the packet lines of a fetch request
abbrev pub request : ArgumentsValue → Bool → List Frame
request a done = map value_frame (request_values a done)

-- whether each line of a fetch request fits into a packet line
abbrev pub request_fits : ArgumentsValue → Bool → Bool
request_fits a done = list_all value_fits (request_values a done)

-- the arguments after a request: without its haves, and without the lines that the server remembers
abbrev pub sent_off : Bool → ArgumentsValue → ArgumentsValue
sent_off persists a = record a { lines = (if is_v2 a.version then a.lines else if persists then [] else a.lines); haves = [] }
