-- Lists of lines that lose white space.
use Rattle.std.proofs.Common.{◌≡◌, ℕ, ◌||◌, Bool, true, false, if◌then◌else◌, List, take, refl, sym, ap, ◌∙◌, Result}
use Rattle.gixp_packetline.specs.declared.protocol.MessageKind.{MessageKind}
use Rattle.gixp_packetline.specs.declared.protocol.Protocol.{Protocol}
use Rattle.gixp_packetline.specs.Pieces.{Refusal, line, mark, Pieces, no_pieces, with_piece}
use Rattle.gixp_packetline.specs.Items.{is_stop}
use Rattle.gixp_packetline.specs.Lines.{Ending, stop, refusal, lines_of, no_lines}
use Rattle.gixp_capabilities.specs.Client.{ClientRefusal}
use Rattle.gixp_transport.specs.CapabilityAdvertisement.{Advertised, by_lines}
use Rattle.gixp_records.specs.declared.advertised.opening.RefsOpening.{RefsOpening}
use Rattle.gixp_records.specs.declared.advertised.refused.AdvertisedRefused.{AdvertisedRefused}
use Rattle.gixp_records.specs.declared.advertised.refused.AdvertisedRefused.TheVariants.{Packet, Line, NoCapabilities, VersionTwo, UnknownVersion, Memory}
use Rattle.gixp_records.specs.Packets.{pieces_at}
use Rattle.gixp_records.specs.RefsOpening.{cut_lines, IsOpening, IsNotOpened}
use Rattle.gixp_records.specs.ListedLine.{loses_white_space, lines_lose_white_space, refs_lose_white_space}

-- a line that loses white space
pub loses-here : (version : Protocol) (p rest : Pieces) (text : List ℕ) → p ≡ with_piece (line text) rest → loses_white_space text ≡ true
    → lines_lose_white_space (lines_of version p) ≡ true
loses-here version p rest text e f =
    ap (λ q. lines_lose_white_space (lines_of version q)) e ∙ ap (λ b. b || lines_lose_white_space (lines_of version rest)) f

-- a line that loses none
pub loses-later : (version : Protocol) (p rest : Pieces) (text : List ℕ) → p ≡ with_piece (line text) rest → loses_white_space text ≡ false
    → lines_lose_white_space (lines_of version p) ≡ lines_lose_white_space (lines_of version rest)
loses-later version p rest text e f =
    ap (λ q. lines_lose_white_space (lines_of version q)) e ∙ ap (λ b. b || lines_lose_white_space (lines_of version rest)) f

by_stop : (b : Bool) (e f : Ending) → lines_lose_white_space (if b then no_lines e else no_lines f) ≡ false
by_stop true e f = refl
by_stop false e f = refl

-- no line
pub loses-none : (version : Protocol) (p rest : Pieces) (kind : MessageKind) → p ≡ with_piece (mark kind) rest
    → lines_lose_white_space (lines_of version p) ≡ false
loses-none version p rest kind e = ap (λ q. lines_lose_white_space (lines_of version q)) e ∙ by_stop (is_stop version kind) _ _

pub loses-refused : (version : Protocol) (p : Pieces) (e : Refusal) → p ≡ no_pieces e
    → lines_lose_white_space (lines_of version p) ≡ false
loses-refused version p e h = ap (λ q. lines_lose_white_space (lines_of version q)) h

-- the same where the first line is cut
pub cut-loses-here : (version : Protocol) (n : ℕ) (p rest : Pieces) (text : List ℕ) → p ≡ with_piece (line text) rest
    → loses_white_space (take n text) ≡ true → lines_lose_white_space (cut_lines true n (lines_of version p)) ≡ true
cut-loses-here version n p rest text e f =
    ap (λ q. lines_lose_white_space (cut_lines true n (lines_of version q))) e
    ∙ ap (λ b. b || lines_lose_white_space (lines_of version rest)) f

pub cut-loses-later : (version : Protocol) (n : ℕ) (p rest : Pieces) (text : List ℕ) → p ≡ with_piece (line text) rest
    → loses_white_space (take n text) ≡ false
    → lines_lose_white_space (cut_lines true n (lines_of version p)) ≡ lines_lose_white_space (lines_of version rest)
cut-loses-later version n p rest text e f =
    ap (λ q. lines_lose_white_space (cut_lines true n (lines_of version q))) e
    ∙ ap (λ b. b || lines_lose_white_space (lines_of version rest)) f

by_stop_cut : (b : Bool) (n : ℕ) (e f : Ending) → lines_lose_white_space (cut_lines true n (if b then no_lines e else no_lines f)) ≡ false
by_stop_cut true n e f = refl
by_stop_cut false n e f = refl

pub cut-loses-none : (version : Protocol) (n : ℕ) (p rest : Pieces) (kind : MessageKind) → p ≡ with_piece (mark kind) rest
    → lines_lose_white_space (cut_lines true n (lines_of version p)) ≡ false
cut-loses-none version n p rest kind e =
    ap (λ q. lines_lose_white_space (cut_lines true n (lines_of version q))) e ∙ by_stop_cut (is_stop version kind) n _ _

pub cut-loses-refused : (version : Protocol) (n : ℕ) (p : Pieces) (e : Refusal) → p ≡ no_pieces e
    → lines_lose_white_space (cut_lines true n (lines_of version p)) ≡ false
cut-loses-refused version n p e h = ap (λ q. lines_lose_white_space (cut_lines true n (lines_of version q))) h

-- the refs of an advertisement with a first ref line
pub opening-loses : (bytes : List ℕ) (r : Result Advertised ClientRefusal) (o : RefsOpening) → IsOpening bytes r o
    → refs_lose_white_space r ≡ lines_lose_white_space (cut_lines true o.cut (lines_of o.version (pieces_at bytes o.first)))
opening-loses bytes r o h =
    ap refs_lose_white_space h.answer
    ∙ sym (ap (λ p. lines_lose_white_space (cut_lines true o.cut (lines_of o.version p))) h.stands)

by_ending : (texts : List (List ℕ)) (e : Ending) → refs_lose_white_space (by_lines texts e) ≡ false
by_ending texts (stop kind rest) = refl
by_ending texts (refusal e) = refl

-- an advertisement without refs
pub unopened-loses : (bytes : List ℕ) (r : Result Advertised ClientRefusal) (e : AdvertisedRefused) → IsNotOpened bytes r e
    → refs_lose_white_space r ≡ false
unopened-loses bytes r (Packet p) h = ap refs_lose_white_space h.0
unopened-loses bytes r (Line p) h = absurd h
unopened-loses bytes r NoCapabilities h = ap refs_lose_white_space h
unopened-loses bytes r VersionTwo h = ap refs_lose_white_space h.1 ∙ by_ending _ _
unopened-loses bytes r UnknownVersion h = ap refs_lose_white_space h.1
unopened-loses bytes r Memory h = absurd h
