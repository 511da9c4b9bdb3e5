-- White space that a list of refs loses (git-check-ref-format): the reference advertisement of version 0 or 1, or the response to
-- `ls-refs`.
use Rattle.std.specs.Prelude.{◌&&◌, not, Bool, false, if◌then◌else◌, is_some, List, [], ◌∷◌}
use Rattle.gixp_packetline.specs.declared.protocol.Protocol.TheVariants.{V2}
use Rattle.gixp_packetline.specs.Lines.{lines_of}
use Rattle.gixp_packetline.specs.TransportState.{Answer, body, fails}
use Rattle.gixp_transport.specs.CapabilityAdvertisement.{advertisement}
use Rattle.gixp_handshake.specs.declared.handshake.read.Handshake.{Handshake}
use Rattle.gixp_records.specs.ListedLine.{lines_lose_white_space, refs_lose_white_space}
use Rattle.gixp_engine.specs.declared.losses.ListLosses.{ListLosses}

-- a line of the advertisement's refs loses white space
abbrev pub advertisement_loses : Answer → Bool
advertisement_loses (body p) = refs_lose_white_space (advertisement p)
advertisement_loses (fails kind) = false

-- a line of the response to `ls-refs` loses white space
abbrev pub list_loses : Answer → Bool
list_loses (body p) = lines_lose_white_space (lines_of V2 p)
list_loses (fails kind) = false

-- the first of these responses, if there is one
abbrev pub first_list_loses : List Answer → Bool
first_list_loses [] = false
first_list_loses (a ∷ rest) = list_loses a

-- the first response as the advertisement, and the second one as the response to `ls-refs`
abbrev pub losses_of : List Answer → ListLosses
losses_of [] = record { advertisement = false; list = false }
losses_of (a ∷ rest) = record { advertisement = advertisement_loses a; list = first_list_loses rest }

-- the refs of a ref map lose white space: those of the advertisement if it has refs, or else those of the response to `ls-refs`, unless
-- no list is needed
abbrev pub is_lossy : ListLosses → (needs_no_list : Bool) → Handshake → Bool
is_lossy losses needs_no_list h = if is_some h.refs then losses.advertisement else not needs_no_list && losses.list
