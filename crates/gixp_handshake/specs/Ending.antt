-- The end of a conversation: a flush packet where a request would begin (gitprotocol-v2, "Command Request").
use Rattle.std.specs.Prelude.{◌≡◌, Bool, true, false, codes, Result, Ok}
use Rattle.gixp_capabilities.specs.declared.client.Error.{Error}
use Rattle.gixp_packetline.specs.Reading.{Reading}
use Rattle.gixp_transport.specs.Transport.{Sends}
use Rattle.gixp_handshake.specs.declared.util.SendFlushOnDrop.{SendFlushOnDrop}

-- nothing is done
abbrev pub DoesNothing : Reading → Reading → Result (Unit {0}) Error → Type 0
DoesNothing old new r = (new ≡ old) × (r ≡ Ok tt)

-- a connection sends one flush packet; another transport sends nothing
abbrev pub EndsRequestBy : Bool → Reading → Reading → Result (Unit {0}) Error → Type 0
EndsRequestBy true old new r = Sends old new true (codes "0000") r
EndsRequestBy false old new r = DoesNothing old new r

abbrev pub EndsInteraction : Reading → Reading → Result (Unit {0}) Error → Type 0
EndsInteraction old new r = EndsRequestBy old.held.persists old new r

-- the flush packet is sent, unless it was sent before
abbrev pub EndsOnce : Bool → Reading → Reading → Result (Unit {0}) Error → Type 0
EndsOnce true old new r = DoesNothing old new r
EndsOnce false old new r = EndsInteraction old new r

abbrev pub was_sent : {T : Type 0} → SendFlushOnDrop T → Bool
was_sent s = s.is_sent
