-- The handshake of a transport (gitprotocol-pack, "Git Transport" and "Reference Discovery"; gitprotocol-v2, "Initial Client Request").
use Rattle.std.specs.Prelude.{◌≡◌, ℕ, ◌⊎◌, Bool, true, false, List, Option, Some, None, Result, Ok, Err}
use Rattle.std.specs.declared.io.ErrorKind.{ErrorKind}
use Rattle.gixp_capabilities.specs.declared.client.Error.{Error}
use Rattle.gixp_capabilities.specs.declared.client.Error.TheVariants.{Io, LineTooLong, AuthenticationUnsupported, Memory}
use Rattle.gixp_transport.specs.declared.service.Service.{Service}
use Rattle.gixp_transport.specs.declared.service.Account.{Account}
use Rattle.gixp_transport.specs.declared.service.SetServiceResponse.{SetServiceResponse}
use Rattle.std.specs.Prelude.{string_bytes}
use Rattle.gixp_packetline.specs.FrameText.{texts_of}
use Rattle.gixp_packetline.specs.TransportState.{Greeting}
use Rattle.gixp_packetline.specs.Reading.{Reading}
use Rattle.gixp_transport.specs.CapabilityAdvertisement.{advertisement, TakesFirst, Advertises}
use Rattle.gixp_transport.specs.Greeting.{Parameter, greeting_frames, greeting_fits}
use Rattle.gixp_transport.specs.Transport.{WriteBroke, SentBy, TakesAnswer, ByAnswer}

-- the first message was sent as a request, if there is one; its length is checked before anything is written
abbrev pub GreetsBy : Option Greeting → Service → List Parameter → Reading → Reading → Result (Unit {0}) Error → Type 0
GreetsBy g service ps old new (Ok _) = (greeting_fits g service ps ≡ true) × SentBy true old new (texts_of (greeting_frames g service ps))
GreetsBy g service ps old new (Err (Io kind)) = (greeting_fits g service ps ≡ true) × WriteBroke old new kind
GreetsBy g service ps old new (Err LineTooLong) = (greeting_fits g service ps ≡ false) × (new ≡ old)
GreetsBy g service ps old new (Err Memory) = (greeting_fits g service ps ≡ true) × (new ≡ old)
GreetsBy g service ps old new (Err _) = ⊥

abbrev pub Greets : Service → List Parameter → Reading → Reading → Result (Unit {0}) Error → Type 0
Greets service ps old new r = GreetsBy old.held.greeting service ps old new r

abbrev pub IsErr : {X : Type 0} → Result X Error → Error → Type 0
IsErr r e = r ≡ Err e

-- on a connection the first message is sent and the advertisement read; without a connection the next response is the advertisement
abbrev pub HandshakesBy : Bool → Service → List Parameter → Reading → Reading → Result SetServiceResponse Error → Type 0
HandshakesBy true service ps old new r =
    ((e : Error) × IsErr r e × Greets service ps old new (Err e))
    ⊎ ((mid : Reading) × Greets service ps old mid (Ok tt) × Advertises advertisement TakesFirst mid new r)
HandshakesBy false service ps old new r =
    ((kind : ErrorKind) × IsErr r (Io kind) × TakesAnswer old new × ByAnswer old new (Some kind))
    ⊎ ((mid : Reading) × TakesAnswer old mid × ByAnswer old mid None × Advertises advertisement TakesFirst mid new r)

abbrev pub Handshakes : Service → List Parameter → Reading → Reading → Result SetServiceResponse Error → Type 0
Handshakes service ps old new r = HandshakesBy old.held.persists service ps old new r

-- the name and password of an account
abbrev pub account_value : Account → List ℕ × List ℕ
account_value a = (string_bytes a.username, string_bytes a.password)

-- a call that sets the account; a transport without authentication returns an error
abbrev pub Identifies : Reading → Reading → Account → Result (Unit {0}) Error → Type 0
Identifies old new account (Ok _) = new ≡ record old { held = record old.held { identity = Some (account_value account) } }
Identifies old new account (Err AuthenticationUnsupported) = new ≡ old
Identifies old new account (Err _) = ⊥
