-- The first message of a handshake.
use Rattle.std.proofs.Common.{◌≡◌, ℕ, true, List, Some, None, refl, sym, subst, ◌∙◌, append-nil, Result, Ok, Err}
use Rattle.gixp_capabilities.specs.declared.client.Error.{Error}
use Rattle.gixp_capabilities.specs.declared.client.Error.TheVariants.{Io, Read, LineTooLong, AuthenticationUnsupported, UnsupportedProtocolVersion, MissingDelimitingNullByte, Memory}
use Rattle.gixp_transport.specs.declared.service.Service.{Service}
use Rattle.gixp_packetline.specs.FrameText.{payload_text}
use Rattle.gixp_packetline.specs.TransportState.{Greeting}
use Rattle.gixp_packetline.specs.Reading.{Reading}
use Rattle.gixp_transport.specs.Greeting.{Parameter, greeting_text, greeting_fits}
use Rattle.gixp_transport.specs.Handshake.{GreetsBy}
use Rattle.gixp_transport.specs.Transport.{Wrote, Writes, EndsBy}
use Rattle.gixp_transport.proofs.TransportLemmas.{wrote_nothing, broke_then}

pub greets-none : (service : Service) (ps : List Parameter) (old new : Reading) (r : Result Unit Error) → EndsBy true old new r
    → GreetsBy None service ps old new r
greets-none service ps old new (Ok x) k = (refl, (old, wrote_nothing old k.whole, k))
greets-none service ps old new (Err (Io kind)) k = (refl, k)
greets-none service ps old new (Err (Read e)) k = k
greets-none service ps old new (Err LineTooLong) k = absurd k
greets-none service ps old new (Err AuthenticationUnsupported) k = k
greets-none service ps old new (Err (UnsupportedProtocolVersion t)) k = k
greets-none service ps old new (Err MissingDelimitingNullByte) k = k
greets-none service ps old new (Err Memory) k = absurd k

-- the first message was written and the writer flushed
pub greets-some : (g : Greeting) (service : Service) (ps : List Parameter) (old mid new : Reading) (r : Result Unit Error)
    → greeting_fits (Some g) service ps ≡ true
    → Wrote old mid (payload_text (greeting_text g service ps)) → EndsBy true mid new r → GreetsBy (Some g) service ps old new r
greets-some g service ps old mid new (Ok x) fit w k =
    (fit, (mid, subst (Wrote old mid) (sym (append-nil (payload_text (greeting_text g service ps)))) w, k))
greets-some g service ps old mid new (Err (Io kind)) fit w k = (fit, broke_then old mid new _ kind w k)
greets-some g service ps old mid new (Err (Read e)) fit w k = k
greets-some g service ps old mid new (Err LineTooLong) fit w k = absurd k
greets-some g service ps old mid new (Err AuthenticationUnsupported) fit w k = k
greets-some g service ps old mid new (Err (UnsupportedProtocolVersion t)) fit w k = k
greets-some g service ps old mid new (Err MissingDelimitingNullByte) fit w k = k
greets-some g service ps old mid new (Err Memory) fit w k = absurd k

pub greets-refused : (g : Greeting) (service : Service) (ps : List Parameter) (old new : Reading) (bytes : List ℕ) (e : Error)
    → old.held.persists ≡ true
    → greeting_fits (Some g) service ps ≡ true → Writes old new bytes (Err e) → GreetsBy (Some g) service ps old new (Err e)
greets-refused g service ps old new bytes (Io kind) persists fit k = (fit, k)
greets-refused g service ps old new bytes (Read e) persists fit k = k
greets-refused g service ps old new bytes LineTooLong persists fit k = absurd k
greets-refused g service ps old new bytes AuthenticationUnsupported persists fit k = k
greets-refused g service ps old new bytes (UnsupportedProtocolVersion t) persists fit k = k
greets-refused g service ps old new bytes MissingDelimitingNullByte persists fit k = k
greets-refused g service ps old new bytes Memory persists fit k = absurd (let e = sym persists ∙ k.alone in cc)
