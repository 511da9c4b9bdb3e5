-- The handshake of a client that has no account.
use Rattle.std.specs.Prelude.{◌≡◌, ⊤, Bool, List, [], ◌∷◌, None, Result, Ok}
use Rattle.gixp_packetline.specs.Reading.{Reading}
use Rattle.gixp_transport.specs.declared.service.Service.TheVariants.{UploadPack}
use Rattle.gixp_handshake.specs.declared.handshake.error.Error.{Error}
use Rattle.gixp_handshake.specs.declared.handshake.read.Handshake.{Handshake}
use Rattle.gixp_handshake.specs.Shake.{CredentialCall, CompletesHandshake}

-- each request for an account was answered with none
abbrev pub AreUnanswered : List CredentialCall → Type 0
AreUnanswered [] = ⊤
AreUnanswered (t ∷ ts) = (t.answer ≡ Ok None) × AreUnanswered ts

-- a handshake without an account
pub record GreetsWithoutAccount (plain : Bool) (old new : Reading) (r : Result Handshake Error) : Type 0 where
  pub turns : List CredentialCall
  pub unanswered : AreUnanswered turns
  pub shakes : CompletesHandshake UploadPack [] plain old new turns r
