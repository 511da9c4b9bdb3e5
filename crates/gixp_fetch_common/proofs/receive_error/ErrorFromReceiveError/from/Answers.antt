use Rattle.std.specs.Prelude.{◌≡◌, ◌⊎◌, String, refl}
use Rattle.std.proofs.Common.{subst, sym, inl, inr}
use Rattle.std.specs.declared.alloc.Global.{Global}
use Rattle.std.specs.declared.io.ErrorKind.{ErrorKind}
use Rattle.gix_protocol.specs.PackErrorType.TheVariants.{Refused}
use Rattle.gix_protocol.specs.SessionErrorType.TheVariants.{Pack}
use Rattle.gixp_pack.specs.declared.check.CheckError.{CheckError}
use Rattle.gixp_fetch_common.specs.Received.{IsUnreceived}
use Rattle.gixp_fetch_common.specs.declared.receive_error.ReceiveError.{ReceiveError}
use Rattle.gixp_fetch_common.specs.declared.receive_error.ReceiveError.TheVariants.{Begin, Read, Write, Incomplete}
use Rattle.gixp_fetch_common.proofs.receive_error.ErrorFromReceiveError.from.Goals as goal

-- an error with an allocator isn't the failure of an allocation
refused : (e : ReceiveError) (alloc : Global) (text : String Global)
    → ((x : ErrorKind) × (e ≡ Begin alloc x)) ⊎ ((x : ErrorKind) × (e ≡ Read alloc x)) ⊎ ((x : ErrorKind) × (e ≡ Write alloc x))
    ⊎ ((x : CheckError) × (e ≡ Incomplete alloc x)) → IsUnreceived e (Pack (Refused text))
refused e alloc text (inl (x, p)) = subst (λ (w : ReceiveError). IsUnreceived w (Pack (Refused text))) (sym p) (inl (text, refl))
refused e alloc text (inr (inl (x, p))) = subst (λ (w : ReceiveError). IsUnreceived w (Pack (Refused text))) (sym p) (inl (text, refl))
refused e alloc text (inr (inr (inl (x, p)))) =
    subst (λ (w : ReceiveError). IsUnreceived w (Pack (Refused text))) (sym p) (inl (text, refl))
refused e alloc text (inr (inr (inr (x, p)))) =
    subst (λ (w : ReceiveError). IsUnreceived w (Pack (Refused text))) (sym p) (inl (text, refl))

pub returns-in-Ok : goal.returns-in-Ok
returns-in-Ok c = refused c.args.e c.in-Begin.alloc c.in-Ok.why c.in-Begin.is
