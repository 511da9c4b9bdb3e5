use Rattle.std.proofs.Common.{inl, refl}
use Rattle.gixp_client.proofs.refusal.missing.Goals as goal

pub returns-in-Ok : goal.returns-in-Ok
returns-in-Ok c = inl (c.in-Ok.feature, c.in-Ok.ensures.ok, refl)
