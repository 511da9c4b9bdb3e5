use Rattle.std.proofs.Common.{ap}
use Rattle.gixp_transport.specs.Greeting.{parameters_of}
use Rattle.gixp_client.proofs.OpenLemmas.{without_account}
use Rattle.gixp_client.proofs.session.Session+T+L+Discard.open.Goals as goal

pub returns-in-Err-clause-refused : goal.returns-in-Err-clause-refused
returns-in-Err-clause-refused g c =
    without_account _ _ _ _ _ _ c.in-Err.ensures.refused (ap parameters_of c.new.ensures.items) (λ a x r b s. s.met.1)
