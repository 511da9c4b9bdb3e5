use Rattle.std.proofs.Common.{ℕ, List, [], refl, subst}
use Rattle.bstr.specs.Owned.{bstring_bytes}
use Rattle.gixp_transport.specs.Greeting.{parameters_of}
use Rattle.gixp_progress.specs.Progress.{set_name}
use Rattle.gixp_handshake.specs.ShakeProgress.{retrying_calls}
use Rattle.gixp_handshake.proofs.ShakeLemmas.{not_identified}
use Rattle.gixp_handshake.proofs.ShakeProgressLemmas.{told_all}
use Rattle.gixp_handshake.proofs.handshake.login.Greeting.identify.Goals as goal

pub returns-in-Err-clause-turns : goal.returns-in-Err-clause-turns
returns-in-Err-clause-turns g c = (
  [],
  refl,
  (
    c.set_identity.result,
    g.T.ExtendedBufRead.reading c.set_identity.new.self,
    c.set_identity.ensures.identifies,
    not_identified c.args.self.now.service
        (parameters_of c.args.self.now.extra_parameters.now) c.set_identity.result c.in-Err.e c.args.outcome.next
        (bstring_bytes c.args.retry.url) _ c.from.result c.in-Err.is c.from.ensures,
  ),
)

pub returns-clause-reported : goal.returns-clause-reported
returns-clause-reported g c =
    let Named : List ℕ → Type 0 = λ name. g.P.Progress.reported c.step.new.self (set_name name) c.set_name.new.self in
    told_all g.P.Progress.reported c.args.progress.now c.set_name.new.self retrying_calls c.tell.result
    (c.step.new.self, c.step.ensures, (c.set_name.new.self, subst Named c.requires.name c.set_name.ensures, refl))
