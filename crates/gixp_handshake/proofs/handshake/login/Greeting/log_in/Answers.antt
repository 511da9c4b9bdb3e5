use Rattle.std.proofs.Common.{◌≡◌, ℕ, List, [], ◌∷◌, ◌∙◌, sym, ap, refl, subst}
use Rattle.std.specs.Prelude.{codes}
use Rattle.bstr.specs.Owned.{bstring_bytes}
use Rattle.gixp_transport.specs.Greeting.{parameters_of}
use Rattle.gixp_progress.specs.Progress.{set_name}
use Rattle.gixp_handshake.specs.declared.credentials.Action.TheVariants.{Get}
use Rattle.gixp_handshake.specs.Credentials.{get}
use Rattle.gixp_handshake.specs.Shake.{CredentialCall}
use Rattle.gixp_handshake.specs.ShakeError.{is_denied}
use Rattle.gixp_handshake.specs.ShakeProgress.{retrying_calls}
use Rattle.gixp_handshake.proofs.ShakeLemmas.{logs_in}
use Rattle.gixp_handshake.proofs.ShakeProgressLemmas.{told_before, told_if}
use Rattle.gixp_handshake.proofs.handshake.login.Greeting.log_in.Goals as goal

pub returns-clause-turns : goal.returns-clause-turns
returns-clause-turns g c =
    let turn : CredentialCall = record { action = Get c.in-Ok.found.asked_for; answer = c.ask-got.result } in
    let h = c.log_in_with.ensures.turns in
    let url : bstring_bytes c.in-Ok.found.asked_for ≡ (g.T.ExtendedBufRead.reading c.args.transport.now).held.url =
    c.in-Ok.ensures.asked_for ∙ c.to_url.ensures in
    let again : bstring_bytes c.in-Ok.found.refused ≡ (g.T.ExtendedBufRead.reading c.args.transport.now).held.url =
    c.in-Ok.ensures.refused ∙ c.to_url.ensures in (
      turn ∷ h.0,
      (c.ask-got.new.authenticate, c.ask-got.ensures.asked, h.1),
      logs_in _ c.args.e c.args.self.now.service (parameters_of c.args.self.now.extra_parameters.now) _ _ turn h.0
          (bstring_bytes c.in-Ok.found.refused) _ (sym c.is_denied.ensures ∙ c.if-not-is_denied.false) (ap get url) again h.2,
    )

pub returns-clause-reported : goal.returns-clause-reported
returns-clause-reported g c =
    let Named : List ℕ → Type 0 = λ name. g.P.Progress.reported c.args.progress.now (set_name name) c.set_name.new.self in
    told_if g.P.Progress.reported c.args.progress.now c.log_in_with.new.progress (is_denied c.args.e) c.log_in_with.result
    (sym c.is_denied.ensures ∙ c.if-not-is_denied.false)
    (told_before g.P.Progress.reported c.args.progress.now c.set_name.new.self c.log_in_with.new.progress
    (set_name (codes "authentication") ∷ []) retrying_calls c.log_in_with.result
    (c.set_name.new.self, subst Named c.in-Ok.ensures.authentication c.set_name.ensures, refl) c.log_in_with.ensures.reported)
