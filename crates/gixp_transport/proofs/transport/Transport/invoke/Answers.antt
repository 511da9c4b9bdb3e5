use Rattle.std.proofs.Common.{◌≡◌, ℕ, List, [], ◌∷◌, ◌++◌, map, ap, sym, ◌∙◌}
use Rattle.bstr.specs.Owned.{bstring_bytes}
use Rattle.gixp_transport.specs.Message.{MessageValue, text, flush, argument_values, message_value, command_values, feature_lines}
use Rattle.gixp_transport.proofs.TransportLemmas.{sends-values}
use Rattle.gixp_transport.proofs.transport.Transport.invoke.Goals as goal

pub returns : goal.returns
returns g c =
    let arguments = map bstring_bytes c.args.arguments.now in
    let around : List (List ℕ) → List MessageValue = λ lines. map text lines ++ argument_values arguments ++ flush ∷ [] in
    let is : map message_value c.deref-2.result.now ≡ command_values c.args.command.now (feature_lines c.args.features.now) arguments =
    ap (map message_value) c.deref-2.ensures.value ∙ c.in_ok-messages.ensures
    ∙ ap around (ap (map bstring_bytes) c.deref.ensures.value ∙ c.in_ok-lines.ensures) in
    record { sends = sends-values _ _ _ _ _ is c.request.ensures.sends; fit = λ _. sym c.if-not-command_fits.ensures }
