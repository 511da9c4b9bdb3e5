use Rattle.std.proofs.Common.{◌≡◌, [], ◌∷◌, refl, ap, sym, ◌∙◌}
use Rattle.gixp_packetline.specs.declared.protocol.Protocol.TheVariants.{V0, V1, V2}
use Rattle.gixp_transport.specs.CapabilityAdvertisement.{one, two, another, unnamed, version_named, trimmed, from_ref_line, from_capability_lines, TakesNone, TakesAny, TakesFirst}
use Rattle.gixp_transport.proofs.AdvertisementLemmas.{advertises-then, unnamed-steps, named-steps, fails-another, peeked-place, first-none, first-one, first-two}
use Rattle.gixp_transport.proofs.advertisement.by_first_line.Goals as goal

pub returns-in-Unnamed : goal.returns-in-Unnamed
returns-in-Unnamed g c =
    let names : version_named c.args.packets.now.window.lent ≡ unnamed = ap version_named (sym c.line.ensures) ∙ sym c.in-Unnamed.ensures in
    advertises-then _ _ TakesFirst (TakesNone V0) [] _ _ _ _ first-none
    (unnamed-steps g.R.Read.remaining c.args.packets.now (peeked-place _ c.requires.peeked) names) c.cut_ref_line.ensures

pub returns-in-One : goal.returns-in-One
returns-in-One g c =
    let names : version_named c.args.packets.now.window.lent ≡ one = ap version_named (sym c.line.ensures) ∙ sym c.in-One.ensures in
    advertises-then _ _ TakesFirst (TakesNone V1) (c.args.packets.now.window.lent ∷ []) _ _ _ _ (first-one _ names)
    (named-steps (from_ref_line V1) one V1 _ _ _ _ c.requires.version c.requires.peeked refl names
    (λ p q. refl) c.take_peeked.ensures c.reset.ensures.reading)
    c.ref_line.ensures

pub returns-in-Two : goal.returns-in-Two
returns-in-Two g c =
    let names : version_named c.args.packets.now.window.lent ≡ two = ap version_named (sym c.line.ensures) ∙ sym c.in-Two.ensures in
    advertises-then _ _ TakesFirst TakesAny (c.args.packets.now.window.lent ∷ []) _ _ _ _ (first-two _ names)
    (named-steps from_capability_lines two V2 _ _ _ _ c.requires.version c.requires.peeked refl names
    (λ p q. refl) c.take_peeked-in-Two.ensures c.reset-in-Two.ensures.reading)
    c.capability_lines.ensures

pub returns-in-Another : goal.returns-in-Another
returns-in-Another g c =
    let names : version_named c.args.packets.now.window.lent ≡ another (trimmed c.args.packets.now.window.lent) =
    ap version_named (sym c.line.ensures) ∙ sym c.in-Another.ensures ∙ ap (λ t. another (trimmed t)) c.line.ensures in
    fails-another g.R.Read.remaining c.args.packets.now _ c.requires.version (peeked-place _ c.requires.peeked) names
    (rw c.line-in-Another.ensures at c.unsupported.ensures)
