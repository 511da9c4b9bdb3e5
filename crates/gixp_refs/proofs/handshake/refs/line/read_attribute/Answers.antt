use Rattle.std.proofs.Common.{◌≡◌, false, codes, length, eq-eqb, rules}
use Rattle.gixp_capabilities.specs.Capabilities.{is_text}
use Rattle.gixp_refs.specs.ParseError.{attribute_values}
use Rattle.gixp_refs.proofs.AnswerLemmas.{refusal_answers, unknown_is}
use Rattle.gixp_refs.proofs.handshake.refs.line.read_attribute.Goals as goal

pub returns-else-eq-2 : goal.returns-else-eq-2
returns-else-eq-2 c =
    let name = c.cut.result.0.now in
    let value = c.in-Some.value.now in
    let whole = rw c.in-Some.is at c.cut.ensures in
    let no_peeled : is_text name (codes "peeled") ≡ false = search rules in
    let no_target : is_text name (codes "symref-target") ≡ false = search rules in
    refusal_answers attribute_values _ _ _
    (unknown_is c.args.line.now c.args.piece.now name value (attribute_values c.args.had) whole
    (λ z. let t = eq-eqb (length value) 0 z in let f = c.if-is_empty.ensures in cc) no_peeled no_target)
    c.unknown_attribute.ensures

pub returns-then-eq-2 : goal.returns-then-eq-2
returns-then-eq-2 c = search rules
