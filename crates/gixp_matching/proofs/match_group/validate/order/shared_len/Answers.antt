use Rattle.std.proofs.Common.{◌∷◌, [], ◌++◌, ◌∙◌, ap, sym, take, get_or}
use Rattle.std.proofs.lemmas.List.{take_more}
use Rattle.gixp_matching.proofs.match_group.validate.order.shared_len.Goals as goal

pub bytes-preserved : goal.bytes-preserved
bytes-preserved c =
    let first = c.args.first.now in
    let name = c.args.name.now in
    let place = c.bytes.place in
    take_more name place 0 c.if-place-name.false ∙ ap (λ l. take place name ++ l ∷ []) c.if-name-place.false
    ∙ ap (λ l. l ++ get_or first place 0 ∷ []) c.bytes.invariant ∙ sym (take_more first place 0 c.bytes-test.true)
