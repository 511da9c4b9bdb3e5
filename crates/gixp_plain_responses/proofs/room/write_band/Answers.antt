use Rattle.std.proofs.Common.{◌≡◌, ◌+◌, ◌∙◌, ◌++◌, ap, arith, length, drop}
use Rattle.gixp_plain_responses.proofs.RoomLemmas.{band_is, digits-length}
use Rattle.gixp_plain_responses.proofs.room.write_band.Goals as goal

pub returns-clause-text : goal.returns-clause-text
returns-clause-text c =
    let r = c.args.room.now.items in
    let d = c.encode_number.result in
    let four : 0 + length d ≡ 4 = omega (arith, ap length c.encode_number.ensures, digits-length c.args.end) in
    band_is r c.write_at.new.room.items c.write_at-2.new.room.items c.args.end c.requires.some (omega (arith, c.requires.there))
    (c.write_at.ensures.items ∙ ap (λ n. d ++ drop n r) four ∙ ap (λ ds. ds ++ drop 4 r) c.encode_number.ensures) c.write_at-2.ensures.items
