use Rattle.std.proofs.Common.{◌≡◌, ◌-◌, arith, length, length-drop, drop}
use Rattle.std.specs.Prelude.{slice_range}
use Rattle.std.proofs.lemmas.List.{length-take-le}
use Rattle.gixp_plain_responses.proofs.RoomLemmas.{last_is}
use Rattle.gixp_plain_responses.proofs.room.write_last.Goals as goal

pub returns-clause-text : goal.returns-clause-text
returns-clause-text c =
    let r = c.args.room.now.items in
    let end = c.args.end in
    let len : length (slice_range r 5 end) ≡ end - 5 =
    length-take-le (end - 5) (drop 5 r) (omega (arith, length-drop 5 r, c.requires.there)) in
    last_is c.write_band.new.room.items _ (slice_range r 5 end) end (omega (arith, len, c.requires.some, c.if-end-eq5.false))
    (omega (arith, c.requires.there, c.write_band.ensures.len)) c.write_band.ensures.text c.write_at-2.ensures.items
