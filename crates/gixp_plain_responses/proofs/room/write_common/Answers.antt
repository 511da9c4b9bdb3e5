use Rattle.std.proofs.Common.{refl, arith}
use Rattle.std.specs.Prelude.{codes}
use Rattle.gixp_plain_responses.proofs.RoomLemmas.{common_is}
use Rattle.gixp_plain_responses.proofs.room.write_common.Goals as goal

pub returns-clause-text : goal.returns-clause-text
returns-clause-text c =
    common_is c.args.room.now.items c.write_at.new.room.items c.write_at-2.new.room.items (codes "0038") (codes " common\n") refl refl
    (omega (arith, c.requires)) c.write_at.ensures.items c.write_at-2.ensures.items
