use Rattle.std.proofs.Common.{refl}
use Rattle.gixp_matching.specs.MatchGroup.{mapped_of}
use Rattle.gixp_matching.proofs.KeptLemmas.{kept_values}
use Rattle.gixp_matching.proofs.match_group.Outcome.validated.Goals as goal

pub returns-in-Ok-Ok : goal.returns-in-Ok-Ok
returns-in-Ok-Ok c =
    let stays = rw c.in-Ok-Ok.field-0-is at c.in-Ok-Ok.ensures in
    (stays.0, kept_values mapped_of c.args.self.mappings.items c.in-Ok-Ok.mappings.items stays.1, stays.2, refl)
