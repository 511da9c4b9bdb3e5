use Rattle.std.proofs.Common.{◌∙◌, ap}
use Rattle.std.proofs.lemmas.Result.{IfOk-weaker}
use Rattle.gixp_refspec.specs.RefSpec.{value_of}
use Rattle.gixp_matching.specs.Mappings.{ObjectId}
use Rattle.gixp_matching.specs.Places.{local_for}
use Rattle.gixp_matching.proofs.FollowLemmas.{read_at}
use Rattle.gixp_matching.proofs.match_group.MatchGroup.local_name_of_id.Goals as goal

pub returns : goal.returns
returns c =
    let here = read_at value_of c.args.self.now.specs.now c.args.spec_index c.get.result _ c.get.ensures.lookup.1 c.get.ensures.lookup.3 in
    IfOk-weaker c.local_of_id.result _ _ (λ local h id. h id ∙ ap (λ s. local_for s (ObjectId id)) here) c.local_of_id.ensures
