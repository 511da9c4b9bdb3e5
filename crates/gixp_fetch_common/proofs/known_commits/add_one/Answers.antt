-- An id that is neither read nor common.
use Rattle.std.proofs.Common.{◌≡◌, false, rules}
use Rattle.std.specs.BTreeSet.{contains}
use Rattle.std.specs.FinMap as finite
use Rattle.gixp_hash.specs.ObjectId.{id_cmp}
use Rattle.gixp_fetch_common.proofs.KnownLemmas.{unknown_one}
use Rattle.gixp_fetch_common.proofs.known_commits.add_one.Goals as goal

pub returns-in-Ok-clause-adds : goal.returns-in-Ok-clause-adds
returns-in-Ok-clause-adds c =
    let lacks : contains id_cmp c.args.common.now c.args.id.now ≡ false = search rules in
    let unread : finite.contains_key c.args.read.now c.args.id.now ≡ false = search rules in
    unknown_one c.args.read.now c.args.common.now c.args.awaited.now c.insert_id.new.set c.args.id.now c.insert_id.ensures.adds lacks unread
