-- One commit more.
use Rattle.gixp_fetch_common.proofs.KnownLemmas.{known_more, keeps_trans, unknown_trans}
use Rattle.gixp_fetch_common.proofs.known_commits.add_awaited.Goals as goal

pub commits-preserved : goal.commits-preserved
commits-preserved c = record {
  keeps = keeps_trans _ _ _ c.commits.invariant.keeps c.add_one.ensures.keeps;
  all = known_more c.args.read.now c.args.common.now c.commits.awaited _ c.args.commits.now c.commits.id-index _ c.commits-test.true
      c.in-Ok.ensures.keeps c.commits.invariant.all c.in-Ok.ensures.has;
  adds = unknown_trans _ _ _ _ _ c.commits.invariant.adds c.add_one.ensures.adds;
}

pub returns-in-Err-clause-keeps : goal.returns-in-Err-clause-keeps
returns-in-Err-clause-keeps c = keeps_trans _ _ _ c.commits.invariant.keeps c.add_one.ensures.keeps

pub returns-in-Err-clause-adds : goal.returns-in-Err-clause-adds
returns-in-Err-clause-adds c = unknown_trans _ _ _ _ _ c.commits.invariant.adds c.add_one.ensures.adds
