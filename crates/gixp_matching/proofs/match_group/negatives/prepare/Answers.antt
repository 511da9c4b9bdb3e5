use Rattle.std.proofs.Common.{arith}
use Rattle.gixp_matching.proofs.NegativeLemmas.{prepared_more, prepared_all}
use Rattle.gixp_matching.proofs.match_group.negatives.prepare.Goals as goal

pub specs-preserved : goal.specs-preserved
specs-preserved c = λ name.
    prepared_more c.specs.names.items c.push_negative.new.names.items c.specs.others.items c.push_negative.new.others.items
    c.args.specs.now c.specs.spec-index c.spec-item.result name
    c.spec-item.is c.specs-test.true (c.specs.invariant name) (c.in_ok-push_negative.ensures name)

pub returns-clause-prepared : goal.returns-clause-prepared
returns-clause-prepared c = record {
  names_in_order = c.in_ok-sort_by_name.ensures.order;
  excludes_all =
      λ name. prepared_all c.specs.names.items c.sort_by_name.new.rows.items c.specs.others.items c.args.specs.now c.specs.spec-index
      name (omega arith) c.in_ok-sort_by_name.ensures.permutation (c.specs.invariant name);
}
