-- Where a refspec is found, it makes all mappings. Where none is found, there is no single positive pattern.
use Rattle.gixp_matching.proofs.SingleLemmas.{no_lone, no_pattern, only_is_positive, other_source, pattern_source, single_makes}
use Rattle.gixp_matching.proofs.match_group.MatchGroup.single.Goals as goal

pub invariant_of-result-clause-positive : goal.invariant_of-result-clause-positive
invariant_of-result-clause-positive c =
    only_is_positive c.args.self.now.specs.now c.in-Some.spec_index c.index-self-spec_index.result c.in-Some.ensures

pub returns-in-Pattern : goal.returns-in-Pattern
returns-in-Pattern c = record {
  needle = c.new-needle.ensures;
  same = c.in_ok-prepared.ensures.specs;
  prepared = c.in_ok-prepared.ensures.prepared;
  all = λ names. single_makes c.args.self.now.specs.now names c.in-Some.spec_index c.index-self-spec_index.result c.in-Some.ensures
      (pattern_source _ c.new-needle.result c.in-Pattern.before c.in-Pattern.after c.new-needle.ensures c.in-Pattern.is);
}

pub returns-in_default : goal.returns-in_default
returns-in_default c = no_lone c.args.self.now.specs.now c.in_default.ensures

pub returns : goal.returns
returns c =
    no_pattern c.args.self.now.specs.now c.in-Some.spec_index c.index-self-spec_index.result c.in-Some.ensures
    (other_source _ c.new-needle.result c.new-needle.ensures c.in_default-needle.not-Pattern)
