use Rattle.std.proofs.Common.{◌≡◌, ◌∷◌, ◌++◌, ◌∙◌, [], ap, map, sym}
use Rattle.gixp_refs.specs.Ref.{ref_value}
use Rattle.gixp_matching.specs.Single.{single_pair}
use Rattle.gixp_refmap.proofs.StraightLemmas.{taken_more, compared_more}
use Rattle.gixp_refmap.proofs.refmap.straight.straight.Goals as goal

pub refs-preserved : goal.refs-preserved
refs-preserved c =
    let r = c.in-Some.found in
    let kept = c.refs.invariant in
    let all = c.args.refs.items in
    let before = c.refs.refs.items in
    let after = c.give_back.new.refs.items in
    let split : before ≡ after ++ r ∷ [] = c.in-Some.ensures.items ∙ ap (λ rs. rs ++ r ∷ []) (sym c.give_back.ensures) in
    record {
      gone = r ∷ kept.gone;
      made = λ specs single. compared_more (single_pair specs c.args.single.now) all before after kept.gone r c.in_ok-of_ref.field-0
          c.refs.made.items c.push_one.new.made.items kept.refs split c.in_ok-push_one.ensures
          (c.in_ok-of_ref.ensures specs single (map ref_value all)) (kept.made specs single);
      refs = taken_more all before after kept.gone r kept.refs split;
    }
