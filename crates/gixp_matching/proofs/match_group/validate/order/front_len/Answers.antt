use Rattle.std.proofs.Common.{◌≡◌, ◌≤◌, ap, sym, subst, ◌∙◌, take, length, get_or, arith}
use Rattle.std.specs.List.{All}
use Rattle.std.proofs.lemmas.List.{take_all, take_more}
use Rattle.gixp_matching.specs.Found.{destination_of}
use Rattle.gixp_matching.proofs.FoundLemmas.{shorter}
use Rattle.gixp_matching.proofs.GroupLemmas.{all_more}
use Rattle.gixp_matching.proofs.match_group.validate.order.front_len.Goals as goal

pub issues-preserved : goal.issues-preserved
issues-preserved c =
    let name = c.name_of-name.result.now in
    let issues = c.args.issues.now in
    let i = c.issues.issue-index in
    let issue = c.issue-item.result in
    let new = c.min-front.result in
    let less : new ≤ c.issues.front = omega arith in
    let here : take new (destination_of issue) ≡ take new name =
    shorter new c.shared_len.result (destination_of issue) name (omega arith)
    (ap (take c.shared_len.result) (sym c.name_of.ensures) ∙ c.shared_len.ensures) in
    subst (All (λ issue. take new (destination_of issue) ≡ take new name)) (sym (take_more issues i issue c.issues-test.true))
    (all_more (λ issue. take new (destination_of issue) ≡ take new name) (take i issues) (get_or issues i issue)
    (λ k d l. shorter new c.issues.front _ name less (c.issues.invariant k d l))
    (ap (λ x. take new (destination_of x)) (sym c.issue-item.is) ∙ here))

pub returns : goal.returns
returns c =
    let issues = c.args.issues.now in
    let name = c.name_of-name.result.now in
    let all : length issues ≤ c.issues.issue-index = omega arith in (
      take c.issues.front name,
      subst (All (λ issue. take c.issues.front (destination_of issue) ≡ take c.issues.front name))
          (take_all c.issues.issue-index issues all)
          c.issues.invariant,
    )
