-- Without flags all mappings stay; else the flags keep the first ones.
use Rattle.std.proofs.Common.{◌≡◌, ◌∙◌, [], ap, sym, subst, true, length, map}
use Rattle.std.specs.List.{list_all}
use Rattle.std.proofs.lemmas.List.{length-map}
use Rattle.std.proofs.lemmas.Result.{IfOk-weaker}
use Rattle.gixp_matching.specs.Firsts.{FlagsFirsts, first_flags, flagged}
use Rattle.gixp_matching.proofs.FirstLemmas.{values_from_flags, firsts_flagged, length-first_flags, all_flagged}
use Rattle.gixp_matching.proofs.match_group.distinct.firsts.Goals as goal

pub returns-in_default-clause-flags : goal.returns-in_default-clause-flags
returns-in_default-clause-flags g c =
    let f = g.M.AsMapping.mapped in
    firsts_flagged f c.args.mappings.items c.deref.result.now c.deref.ensures.value
    (subst (FlagsFirsts (map f c.deref.result.now)) c.in_default.is c.in_ok-flags.ensures)

pub returns-then-are_all-clause-flags : goal.returns-then-are_all-clause-flags
returns-then-are_all-clause-flags g c =
    let f = g.M.AsMapping.mapped in
    let ms = map f c.deref.result.now in
    let marks = subst (FlagsFirsts ms) c.in-Some.is c.in_ok-flags.ensures in
    let long : length c.in-Some.flags.items ≡ length c.args.mappings.items =
    ap length marks ∙ length-first_flags [] ms ∙ length-map c.deref.result.now f ∙ ap length c.deref.ensures.value in
    let all : list_all (λ flag. flag) c.in-Some.flags.items ≡ true =
    ap (list_all (λ flag. flag)) (sym c.deref-2.ensures.value) ∙ sym c.are_all.ensures ∙ c.if-are_all.true in
    sym (all_flagged c.args.mappings.items c.in-Some.flags.items long all)
    ∙ ap (flagged c.args.mappings.items) (marks ∙ ap (λ ys. first_flags [] (map f ys)) c.deref.ensures.value)

pub returns-clause-flags : goal.returns-clause-flags
returns-clause-flags g c =
    let f = g.M.AsMapping.mapped in
    let marks = subst (FlagsFirsts (map f c.deref.result.now)) c.in-Some.is c.in_ok-flags.ensures in
    IfOk-weaker c.flagged.result _ _
    (λ kept h. h ∙ ap (flagged c.args.mappings.items) (marks ∙ ap (λ ys. first_flags [] (map f ys)) c.deref.ensures.value))
    c.flagged.ensures

pub returns-then-are_all-clause-values : goal.returns-then-are_all-clause-values
returns-then-are_all-clause-values g c =
    values_from_flags g.M.AsMapping.mapped c.args.mappings.items c.args.mappings.items (returns-then-are_all-clause-flags g c)

pub returns-clause-values : goal.returns-clause-values
returns-clause-values g c =
    IfOk-weaker c.flagged.result _ _ (λ kept h. values_from_flags g.M.AsMapping.mapped c.args.mappings.items kept.items h)
    (returns-clause-flags g c)
