-- Where no local name is partial, no mapping is removed.
use Rattle.std.proofs.Common.{◌∙◌, ap, sym, map}
use Rattle.std.specs.List.{list_any}
use Rattle.gixp_matching.specs.MatchGroup.{values}
use Rattle.gixp_matching.specs.Validate.{removed_of}
use Rattle.gixp_matching.specs.Validation.{is_partial}
use Rattle.gixp_matching.proofs.KeptLemmas.{no_fixes, all_kept}
use Rattle.gixp_matching.proofs.match_group.validate.fixes.take_out_partial.Goals as goal

pub returns-then-not-has_partial-clause-noted : goal.returns-then-not-has_partial-clause-noted
returns-then-not-has_partial-clause-noted g c =
    ap (map removed_of) c.new.ensures.items
    ∙ no_fixes (values c.args.specs.now) g.M.AsMapping.mapped c.args.mappings.now.items c.has_partial.result
    (c.has_partial.ensures ∙ ap (list_any (λ mapping. is_partial (g.M.AsMapping.mapped mapping))) c.deref.ensures.value)
    c.if-not-has_partial.true

pub returns-then-not-has_partial-clause-kept : goal.returns-then-not-has_partial-clause-kept
returns-then-not-has_partial-clause-kept g c =
    all_kept (λ mapping. is_partial (g.M.AsMapping.mapped mapping)) c.args.mappings.now.items
    (ap (list_any (λ mapping. is_partial (g.M.AsMapping.mapped mapping))) (sym c.deref.ensures.value) ∙ sym c.has_partial.ensures
    ∙ c.if-not-has_partial.true)
