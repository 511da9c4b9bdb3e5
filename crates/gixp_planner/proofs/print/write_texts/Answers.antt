use Rattle.std.proofs.Common.{◌+◌, ◌++◌, ◌∙◌, [], ap, drop, sym, flat_map, vec_items, append-nil}
use Rattle.std.proofs.lemmas.Result.{err_from_is_err_and}
use Rattle.gixp_planner.proofs.PrintLemmas.{each-next, next-part, next-fails}
use Rattle.gixp_planner.proofs.print.write_texts.Goals as goal

pub returns-in_err-append_pieces : goal.returns-in_err-append_pieces
returns-in_err-append_pieces g c =
    let p = err_from_is_err_and c.from_residual.result c.from_residual.ensures.1 in
    let text = c.deref.result.now in
    let rest = flat_map vec_items (drop (c.loop-text.text-index + 1) c.args.texts.now) in
    rw (p.1, p.2) (
      next-fails _ _ _ _ _ (text ++ []) rest _ c.loop-text.invariant
          (each-next vec_items c.args.texts.now c.loop-text.text-index c.text-item.result c.loop-text-test.true c.text-item.is
          ∙ ap (λ t. t ++ rest) (sym (append-nil text ∙ c.deref.ensures.value)))
          c.in_err-append_pieces.ensures.text.0,
      c.in_err-append_pieces.ensures.text.1,
    )

pub loop-text-preserved : goal.loop-text-preserved
loop-text-preserved g c =
    let text = c.deref.result.now in
    let rest = flat_map vec_items (drop (c.loop-text.text-index + 1) c.args.texts.now) in
    next-part _ _ _ _ _ _ (text ++ []) rest _ c.loop-text.invariant
    (each-next vec_items c.args.texts.now c.loop-text.text-index c.text-item.result c.loop-text-test.true c.text-item.is
    ∙ ap (λ t. t ++ rest) (sym (append-nil text ∙ c.deref.ensures.value)))
    c.in_ok-append_pieces.ensures.text
