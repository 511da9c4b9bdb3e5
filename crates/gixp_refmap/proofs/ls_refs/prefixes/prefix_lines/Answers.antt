use Rattle.std.proofs.Common.{[], ◌∷◌, ◌++◌, ◌∙◌, ap}
use Rattle.bstr.specs.Owned.{bstring_bytes}
use Rattle.gixp_refspec.specs.Texts.{texts}
use Rattle.gixp_refmap.proofs.ListLemmas.{mapped_more}
use Rattle.gixp_refmap.specs.Prefixes.{prefix_line}
use Rattle.gixp_refmap.proofs.ls_refs.prefixes.prefix_lines.Goals as goal

pub prefixes-preserved : goal.prefixes-preserved
prefixes-preserved c =
    mapped_more bstring_bytes prefix_line (texts c.prefixes.lines)
    (texts c.push_line.new.lines) c.args.prefixes.now c.prefixes.prefix-index c.prefix-item.result c.prefix-item.is
    c.prefixes-test.true c.prefixes.invariant (c.in_ok-push_line.ensures ∙ ap (λ t. texts c.prefixes.lines ++ t ∷ []) c.in_ok-line.ensures)
