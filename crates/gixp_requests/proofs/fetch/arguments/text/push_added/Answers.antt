use Rattle.std.proofs.Common.{[], ◌∷◌, ◌++◌, ap, ◌∙◌}
use Rattle.bstr.specs.Owned.{bstring_bytes}
use Rattle.gixp_requests.specs.Arguments.{spaced}
use Rattle.gixp_requests.proofs.AppendLemmas.{joined_read}
use Rattle.gixp_requests.proofs.ArgumentLemmas.{spaced-append}
use Rattle.gixp_requests.proofs.fetch.arguments.text.push_added.Goals as goal

pub loop-text-preserved : goal.loop-text-preserved
loop-text-preserved c =
    joined_read spaced spaced-append bstring_bytes c.args.line.now.items c.loop-text.line.items c.push_spaced.new.line.items
    c.args.added.now c.loop-text.text-index
    c.text-item.result c.text-item.is c.loop-text-test.true c.loop-text.invariant
    (c.in_ok-push_spaced.ensures ∙ ap (λ t. c.loop-text.line.items ++ spaced (t ∷ [])) c.as_bytes.ensures)
