use Rattle.std.proofs.Common.{ℕ, List, [], Bor}
use Rattle.gixp_requests.specs.Command.{texts}
use Rattle.gixp_packetline.proofs.ListLemmas.{appended_more}
use Rattle.gixp_requests.proofs.command.table.copies.Goals as goal

pub loop-word-preserved : goal.loop-word-preserved
loop-word-preserved c =
    appended_more (λ (w : Bor (List ℕ)). w.now) [] (texts c.loop-word.lines)
    (texts c.push_copy.new.lines) c.args.words.now c.loop-word.word-index _ c.loop-word-test.true
    c.loop-word.invariant c.in_ok-push_copy.ensures
