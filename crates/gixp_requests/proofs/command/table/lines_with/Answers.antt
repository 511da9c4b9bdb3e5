use Rattle.gixp_requests.specs.Feature.{feature_values}
use Rattle.gixp_requests.specs.Command.{WordEntry, entry_of, goes_with, texts}
use Rattle.gixp_requests.proofs.AppendLemmas.{filtered_more}
use Rattle.gixp_requests.proofs.command.table.lines_with.Goals as goal

pub loop-entry-preserved : goal.loop-entry-preserved
loop-entry-preserved c =
    let features = feature_values c.args.features.now in
    filtered_more entry_of (λ e. goes_with features e.other) (λ (e : WordEntry). e.word) (texts c.loop-entry.lines)
    (texts c.push_given.new.lines) c.args.entries.now c.loop-entry.entry-index _
    c.loop-entry-test.true c.loop-entry.invariant c.in_ok-push_given.ensures
