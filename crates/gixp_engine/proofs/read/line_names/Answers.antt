use Rattle.gixp_engine.proofs.LimitsLemmas.{names-refused-at}
use Rattle.gixp_engine.proofs.read.line_names.Goals as goal

pub returns-in-Err : goal.returns-in-Err
returns-in-Err c = names-refused-at c.args.lines.now c.loop-line.line-index _ c.loop-line.names.items c.push_name.new.names.items
    c.in-Err.e c.loop-line-test.true c.in-Err.ensures
