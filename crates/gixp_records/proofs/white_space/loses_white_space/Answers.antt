use Rattle.gixp_refs.specs.RefLine.{trimmed_space}
use Rattle.gixp_records.proofs.ListedLineLemmas.{wide_by}
use Rattle.gixp_records.proofs.white_space.loses_white_space.Goals as goal

pub returns : goal.returns
returns c = wide_by (trimmed_space c.args.line.now) _ c.loses_white_space.ensures
