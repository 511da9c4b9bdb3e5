use Rattle.gixp_refs.proofs.TrimLemmas.{trims_one}
use Rattle.gixp_refs.proofs.trim.trim_end.Goals as goal

pub returns : goal.returns
returns c =
    trims_one c.args.line.now c.in-len1-up.len_at_least c.if-end-eq10.true c.in-len1-up-text.len_at_least c.if-last-gt32.true
    c.if-last-lt128.true
