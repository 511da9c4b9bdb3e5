use Rattle.gixp_plain_requests.proofs.LineLemmas.{line_fits}
use Rattle.gixp_plain_requests.proofs.line.split_line.Goals as goal

pub returns-in-Ok-Some-Data-default-clause-fits : goal.returns-in-Ok-Some-Data-default-clause-fits
returns-in-Ok-Some-Data-default-clause-fits c =
    let found = rw c.in-Ok-Some-Data-default.field-0-is at c.in-Ok-Some-Data-default.ensures in
    let line = rw c.in-Ok-Some-Data-default.field-0-0-0-is at found in
    line_fits c.args.bytes.now c.in-Ok-Some-Data-default.line.now _ line.0 (c.frames_are_grammar.ensures c.args.bytes.now)
