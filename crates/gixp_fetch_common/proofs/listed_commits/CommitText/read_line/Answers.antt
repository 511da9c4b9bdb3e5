-- The first line of what is left.
use Rattle.std.proofs.Common.{◌<◌, length, subst}
use Rattle.std.specs.Io.{StopsAt, appended_bytes}
use Rattle.gixp_fetch_common.proofs.FirstLineLemmas.{one_line}
use Rattle.gixp_fetch_common.proofs.ListedLemmas.{counted, line_read}
use Rattle.gixp_fetch_common.proofs.listed_commits.CommitText.read_line.Goals as goal

pub returns-clause-read : goal.returns-clause-read
returns-clause-read g c h =
    let some : 0 < length c.read_until.new.buf.items =
    subst (λ n. 0 < n) c.read_until.new.buf.ok.0 (counted c.in_ok-count.count _ _ h c.in_ok-count.ensures.ok) in
    line_read _ _ c.clear.new.self.items c.read_until.new.buf.items c.clear.ensures.items some c.in_ok-count.ensures.bytes
    c.in_ok-count.ensures.rest

pub returns-clause-one : goal.returns-clause-one
returns-clause-one g c h =
    let some : 0 < length c.read_until.new.buf.items =
    subst (λ n. 0 < n) c.read_until.new.buf.ok.0 (counted c.in_ok-count.count _ _ h c.in_ok-count.ensures.ok) in
    let stops : StopsAt c.read_until.new.buf.items 10 =
    subst (λ l. StopsAt (appended_bytes l c.read_until.new.buf.items) 10) c.clear.ensures.items c.read_until.ensures.stops in
    one_line c.read_until.new.buf.items some stops
