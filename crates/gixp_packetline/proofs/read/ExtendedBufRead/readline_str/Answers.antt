use Rattle.std.proofs.Common.{refl, rules}
use Rattle.gixp_packetline.proofs.RunLemmas.{peeked-takes, shows-takes}
use Rattle.gixp_packetline.proofs.read.ExtendedBufRead.readline_str.Goals as goal

pub returns-in_default-clause-text : goal.returns-in_default-clause-text
returns-in_default-clause-text g c =
    let shown = rw c.if-not-branch.false at c.in_ok-peek_line.ensures.peeks in
    let taken = peeked-takes _ _ c.next_line.result c.next_line.ensures.reads shown.peeked in
    let line = taken.again shown.peeked in
    (shows-takes _ _ _ shown taken, rw (line, ← c.line.ensures) c.in_default.ensures.cases.0, refl)

pub returns-clause-text : goal.returns-clause-text
returns-clause-text g c = search rules
