use Rattle.std.proofs.Common.{sym, ap, [], rules}
use Rattle.gixp_packetline.specs.Reading.{refusal_of}
use Rattle.gixp_refs.specs.RefLine.{v2_line}
use Rattle.gixp_refs.proofs.RefsLemmas.{refs-start, refs-reader, refs-refused}
use Rattle.gixp_packetline.proofs.ReadingLemmas.{at_stop-keeps, fails-keep}
use Rattle.gixp_refs.proofs.handshake.refs.next_v2_ref.Goals as goal

pub returns-in-Err-clause-answer : goal.returns-in-Err-clause-answer
returns-in-Err-clause-answer g c =
    refs-reader _ _ _ _ [] (refusal_of c.in-Err.e) _ (refs-start _) c.in-Err.ensures.reads c.in-Err.ensures.plain c.from.ensures

pub returns-in-Err-parse_v2-clause-answer : goal.returns-in-Err-parse_v2-clause-answer
returns-in-Err-parse_v2-clause-answer g c =
    let k = rw c.in-Ok-true.field-0-test at c.in-Ok-true.ensures.reads in
    refs-refused _ _ _ _ [] c.in-Err-parse_v2.e _ (refs-start _) k (ap v2_line (sym c.line.ensures)) c.in-Err-parse_v2.ensures

pub returns-in-Ok-false-clause-held : goal.returns-in-Ok-false-clause-held
returns-in-Ok-false-clause-held g c =
    let k = rw c.in-Ok-false.field-0-test at c.in-Ok-false.ensures.reads in
    (at_stop-keeps _ _ k).held

pub returns-in-Ok-false-clause-version : goal.returns-in-Ok-false-clause-version
returns-in-Ok-false-clause-version g c =
    let k = rw c.in-Ok-false.field-0-test at c.in-Ok-false.ensures.reads in
    (at_stop-keeps _ _ k).version

pub returns-in-Err-clause-held : goal.returns-in-Err-clause-held
returns-in-Err-clause-held g c = (fails-keep _ _ (refusal_of c.in-Err.e) c.in-Err.ensures.reads).held

pub returns-in-Err-clause-version : goal.returns-in-Err-clause-version
returns-in-Err-clause-version g c = (fails-keep _ _ (refusal_of c.in-Err.e) c.in-Err.ensures.reads).version

pub returns-in-Ok-clause-held : goal.returns-in-Ok-clause-held
returns-in-Ok-clause-held g c =
    let k = rw c.in-Ok-true.field-0-test at c.in-Ok-true.ensures.reads in
    k.held

pub returns-in-Ok-clause-version : goal.returns-in-Ok-clause-version
returns-in-Ok-clause-version g c =
    let k = rw c.in-Ok-true.field-0-test at c.in-Ok-true.ensures.reads in
    k.version

pub returns-in-Err-parse_v2-clause-held : goal.returns-in-Err-parse_v2-clause-held
returns-in-Err-parse_v2-clause-held g c =
    let k = rw c.in-Ok-true.field-0-test at c.in-Ok-true.ensures.reads in
    k.held

pub returns-in-Err-parse_v2-clause-version : goal.returns-in-Err-parse_v2-clause-version
returns-in-Err-parse_v2-clause-version g c =
    let k = rw c.in-Ok-true.field-0-test at c.in-Ok-true.ensures.reads in
    k.version

pub returns-in-Ok-false-clause-next : goal.returns-in-Ok-false-clause-next
returns-in-Ok-false-clause-next g c = search rules

pub returns-in-Ok-false-clause-answer : goal.returns-in-Ok-false-clause-answer
returns-in-Ok-false-clause-answer g c = search rules
