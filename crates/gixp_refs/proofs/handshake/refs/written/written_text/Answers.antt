use Rattle.gixp_refs.proofs.AnswerLemmas.{not_empty}
use Rattle.gixp_refs.proofs.WrittenLemmas.{direct_written, peeled_written}
use Rattle.gixp_refs.proofs.handshake.refs.written.written_text.Goals as goal

pub returns-in-None-attribute : goal.returns-in-None-attribute
returns-in-None-attribute c =
    let following = c.in-Some.ensures in
    let parts = rw c.in-None-attribute.is at c.cut.ensures in
    direct_written _ _ following.0 c.in-Some.rest.now _ c.trim_end-text.ensures following.1 following.2 parts (not_empty _ c.if-is_empty.ensures)

pub returns-in-Some-attribute : goal.returns-in-Some-attribute
returns-in-Some-attribute c =
    let following = c.in-Some.ensures in
    let reported = c.is_peeled.ensures c.if-is_peeled.true in
    let parts = rw c.in-Some-attribute.is at c.cut.ensures in
    peeled_written _ _ following.0 c.in-Some.rest.now _ c.in-Some-attribute.attribute.now reported.0 c.trim_end-text.ensures following.1 following.2
    parts (not_empty _ c.if-is_empty.ensures) reported.1 reported.2
