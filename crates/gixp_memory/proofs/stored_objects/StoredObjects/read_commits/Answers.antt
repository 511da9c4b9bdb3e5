use Rattle.std.proofs.Common.{◌∙◌, ap, map}
use Rattle.bstr.specs.BStr.{bstr_bytes}
use Rattle.gixp_memory.specs.Repository.{commit_line}
use Rattle.gixp_memory.proofs.TextLemmas.{read_more, stops_at_line, stops_between}
use Rattle.gixp_memory.proofs.stored_objects.StoredObjects.read_commits.Goals as goal

pub loop-line-preserved : goal.loop-line-preserved
loop-line-preserved c =
    read_more commit_line bstr_bytes c.deref-line-items.result.now c.args.self.now c.loop-line.line-index c.loop-line.number
    c.as_bytes.result.now _ c.loop-line.self c.add_commit_line.new.self
    c.loop-line.invariant c.loop-line-test.true c.as_bytes.ensures (c.in-Ok-true.ensures.read c.in-Ok-true.field-0-test)

pub returns-in-Ok-false : goal.returns-in-Ok-false
returns-in-Ok-false c =
    let unread = c.in-Ok-false.ensures.unread c.in-Ok-false.field-0-test in
    stops_at_line commit_line bstr_bytes c.deref-line-items.result.now c.args.self.now c.args.text.now
    (ap (map bstr_bytes) c.deref-line-items.ensures.value ∙ c.in-Ok.ensures) c.loop-line.line-index c.loop-line.number
    c.as_bytes.result.now _ c.loop-line.self c.add_commit_line.new.self
    c.loop-line.invariant c.loop-line-test.true c.as_bytes.ensures unread.0 unread.1

pub returns-in-Err : goal.returns-in-Err
returns-in-Err c =
    stops_between commit_line bstr_bytes c.deref-line-items.result.now c.args.self.now c.args.text.now
    (ap (map bstr_bytes) c.deref-line-items.ensures.value ∙ c.in-Ok.ensures) c.loop-line.line-index c.loop-line.number
    c.loop-line.self c.add_commit_line.new.self c.loop-line.invariant c.in-Err.ensures.err
