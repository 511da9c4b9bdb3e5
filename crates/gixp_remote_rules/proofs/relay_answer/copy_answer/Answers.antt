-- A line more, or the last.
use Rattle.std.proofs.Common.{true, false, ◌∙◌, sym}
use Rattle.gixp_remote_rules.proofs.RelayLemmas.{copy_begins, copy_goes_on, copy_ends}
use Rattle.gixp_remote_rules.proofs.relay_answer.copy_answer.Goals as goal

pub lines-init : goal.lines-init
lines-init g c = copy_begins (g.R.Read.remaining c.args.from.now) (g.W.Write.contents c.args.to.now)

pub lines-preserved : goal.lines-preserved
lines-preserved g c =
    copy_goes_on (g.R.Read.remaining c.args.from.now) (g.R.Read.remaining c.lines.from) (g.R.Read.remaining c.read_line.new.from)
    (g.W.Write.contents c.args.to.now) (g.W.Write.contents c.lines.to) (g.W.Write.contents c.write_all.new.self)
    c.read_line.new.line.items c.lines.invariant c.in_ok-read_line.ensures.bytes c.in_ok-read_line.ensures.rest
    (sym c.in_ok-read_line.ensures.line ∙ c.in-Text.is) (rw c.deref.ensures.value at c.in_ok-write_all-in-Text.ensures.bytes)

pub returns-in-End : goal.returns-in-End
returns-in-End g c =
    copy_ends true (g.R.Read.remaining c.args.from.now) (g.R.Read.remaining c.lines.from) (g.R.Read.remaining c.read_line.new.from)
    (g.W.Write.contents c.args.to.now) (g.W.Write.contents c.lines.to) c.read_line.new.line.items c.lines.invariant
    c.in_ok-read_line.ensures.bytes c.in_ok-read_line.ensures.rest (sym c.in_ok-read_line.ensures.line ∙ c.in-End.is)

pub returns-in-Cut : goal.returns-in-Cut
returns-in-Cut g c =
    copy_ends false (g.R.Read.remaining c.args.from.now) (g.R.Read.remaining c.lines.from) (g.R.Read.remaining c.read_line.new.from)
    (g.W.Write.contents c.args.to.now) (g.W.Write.contents c.lines.to) c.read_line.new.line.items c.lines.invariant
    c.in_ok-read_line.ensures.bytes c.in_ok-read_line.ensures.rest (sym c.in_ok-read_line.ensures.line ∙ c.in-Cut.is)
