-- The list that was taken out is put back first.
use Rattle.std.proofs.Common.{sym, subst}
use Rattle.gixp_graph.specs.Times.{AllEnd}
use Rattle.gixp_graph.proofs.TimesLemmas.{restored, pushed_ok}
use Rattle.gixp_graph.proofs.times.Times.push.Goals as goal

pub add-requires-clause-ends : goal.add-requires-clause-ends
add-requires-clause-ends c =
    let a = c.self.inside in
    subst (AllEnd a.links.items) (sym c.in_ok-put_back.ensures.ok)
    (restored a.links.items a.newest a.lists.entries c.self.invariant).0

pub returns : goal.returns
returns c =
    let a = c.self.inside in
    pushed_ok a.links.items a.newest a.lists.entries c.args.self.now c.self.view_is c.add.result c.args.entry
    c.put_back.new.lists.entries c.add.new.links.items c.add.new.lists.entries c.self.invariant c.in_ok-put_back.ensures.ok
    c.add.ensures.added
