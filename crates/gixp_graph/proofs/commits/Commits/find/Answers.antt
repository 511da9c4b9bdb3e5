use Rattle.std.proofs.Common.{◌≡◌, ◌<◌, length, sym, subst}
use Rattle.std.specs.Prelude.{IfSome, IfNone}
use Rattle.gixp_graph.specs.Node.{ids_of}
use Rattle.gixp_graph.specs.Slots.{IsNumbered, IsNew}
use Rattle.gixp_graph.specs.Table.{id_at}
use Rattle.gixp_graph.proofs.NodeLemmas.{no_number}
use Rattle.gixp_graph.proofs.commits.Commits.find.Goals as goal

pub find-requires : goal.find-requires
find-requires c = subst (λ ns. IsNumbered (ids_of ns) c.self.inside.numbers) (sym c.as_slice.ensures.value) c.self.invariant.numbering

pub returns-clause-some : goal.returns-clause-some
returns-clause-some c =
    rw (← c.self.view_is)
    (subst (λ ns. IfSome c.find.result (λ n. (n < length (ids_of ns)) × (id_at (ids_of ns) n ≡ c.args.id.now))) c.as_slice.ensures.value
    c.find.ensures.some)

pub returns-clause-none : goal.returns-clause-none
returns-clause-none c =
    rw (← c.self.view_is)
    (no_number c.self.inside.nodes.items c.self.inside.parents.items c.find.result c.args.id.now
    (subst (λ ns. IfNone c.find.result (IsNew (ids_of ns) c.args.id.now)) c.as_slice.ensures.value c.find.ensures.none))
