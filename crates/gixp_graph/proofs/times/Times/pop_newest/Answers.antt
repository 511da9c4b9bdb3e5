use Rattle.std.proofs.Common.{rules, ◌≡◌, ℤ, ◌∷◌, [], sym, subst}
use Rattle.std.specs.Prelude.{All, ◌≤ℤ◌}
use Rattle.std.specs.List.Sorted.{IsPermutation}
use Rattle.std.proofs.lemmas.Int.{to_z-of_z}
use mir.Val.{SFits}
use mir.Syntax.{w64}
use Rattle.gixp_graph.specs.declared.queue.Entry.{Entry}
use Rattle.gixp_graph.specs.Queue.{entry_at}
use Rattle.gixp_graph.specs.Times.{all_entries, IsRest}
use Rattle.gixp_graph.proofs.TimesLemmas.{no_time, if_none, popped_times, rest_newest}
use Rattle.gixp_graph.proofs.times.Times.pop_newest.Goals as goal

pub returns-in_err-list-clause-none : goal.returns-in_err-list-clause-none
returns-in_err-list-clause-none c =
    let a = c.self.inside in
    if_none c.from_residual.result (c.args.self.now ≡ [])
    (no_time a.links.items a.newest a.lists.entries c.args.self.now c.self.view_is c.in_err-list.ensures.none.0
    c.in_err-list.ensures.none.1)

pub returns-clause-taken : goal.returns-clause-taken
returns-clause-taken c =
    let a = c.self.inside in
    let list = c.in_ok-list.list in
    let rest = c.rest_of-self-inside.result in
    let fits : SFits w64 list.0 = search rules in
    let left : IsRest a.links.items list rest =
    subst (λ links. IsRest links list rest) c.as_slice.ensures.value c.rest_of-self-inside.ensures in
    subst (λ (z : ℤ). IsPermutation c.args.self.now
    (entry_at z list.1.number ∷ all_entries a.links.items rest c.take_list.new.lists.entries)) (sym (to_z-of_z w64 list.0 fits))
    (popped_times a.links.items a.newest a.lists.entries c.args.self.now c.self.view_is list c.take_list.new.lists.entries rest
    c.self.invariant c.in_ok-list.ensures.some left)

pub returns-clause-newest : goal.returns-clause-newest
returns-clause-newest c =
    let a = c.self.inside in
    let list = c.in_ok-list.list in
    let rest = c.rest_of-self-inside.result in
    let fits : SFits w64 list.0 = search rules in
    let left : IsRest a.links.items list rest =
    subst (λ links. IsRest links list rest) c.as_slice.ensures.value c.rest_of-self-inside.ensures in
    subst (λ (z : ℤ). All (λ (w : Entry). w.time ≤ℤ z) (all_entries a.links.items rest c.take_list.new.lists.entries))
    (sym (to_z-of_z w64 list.0 fits))
    (rest_newest a.links.items list rest c.take_list.new.lists.entries (c.in_ok-list.ensures.some a.links.items c.self.invariant).0 left)
