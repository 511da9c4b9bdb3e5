-- The time of the list that was taken out, or the last time of the map.
use Rattle.std.proofs.Common.{rules, ℤ, sym, subst, true≢false}
use Rattle.std.specs.Prelude.{All, ◌≤ℤ◌}
use Rattle.std.proofs.lemmas.Int.{to_z-of_z}
use mir.Val.{SFits}
use mir.Syntax.{w64}
use Rattle.gixp_graph.specs.declared.queue.Entry.{Entry}
use Rattle.gixp_graph.proofs.TimesLemmas.{time_taken, time_last, no_time, no_lists}
use Rattle.gixp_graph.proofs.times.Times.newest_time.Goals as goal

pub returns-in-Some-clause-some : goal.returns-in-Some-clause-some
returns-in-Some-clause-some c =
    let a = c.self.inside in
    let fits : SFits w64 c.in-Some.time = search rules in
    subst (λ (z : ℤ). All (λ (w : Entry). w.time ≤ℤ z) c.args.self.now) (sym (to_z-of_z w64 c.in-Some.time fits))
    (time_taken a.links.items a.newest a.lists.entries c.args.self.now c.self.view_is _ c.in-Some.is c.self.invariant)

pub returns-in-Some-last_key_value-clause-some : goal.returns-in-Some-last_key_value-clause-some
returns-in-Some-last_key_value-clause-some c =
    let a = c.self.inside in
    let t : ℤ = c.in-Some-last_key_value.last.0.now in
    let fits : SFits w64 t = search rules in
    subst (λ (z : ℤ). All (λ (w : Entry). w.time ≤ℤ z) c.args.self.now) (sym (to_z-of_z w64 t fits))
    (time_last a.links.items a.newest a.lists.entries c.args.self.now c.self.view_is t c.in_default.is
    c.in-Some-last_key_value.ensures.all_up_to)

pub returns-in-None-clause-none : goal.returns-in-None-clause-none
returns-in-None-clause-none c =
    let a = c.self.inside in
    no_time a.links.items a.newest a.lists.entries c.args.self.now c.self.view_is c.in_default.is
    (no_lists a.lists.entries (λ l. true≢false (sym (c.in-None.ensures.variant.1 l))))
