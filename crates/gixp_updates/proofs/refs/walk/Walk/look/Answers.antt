use Rattle.std.proofs.Common.{◌+◌, ◌∙◌, ◌||◌, inl, inr, ⊎_elim, not, ap, sym, subst, rules}
use Rattle.std.specs.Prelude.{IsSome}
use Rattle.std.specs.FinMap as finite
use Rattle.std.specs.Ordering.{eq_by_cmp}
use Rattle.std.proofs.lemmas.Bool.{or_cases}
use Rattle.std.proofs.lemmas.Int.{to_z-of_z}
use mir.Val.{SFits}
use mir.Syntax.{w64}
use Rattle.gixp_hash.specs.ObjectId.{id_cmp}
use Rattle.gixp_graph.specs.Object.{commit_at}
use Rattle.gixp_graph.specs.GraphData.{found_in}
use Rattle.gixp_graph.specs.GraphLaws.{same_from}
use Rattle.gixp_updates.specs.Search.{Search, WaitByTime, search_of, waits_in, waiting_len}
use Rattle.gixp_updates.proofs.LookLemmas.{absent, present, shows, noted_keeps, noted_here, more_one, explores_same, explores_found, looks_up, held_here, holds_on, waits_by_time}
use Rattle.gixp_updates.proofs.AskLemmas.{asked_one}
use Rattle.gixp_updates.proofs.refs.walk.Walk.look.Goals as goal

pub returns-in-Ok-false-clause-explores : goal.returns-in-Ok-false-clause-explores
returns-in-Ok-false-clause-explores g c =
    explores_same c.args.id.now (search_of c.args.self.now)
    (search_of c.note.new.self) c.in-Ok-false.ensures.ok c.args.graph.now.graph.objects
    (inl (c.in-Ok-false.ensures.added ∙ ap not c.in-Ok-false.field-0-test))
    (λ q. ap (λ h. waits_in h q) c.note.ensures.heap) (ap waiting_len c.note.ensures.heap)

pub returns-in-Ok-false-clause-more : goal.returns-in-Ok-false-clause-more
returns-in-Ok-false-clause-more g c =
    more_one c.args.id.now (search_of c.args.self.now) (search_of c.note.new.self) c.in-Ok-false.ensures.ok

pub returns-in_err-time-clause-more : goal.returns-in_err-time-clause-more
returns-in_err-time-clause-more g c = more_one c.args.id.now (search_of c.args.self.now) (search_of c.note.new.self) c.in-Ok-true.ensures.ok

pub returns-in_err-time-clause-asked : goal.returns-in_err-time-clause-asked
returns-in_err-time-clause-asked g c =
    let old : Search = search_of c.args.self.now in
    let new : Search = search_of c.note.new.self in
    asked_one c.args.graph.now.graph c.args.id.now old new (c.in-Ok-true.ensures.added ∙ ap not c.in-Ok-true.field-0-test)
    (noted_here c.args.id.now old new c.in-Ok-true.ensures.ok)
    (noted_keeps c.args.id.now old new c.in-Ok-true.ensures.ok) _ _ c.lookup.ensures.asked

pub returns-in_default-clause-explores : goal.returns-in_default-clause-explores
returns-in_default-clause-explores g c =
    explores_same c.args.id.now (search_of c.args.self.now)
    (search_of c.note.new.self) c.in-Ok-true.ensures.ok c.args.graph.now.graph.objects
    (inr (absent (commit_at c.args.graph.now.graph.objects c.args.id.now) (rw c.in_default.is at c.in_ok-time.ensures.time)))
    (λ q. ap (λ h. waits_in h q) c.note.ensures.heap) (ap waiting_len c.note.ensures.heap)

pub returns-in_default-clause-more : goal.returns-in_default-clause-more
returns-in_default-clause-more g c = more_one c.args.id.now (search_of c.args.self.now) (search_of c.note.new.self) c.in-Ok-true.ensures.ok

pub returns-in_default-clause-asked : goal.returns-in_default-clause-asked
returns-in_default-clause-asked g c =
    let old : Search = search_of c.args.self.now in
    let new : Search = search_of c.note.new.self in
    asked_one c.args.graph.now.graph c.args.id.now old new (c.in-Ok-true.ensures.added ∙ ap not c.in-Ok-true.field-0-test)
    (noted_here c.args.id.now old new c.in-Ok-true.ensures.ok)
    (noted_keeps c.args.id.now old new c.in-Ok-true.ensures.ok) _ _ c.lookup.ensures.asked

pub returns-in-Ok-clause-explores : goal.returns-in-Ok-clause-explores
returns-in-Ok-clause-explores g c =
    let new : Search = search_of (record { seen = c.note.new.self.seen; heap = c.push.new.self }) in
    explores_found c.args.id.now (search_of c.args.self.now) new c.in-Ok-true.ensures.ok c.args.graph.now.graph.objects
    (c.in-Ok-true.ensures.added ∙ ap not c.in-Ok-true.field-0-test)
    (present _ (commit_at c.args.graph.now.graph.objects c.args.id.now) (rw c.in-Some.is at c.in_ok-time.ensures.time))
    (λ q. c.in-Ok.ensures.waits q ∙ ap (λ h. eq_by_cmp id_cmp q c.args.id.now || waits_in h q) c.note.ensures.heap)
    (c.in-Ok.ensures.len ∙ ap (λ h. waiting_len h + 1) c.note.ensures.heap)

pub returns-in-Ok-clause-more : goal.returns-in-Ok-clause-more
returns-in-Ok-clause-more g c = more_one c.args.id.now (search_of c.args.self.now)
    (search_of (record { seen = c.note.new.self.seen; heap = c.push.new.self })) c.in-Ok-true.ensures.ok

pub returns-in-Ok-clause-graph : goal.returns-in-Ok-clause-graph
returns-in-Ok-clause-graph g c = looks_up c.args.graph.now.graph c.lookup.new.self.graph c.args.id.now c.in_ok-time.ensures.ok

pub returns-in-Ok-clause-holds : goal.returns-in-Ok-clause-holds
returns-in-Ok-clause-holds g c =
    let old : Search = search_of c.args.self.now in
    let new : Search = search_of (record { seen = c.note.new.self.seen; heap = c.push.new.self }) in
    holds_on c.args.graph.now.graph c.lookup.new.self.graph old new
    (looks_up c.args.graph.now.graph c.lookup.new.self.graph c.args.id.now c.in_ok-time.ensures.ok)
    (λ q w. ⊎_elim
    (λ e. inr (subst (λ x. IsSome (finite.get c.lookup.new.self.graph.held x)) (sym (same_from q c.args.id.now e))
    (held_here c.args.graph.now.graph c.lookup.new.self.graph c.args.id.now c.in_ok-time.ensures.ok
    (shows _ (found_in c.args.graph.now.graph c.args.id.now) (rw c.in-Some.is at c.in_ok-time.ensures.found)))))
    (λ e. inl (sym (ap (λ h. waits_in h q) c.note.ensures.heap) ∙ e))
    (or_cases (eq_by_cmp id_cmp q c.args.id.now) (waits_in c.note.new.self.heap q) (sym (c.in-Ok.ensures.waits q) ∙ w)))

pub returns-in-Ok-clause-asked : goal.returns-in-Ok-clause-asked
returns-in-Ok-clause-asked g c =
    let old : Search = search_of c.args.self.now in
    let new : Search = search_of (record { seen = c.note.new.self.seen; heap = c.push.new.self }) in
    asked_one c.args.graph.now.graph c.args.id.now old new (c.in-Ok-true.ensures.added ∙ ap not c.in-Ok-true.field-0-test)
    (noted_here c.args.id.now old new c.in-Ok-true.ensures.ok)
    (noted_keeps c.args.id.now old new c.in-Ok-true.ensures.ok) _ _ c.lookup.ensures.asked

pub returns-in-Err-push-clause-more : goal.returns-in-Err-push-clause-more
returns-in-Err-push-clause-more g c = more_one c.args.id.now (search_of c.args.self.now)
    (search_of (record { seen = c.note.new.self.seen; heap = c.push.new.self })) c.in-Ok-true.ensures.ok

pub returns-in-Err-push-clause-graph : goal.returns-in-Err-push-clause-graph
returns-in-Err-push-clause-graph g c = looks_up c.args.graph.now.graph c.lookup.new.self.graph c.args.id.now c.in_ok-time.ensures.ok

pub returns-in-Err-push-clause-asked : goal.returns-in-Err-push-clause-asked
returns-in-Err-push-clause-asked g c =
    let old : Search = search_of c.args.self.now in
    let new : Search = search_of (record { seen = c.note.new.self.seen; heap = c.push.new.self }) in
    asked_one c.args.graph.now.graph c.args.id.now old new (c.in-Ok-true.ensures.added ∙ ap not c.in-Ok-true.field-0-test)
    (noted_here c.args.id.now old new c.in-Ok-true.ensures.ok)
    (noted_keeps c.args.id.now old new c.in-Ok-true.ensures.ok) _ _ c.lookup.ensures.asked

pub returns-in-Ok-false-clause-by_time : goal.returns-in-Ok-false-clause-by_time
returns-in-Ok-false-clause-by_time g c w = subst (WaitByTime c.args.graph.now.graph.objects) (sym c.note.ensures.heap) w

pub returns-in_default-clause-by_time : goal.returns-in_default-clause-by_time
returns-in_default-clause-by_time g c w = subst (WaitByTime c.args.graph.now.graph.objects) (sym c.note.ensures.heap) w

pub returns-in-Ok-clause-by_time : goal.returns-in-Ok-clause-by_time
returns-in-Ok-clause-by_time g c w =
    let fits : SFits w64 c.in-Some.time = search rules in
    waits_by_time c.args.graph.now.graph.objects c.args.id.now c.in-Some.time c.note.new.self.heap c.push.new.self
    (rw (to_z-of_z w64 c.in-Some.time fits) at c.in-Ok.ensures.added)
    (sym (rw c.in-Some.is at c.in_ok-time.ensures.time)) (subst (WaitByTime c.args.graph.now.graph.objects) (sym c.note.ensures.heap) w)
