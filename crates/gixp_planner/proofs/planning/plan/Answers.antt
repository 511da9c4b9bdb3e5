use Rattle.std.proofs.Common.{inl, inr, true, refl, codes, map, [], ◌∙◌}
use Rattle.bstr.specs.Owned.{bstring_bytes}
use Rattle.std.proofs.lemmas.Result.{err_from_is_err_and}
use Rattle.std.proofs.KnownBytes.{Keeps-refl}
use Rattle.gixp_planner.specs.PlannedText.{shown, refused}
use Rattle.gixp_planner.proofs.SessionLemmas.{is-course, shows_printed}
use Rattle.gixp_planner.proofs.MappedLemmas.{fetches-extend, shows-mapped}
use Rattle.gixp_planner.proofs.StepLemmas.{not-begun, l-not-t, e-not-t}
use Rattle.gixp_planner.proofs.planning.plan.Goals as goal

pub returns-in_err-context : goal.returns-in_err-context
returns-in_err-context g c = let p = err_from_is_err_and c.from_residual.result c.from_residual.ensures.1 in rw (p.1, p.2)
    (record {
      text = refused c.in_err-context.field-0.0 refl (inl c.in_err-context.ensures) (Keeps-refl _);
      mapped = λ q. absurd (not-begun (codes "fetch") c.in_err-context.field-0.0 q l-not-t (map bstring_bytes c.args.specs.now) e-not-t
          (inl c.in_err-context.ensures));
    })

pub returns-in_default : goal.returns-in_default
returns-in_default g c = record {
  text = refused _ refl (inr c.memory.ensures) (Keeps-refl _);
  mapped = λ q. absurd (not-begun (codes "fetch") c.memory.result q l-not-t [] e-not-t (inr c.memory.ensures));
}

pub returns : goal.returns
returns g c = record {
  text =
      shown _
      (is-course _ _ _ c.in_ok-context.context c.in-Ok.transport _ _ _ c.sent.result.now c.run-course.ensures.mapped c.failures.result
      c.run-course.result.ended c.counted-ended.result c.in_ok-context.ensures
      (c.new-url.ensures ∙ c.new.ensures.items) c.new-2.ensures.items
      c.in-Ok.ensures c.run-course.ensures.runs c.failures.ensures c.counted-ended.ensures c.sent.ensures)
      (shows_printed _ _ _ _ _ _ _ _ c.run-course.ensures.shown c.write_course-written.ensures c.outcome.ensures);
  mapped =
      shows-mapped _ _ _ _ _ (λ m h from to r p it. fetches-extend _ (c.sessions_are_bounded.ensures true) _ _ h from to r p it) _ _
      (is-course _ _ _ c.in_ok-context.context c.in-Ok.transport _ _ _ c.sent.result.now c.run-course.ensures.mapped c.failures.result
      c.run-course.result.ended c.counted-ended.result c.in_ok-context.ensures
      (c.new-url.ensures ∙ c.new.ensures.items) c.new-2.ensures.items
      c.in-Ok.ensures c.run-course.ensures.runs c.failures.ensures c.counted-ended.ensures c.sent.ensures)
      (shows_printed _ _ _ _ _ _ _ _ c.run-course.ensures.shown c.write_course-written.ensures c.outcome.ensures);
}
