use Rattle.std.proofs.lemmas.Result.{err_from_is_err_and}
use Rattle.gixp_planner.proofs.PrintLemmas.{course_fails}
use Rattle.gixp_planner.proofs.print.write_course.Goals as goal

pub returns-in_err-write_steps : goal.returns-in_err-write_steps
returns-in_err-write_steps g c = let p = err_from_is_err_and c.from_residual.result c.from_residual.ensures.1 in
    rw (p.1, p.2) (
      course_fails _ _ _ _ _ c.in_err-write_steps.ensures.0 c.new-pending.ensures.items,
      c.in_err-write_steps.ensures.1,
    )
