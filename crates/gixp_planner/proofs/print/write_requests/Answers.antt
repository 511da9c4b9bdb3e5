use Rattle.std.proofs.Common.{ℕ, ap, map, Vec, vec_items}
use Rattle.std.proofs.lemmas.Result.{err_from_is_err_and}
use Rattle.std.specs.declared.alloc.Global.{Global}
use Rattle.gixp_planner.proofs.ListLemmas.{left-at}
use Rattle.gixp_planner.proofs.PrintLemmas.{requests-next, next-part, next-fails}
use Rattle.gixp_planner.proofs.print.write_requests.Goals as goal

pub returns-in_err-write_request : goal.returns-in_err-write_request
returns-in_err-write_request g c = let p = err_from_is_err_and c.from_residual.result c.from_residual.ensures.1 in
    rw (p.1, p.2) (
      next-fails _ _ _ _ _ _ _ _ c.loop-place.invariant
          (requests-next c.loop-place.place _ _ c.index-requests-place.result.items c.deref.result.now
          (ap (map (λ (v : Vec ℕ Global). vec_items v))
          (left-at c.args.requests.now c.loop-place.place c.index-requests-place.result c.loop-place-test.true c.index-requests-place.is))
          c.deref.ensures.value)
          c.in_err-write_request.ensures.0,
      c.in_err-write_request.ensures.1,
    )

pub loop-place-preserved : goal.loop-place-preserved
loop-place-preserved g c = next-part _ _ _ _ _ _ _ _ _ c.loop-place.invariant
    (requests-next c.loop-place.place _ _ c.index-requests-place.result.items c.deref.result.now
    (ap (map (λ (v : Vec ℕ Global). vec_items v))
    (left-at c.args.requests.now c.loop-place.place c.index-requests-place.result c.loop-place-test.true c.index-requests-place.is))
    c.deref.ensures.value)
    c.in_ok-write_request.ensures
