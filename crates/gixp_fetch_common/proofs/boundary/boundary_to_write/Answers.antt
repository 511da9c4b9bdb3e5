use Rattle.std.proofs.Common.{◌∙◌, sym}
use Rattle.gixp_fetch_common.proofs.SameIdLemmas.{same_ids}
use Rattle.gixp_fetch_common.proofs.boundary.boundary_to_write.Goals as goal

pub returns-then-eq : goal.returns-then-eq
returns-then-eq c = (same_ids c.args.new.now c.args.old.now c.eq.result c.eq.ensures).0 c.if-eq.true

pub returns-in_ok-from_slice : goal.returns-in_ok-from_slice
returns-in_ok-from_slice c =
    let made = c.in_ok-from_slice.ensures.items in
    let reports = same_ids c.args.new.now c.args.old.now c.eq.result c.eq.ensures in
    (made, λ e. let t = reports.1 (sym made ∙ e) in let f = c.if-eq.false in cc)
