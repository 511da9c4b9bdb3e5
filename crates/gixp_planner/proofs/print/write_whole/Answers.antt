use Rattle.std.proofs.Common.{rules, arith, subst}
use Rattle.std.proofs.lemmas.Grind.{common_steps}
use Rattle.std.specs.Io.KnownBytes.{Keeps}
use Rattle.gixp_planner.proofs.PrintLemmas.{ended-in-flush}
use Rattle.gixp_planner.proofs.print.write_whole.Goals as goal

pub returns : goal.returns
returns g c =
    ended-in-flush g.W.Write.contents _ c.args.text.now _ _ _ (λ mid answer new made.
    let m = made.met in let s = made.shows in let l = made.leaves in
    subst (λ b. Keeps (g.W.Write.contents mid) (g.W.Write.contents b)) l
    (subst (λ a. Keeps (g.W.Write.contents a) (g.W.Write.contents made.left.now)) s
    (first_of (search (rules, m) parts 8, grind (arith, common_steps, m), search rules))))
    c.write_then_flush.ensures
