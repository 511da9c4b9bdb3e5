use Rattle.std.proofs.Common.{◌++◌, subst, rules}
use Rattle.gixp_planner.specs.Written.{HoldsRest}
use Rattle.gixp_planner.proofs.PrintLemmas.{fix-pieces}
use Rattle.gixp_planner.proofs.print.write_fix.Goals as goal

pub returns : goal.returns
returns g c =
    subst (λ t. HoldsRest (g.W.Write.contents c.args.writer.now) (g.W.Write.contents c.append_pieces.new.writer)
    c.append_pieces.new.pending.items (c.args.pending.now.items ++ t) c.append_pieces.result)
    (fix-pieces c.args.fix.now c.as_bytes.result.now c.as_bytes-2.result.now (search rules) (search rules)) c.append_pieces.ensures.text
