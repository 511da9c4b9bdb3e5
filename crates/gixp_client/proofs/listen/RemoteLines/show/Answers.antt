use Rattle.std.proofs.Common.{rules}
use Rattle.gixp_client.proofs.ShownLemmas.{shows_byte, shows_end}
use Rattle.gixp_client.proofs.listen.RemoteLines.show.Goals as goal

pub loop-byte-preserved : goal.loop-byte-preserved
loop-byte-preserved g c = λ is_cut holds line h. c.loop-byte.invariant is_cut holds line
    (shows_byte _ _ _ _ _ _ _ _ _ c.in-Some.byte.now c.loop-byte.rest.now c.in-Some.tail.now (search rules) c.show_byte.ensures h)

pub returns : goal.returns
returns g c = c.loop-byte.invariant c.loop-byte.self.is_cut (g.W.Write.contents c.loop-byte.self.writer) c.loop-byte.self.line.items
    (shows_end _ _ _ c.loop-byte.rest.now c.in_default.ensures.cases)
