-- The output of the rest after the output so far is the output of the whole text.
use Rattle.std.proofs.Common.{ℕ, Bool, List, Option, length}
use Rattle.gixp_client.specs.Listening.{ShowsLines, after_text}
use Rattle.gixp_client.proofs.listen.RemoteLines.show.Given as goal

abbrev pub invariant-loop-byte : goal.invariant-loop-byte
invariant-loop-byte g l = (is_cut : Bool) (holds : Option (List ℕ)) (line : List ℕ)
    → ShowsLines l.self.is_cut (g.W.Write.contents l.self.writer) is_cut holds line (after_text l.self.line.items l.rest)
    → ShowsLines l.fn.self.is_cut (g.W.Write.contents l.fn.self.writer) is_cut holds line (after_text l.fn.self.line.items l.fn.text)

abbrev pub decreases-loop-byte : goal.decreases-loop-byte
decreases-loop-byte g l = length l.rest
