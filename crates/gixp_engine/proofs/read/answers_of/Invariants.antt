use Rattle.std.proofs.Common.{◌≡◌, ℕ, List, map, drop}
use Rattle.gixp_transport.specs.Bodies.{answer_of}
use Rattle.gixp_engine.specs.Handed.{answer_in}
use Rattle.gixp_engine.proofs.HandedLemmas.{AnswersSoFar}
use Rattle.gixp_engine.proofs.read.answers_of.Given as goal

abbrev pub invariant-loop-end : goal.invariant-loop-end
invariant-loop-end l = (taken : List (List ℕ)) × AnswersSoFar l.bytes l.ends l.start (drop l.end-index l.ends) taken
    × (map answer_of l.answers.items ≡ map answer_in taken)
