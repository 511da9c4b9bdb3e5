use Rattle.std.proofs.Common.{◌≡◌, map, take}
use Rattle.gixp_response.specs.AnswerLine.{id_from}
use Rattle.gixp_engine.proofs.read.ids_from.Given as goal

abbrev pub invariant-loop-id : goal.invariant-loop-id
invariant-loop-id l = l.ids.items ≡ map id_from (take l.id-index l.whole)
