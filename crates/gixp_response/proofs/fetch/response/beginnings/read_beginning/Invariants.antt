use Rattle.std.proofs.Common.{◌+◌, ◌*◌, ℕ, Bool, true, false}
use Rattle.gixp_response.specs.Beginnings.{expected}
use Rattle.gixp_response.specs.RepeatedCommons.{AreNoted, without_repeats}
use Rattle.gixp_response.proofs.BeginningLemmas.{Amid}
use Rattle.gixp_response.proofs.fetch.response.beginnings.read_beginning.Given as goal

abbrev pub invariant-loop-answer : goal.invariant-loop-answer
invariant-loop-answer g l =
    Amid l.version (expected l.expects_pack l.negotiates) (without_repeats l.answer) l.received_ready l.follows_stop
    (g.R.ExtendedBufRead.reading l.fn.reader) (g.R.ExtendedBufRead.reading l.reader)
    × AreNoted l.answer.acknowledgements l.repeats
    × g.R.ExtendedBufRead.asks l.fn.reader false l.reader

abbrev stops_left : Bool → ℕ
stops_left true = 0
stops_left false = 1

abbrev pub decreases-loop-answer : goal.decreases-loop-answer
decreases-loop-answer g l = 2 * (g.R.ExtendedBufRead.reading l.reader).left + stops_left l.follows_stop
