use Rattle.std.proofs.Common.{◌+◌, ◌*◌, ℕ, false, Option, Some, None}
use Rattle.gixp_response.specs.declared.fetch.response.sections.Section.{Section}
use Rattle.gixp_response.proofs.SectionLemmas.{Within}
use Rattle.gixp_response.proofs.fetch.response.sections.read_sections.Given as goal

abbrev pub invariant-loop-answer : goal.invariant-loop-answer
invariant-loop-answer g l = Within l.answer l.at (g.R.ExtendedBufRead.reading l.fn.reader) (g.R.ExtendedBufRead.reading l.reader)
    × g.R.ExtendedBufRead.asks l.fn.reader false l.reader

abbrev open_sections : Option Section → ℕ
open_sections (Some s) = 1
open_sections None = 0

abbrev pub decreases-loop-answer : goal.decreases-loop-answer
decreases-loop-answer g l = 2 * (g.R.ExtendedBufRead.reading l.reader).left + open_sections l.at
