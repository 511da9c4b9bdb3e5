-- The order of the items of a response.
use Rattle.std.specs.Prelude.{ℕ}
use Rattle.std.specs.declared.cmp.Ordering.{Ordering}
use Rattle.std.specs.Ordering.{nat_cmp, ordering_then}
use Rattle.std.specs.Cmp.Lexicographic.{slice_cmp}
use Rattle.gixp_hash.specs.ObjectId.{id_cmp}
use Rattle.gixp_response.specs.declared.fetch.response.line.Acknowledgement.{Acknowledgement}
use Rattle.gixp_response.specs.declared.fetch.response.line.Acknowledgement.TheVariants.{Common, Ready, Nak}
use Rattle.gixp_response.specs.AnswerLine.{WantedValue}

-- the rank of the three kinds of acknowledgements
abbrev pub acknowledgement_place : Acknowledgement → ℕ
acknowledgement_place (Common id) = 0
acknowledgement_place Ready = 1
acknowledgement_place Nak = 2

-- by kind; common commits by their ids
abbrev pub acknowledgement_cmp : Acknowledgement → Acknowledgement → Ordering
acknowledgement_cmp (Common a) (Common b) = id_cmp a b
acknowledgement_cmp a b = nat_cmp (acknowledgement_place a) (acknowledgement_place b)

-- by id, then by path
abbrev pub wanted_cmp : WantedValue → WantedValue → Ordering
wanted_cmp a b = ordering_then (slice_cmp nat_cmp a.id b.id) (slice_cmp nat_cmp a.path b.path)
