-- The commits that a response names as common more than once.
use Rattle.std.specs.Prelude.{◌≡◌, ℕ, ◌+◌, Bool, true, if◌then◌else◌, List, [], ◌∷◌, slice_index}
use Rattle.std.specs.Int.{from_le_bytes, w64}
use Rattle.std.specs.List.{fold}
use Rattle.std.specs.Ordering.{nat_cmp, ordering_then}
use Rattle.std.specs.declared.cmp.Ordering.{Ordering}
use Rattle.gixp_hash.specs.declared.object_id.ObjectId.{ObjectId}
use Rattle.gixp_hash.specs.ObjectId.{id_cmp}
use Rattle.gixp_utils.specs.Repeats.{tested_from}
use Rattle.gixp_response.specs.declared.fetch.response.line.Acknowledgement.{Acknowledgement}
use Rattle.gixp_response.specs.declared.fetch.response.line.Acknowledgement.TheVariants.{Common, Ready, Nak}
use Rattle.gixp_response.specs.declared.fetch.response.repeats.Repeats.{Repeats}
use Rattle.gixp_response.specs.Answer.{AnswerValue}
use Rattle.gixp_response.specs.Beginnings.{with_acknowledgement}

-- the first eight bytes of an id, as a number
unfoldable pub front_of : List ℕ → ℕ
front_of bytes =
    from_le_bytes w64 (slice_index bytes 0 ∷ slice_index bytes 1 ∷ slice_index bytes 2 ∷ slice_index bytes 3
    ∷ slice_index bytes 4 ∷ slice_index bytes 5 ∷ slice_index bytes 6 ∷ slice_index bytes 7 ∷ [])

-- an order of ids that mostly compares only their first bytes
abbrev pub front_cmp : ObjectId → ObjectId → Ordering
front_cmp a b = ordering_then (nat_cmp (front_of a.bytes) (front_of b.bytes)) (id_cmp a b)

-- rows by their ids in that order, then by position
abbrev pub row_cmp : ObjectId × ℕ → ObjectId × ℕ → Ordering
row_cmp a b = ordering_then (front_cmp a.0 b.0) (nat_cmp a.1 b.1)

-- the elements whose flag is true
abbrev pub flagged : {A : Type 0} → List A → List Bool → List A
flagged [] flags = []
flagged (x ∷ xs) [] = []
flagged (x ∷ xs) (flag ∷ flags) = if flag then x ∷ flagged xs flags else flagged xs flags

-- the commits named as common, each with the position of its acknowledgement, counted from n
abbrev pub named_from : ℕ → List Acknowledgement → List (ObjectId × ℕ)
named_from n [] = []
named_from n (Common id ∷ more) = (id, n) ∷ named_from (n + 1) more
named_from n (Ready ∷ more) = named_from (n + 1) more
named_from n (Nak ∷ more) = named_from (n + 1) more

-- all acknowledgements are recorded, and no repeat is marked yet
pub record AreNoted (had : List Acknowledgement) (noted : Repeats) : Type 0 where
  pub rows : noted.rows.items ≡ named_from 0 had
  pub flags : noted.flags.items ≡ tested_from (λ place. true) 0 had

-- the response with each commit named as common only once
abbrev pub without_repeats : AnswerValue → AnswerValue
without_repeats answer = record answer { acknowledgements = fold with_acknowledgement [] answer.acknowledgements }
