use Rattle.std.proofs.Common.{ℕ, ◌<◌}
use Rattle.std.specs.List.{slice_index_or}
use Rattle.gixp_records.specs.declared.refs.RefRecord.{RefRecord}
use Rattle.gixp_records.specs.Span.{IsWithin}
use Rattle.gixp_records.proofs.mapped_refs.are_names_within.Given as goal

-- the names so far are within the bytes
abbrev pub invariant-loop-found : goal.invariant-loop-found
invariant-loop-found l = (k : ℕ) → k < l.found-index → (d : RefRecord) → IsWithin l.bytes (slice_index_or l.refs k d).name
