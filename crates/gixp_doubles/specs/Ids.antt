-- Ids of small histories.
use Rattle.std.specs.Prelude.{ℕ, replicate}
use Rattle.gixp_hash.specs.declared.object_id.ObjectId.{ObjectId}

-- the id in which each byte is this number
abbrev pub numbered : ℕ → ObjectId
numbered n = record { bytes = replicate 20 n }
