-- The output of git index-pack (git-index-pack, "DESCRIPTION").
use Rattle.std.specs.Prelude.{ℕ, ◌+◌, ◌==◌, nat_lt, if◌then◌else◌, List, ◌++◌, take, drop, codes, Option, Some, None}
use Rattle.std.specs.List.{position}
use Rattle.gixp_hash.specs.Hex.{encode_lower}
use Rattle.gixp_hash.specs.ObjectId.{id_of}
use Rattle.gixp_hash.specs.declared.object_id.ObjectId.{ObjectId}

abbrev pub id_value : ObjectId → List ℕ
id_value id = id.bytes

abbrev pub parsed_id : List ℕ → Option (List ℕ)
parsed_id text = id_of text

abbrev pub first_line : List ℕ → Option ℕ → List ℕ
first_line text None = text
first_line text (Some at) = take at text

-- the id in the first line (10 ends it)
abbrev pub first_line_id : List ℕ → Option (List ℕ)
first_line_id text = id_of (first_line text (position (λ b. b == 10) text))

abbrev pub id_after : List ℕ → Option ℕ → Option (List ℕ)
id_after text None = None
id_after text (Some at) = first_line_id (drop (at + 1) text)

-- the hash of a pack: the id after the first tab (9)
abbrev pub reported_pack : List ℕ → Option (List ℕ)
reported_pack text = id_after text (position (λ b. b == 9) text)

-- git index-pack accepts a pack with status 0, and with 1, if the pack is complete but not
-- connected
abbrev pub accepted_pack : List ℕ → ℕ → Option (List ℕ)
accepted_pack text status = if nat_lt status 2 then reported_pack text else None

-- the path of a file of a pack in an object directory
abbrev pub pack_file : List ℕ → ObjectId → List ℕ → List ℕ
pack_file objects pack end = objects ++ (codes "/pack/pack-" ++ (encode_lower pack.bytes ++ end))
