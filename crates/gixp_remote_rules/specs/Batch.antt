-- The objects of a batch of `fetch` commands (gitremote-helpers, "fetch").
use Rattle.std.specs.Prelude.{ℕ, List, [], ◌∷◌, ◌++◌, Option, Some, None}
use Rattle.std.specs.BTreeSet.{insert_key}
use Rattle.gixp_hash.specs.declared.object_id.ObjectId.{ObjectId}
use Rattle.gixp_hash.specs.ObjectId.{id_cmp, id_of}
use Rattle.gixp_remote_rules.specs.declared.batch.Batch.{Batch}

-- the ids of a batch, sorted
abbrev pub wanted_ids : Batch → List ObjectId
wanted_ids b = b.ids.keys

-- the lines of a batch, as git sent them
abbrev pub fetch_lines : Batch → List ℕ
fetch_lines b = b.lines.items

abbrev pub with_id : List ObjectId → Option (List ℕ) → List ObjectId
with_id ids None = ids
with_id ids (Some bytes) = insert_key id_cmp ids (record { bytes = bytes })

-- the ids, with the id of a text, if the text is one
abbrev pub with_want : List ObjectId → List ℕ → List ObjectId
with_want ids text = with_id ids (id_of text)

-- the lines, with one more, and its line feed (10)
abbrev pub with_fetch_line : List ℕ → List ℕ → List ℕ
with_fetch_line lines line = lines ++ (line ++ 10 ∷ [])
