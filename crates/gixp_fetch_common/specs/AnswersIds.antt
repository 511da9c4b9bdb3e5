-- Questions which objects a repository has, and their answers (git-cat-file, `--batch-check`).
use Rattle.std.specs.Prelude.{◌≡◌, ◌||◌, ℕ, Bool, false, List, [], ◌∷◌, ◌++◌, flat_map, Option, Some, None, option_and_then}
use Rattle.std.specs.Ordering.{is_eq}
use Rattle.std.specs.List.{list_any}
use Rattle.std.specs.Io.KnownBytes.{Consumes}
use Rattle.std.specs.BTreeSet.{BTreeSet, contains}
use Rattle.gixp_hash.specs.Hex.{encode_lower}
use Rattle.gixp_hash.specs.declared.object_id.ObjectId.{ObjectId}
use Rattle.gixp_hash.specs.ObjectId.{id_cmp}
use Rattle.gixp_graph.specs.Object.{Objects}
use Rattle.gixp_memory.specs.Repository.{answer_to, with_answer}
use Rattle.gixp_refmap.specs.declared.refmap.mapping.Mapping.{Mapping}
use Rattle.gixp_refmap.specs.Mapping.{source_id, source_peeled}

-- whether an object is of this id
abbrev pub is_named : Option ObjectId → ObjectId → Bool
is_named None id = false
is_named (Some named) id = is_eq (id_cmp named id)

-- whether a mapping names this id, as its own or as its tag's object
abbrev pub names_id : ObjectId → Mapping → Bool
names_id id m = is_named (source_id m.remote) id || is_named (source_peeled m.remote) id

-- the ids that some mappings name were added
abbrev pub AddsIds : List Mapping → BTreeSet ObjectId → BTreeSet ObjectId → Type 0
AddsIds mappings old new = (id : ObjectId) → contains id_cmp new id ≡ (contains id_cmp old id || list_any (names_id id) mappings)

-- these are the ids that some mappings name
abbrev pub HasIds : List Mapping → BTreeSet ObjectId → Type 0
HasIds mappings ids = (id : ObjectId) → contains id_cmp ids id ≡ list_any (names_id id) mappings

-- a question: the id on a line
abbrev pub question : ObjectId → List ℕ
question id = encode_lower id.bytes ++ 10 ∷ []

abbrev pub questions : List ObjectId → List ℕ
questions ids = flat_map question ids

-- objects with the answers to these ids added, a line each, in the order of the ids
abbrev pub with_answers : Objects → List ObjectId → List (List ℕ) → Option Objects
with_answers objects [] [] = Some objects
with_answers objects (id ∷ ids) (line ∷ lines) = option_and_then (λ kind. with_answers (with_answer objects id kind) ids lines)
    (answer_to id line)
with_answers objects _ _ = None

-- the answers to these ids were read, and their objects were added
pub record AnswersIds (ids : List ObjectId) (old new : Objects) (before after : Option (List ℕ)) : Type 0 where
  pub lines : List (List ℕ)
  pub read : Consumes before after (flat_map (λ (line : List ℕ). line) lines)
  pub reported : with_answers old ids lines ≡ Some new

-- some of the first ids were answered, and their objects were added
pub record AnswersSome (ids : List ObjectId) (old new : Objects) : Type 0 where
  pub done : List ObjectId
  pub left : List ObjectId
  pub lines : List (List ℕ)
  pub whole : ids ≡ done ++ left
  pub reported : with_answers old done lines ≡ Some new
