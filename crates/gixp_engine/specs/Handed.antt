-- The caller's arguments as values: ids of 20 bytes each, refspecs on lines, and responses between offsets.
use Rattle.std.specs.Prelude.{◌≡◌, ◌==◌, ℕ, ◌/◌, ◌%◌, ◌<◌, ◌&&◌, nat_le, ⊤, if◌then◌else◌, List, [], ◌∷◌, length, map, slice_range, Option, Some, None, option_map, Vec, Result, Ok, Err}
use Rattle.std.specs.Simd.{first_chunks}
use Rattle.std.specs.declared.alloc.Global.{Global}
use Rattle.gixp_hash.specs.declared.object_id.ObjectId.{ObjectId}
use Rattle.gixp_packetline.specs.Pieces.{stream_pieces}
use Rattle.gixp_packetline.specs.TransportState.{Answer, body}
use Rattle.gixp_refspec.specs.RefSpec.{owned_value_of}
use Rattle.gixp_refmap.specs.declared.refmap.init.Context.{Context}
use Rattle.gixp_transport.specs.declared.bodies.Body.{Body}
use Rattle.gixp_transport.specs.Bodies.{answer_of}
use Rattle.gixp_response.specs.AnswerLine.{id_from}
use Rattle.gixp_graph.specs.Object.{Objects}
use Rattle.gixp_memory.specs.Repository.{with_id}
use Rattle.gixp_response.specs.AnswerLine.{id_from}
use Rattle.gixp_records.specs.declared.spec_text.SpecsRefused.{SpecsRefused}
use Rattle.gixp_records.specs.declared.spec_text.SpecsRefused.TheVariants as none
use Rattle.gixp_records.specs.Spelling.{spec_lines}
use Rattle.gixp_records.specs.SpecText.{specs_of_lines}
use Rattle.gixp_engine.specs.declared.error.EngineError.{EngineError}
use Rattle.gixp_engine.specs.declared.error.EngineError.TheVariants.{Lengths, Spec, Memory}

-- the ids, one after another
abbrev pub ids_in : List ℕ → List ObjectId
ids_in bytes = map id_from (first_chunks 20 (length bytes / 20) bytes)

-- these ids, unless the bytes aren't whole ids or an allocation failed
abbrev pub HandsIds : List ℕ → Result (Vec ObjectId Global) EngineError → Type 0
HandsIds bytes (Ok ids) = (length bytes % 20 ≡ 0) × (ids.items ≡ ids_in bytes)
HandsIds bytes (Err Lengths) = 0 < length bytes % 20
HandsIds bytes (Err Memory) = ⊤
HandsIds bytes (Err _) = ⊥

abbrev pub refused_specs : SpecsRefused → EngineError
refused_specs (none.Spec e) = Spec e
refused_specs none.Memory = Memory

-- the refspecs of the lines of a text, in which `@` means `HEAD`, unless a line is invalid or an allocation failed; empty lines are
-- skipped
abbrev pub HandsSpecs : List ℕ → Result Context EngineError → Type 0
HandsSpecs text (Ok specs) = (specs_of_lines (spec_lines text) ≡ Ok (map owned_value_of specs.fetch_refspecs.items))
    × (specs.extra_refspecs.items ≡ [])
HandsSpecs text (Err (Spec e)) = specs_of_lines (spec_lines text) ≡ Err e
HandsSpecs text (Err Memory) = ⊤
HandsSpecs text (Err _) = ⊥

-- the responses that end at these offsets, where the first begins at `at`; none if the offsets aren't in order or the last one
-- isn't the end of the bytes
abbrev pub answers_between : List ℕ → ℕ → List ℕ → Option (List (List ℕ))
answers_between bytes at [] = if at == length bytes then Some [] else None
answers_between bytes at (end ∷ ends) =
    if nat_le at end && nat_le end (length bytes)
    then option_map (λ more. slice_range bytes at end ∷ more) (answers_between bytes end ends) else None

-- a response as a transport reads it
abbrev pub answer_in : List ℕ → Answer
answer_in bytes = body (stream_pieces bytes)

-- these responses, unless there are none or an allocation failed
abbrev pub HandsAnswers : List ℕ → List ℕ → Result (Vec Body Global) EngineError → Type 0
HandsAnswers bytes ends (Ok bodies) = (answers : List (List ℕ)) × (answers_between bytes 0 ends ≡ Some answers)
    × (map answer_of bodies.items ≡ map answer_in answers)
HandsAnswers bytes ends (Err Lengths) = answers_between bytes 0 ends ≡ None
HandsAnswers bytes ends (Err Memory) = ⊤
HandsAnswers bytes ends (Err _) = ⊥

-- these objects in addition to others, of unknown kind
abbrev pub objects_held : Objects → List ObjectId → Objects
objects_held objects [] = objects
objects_held objects (id ∷ ids) = objects_held (with_id objects id) ids
