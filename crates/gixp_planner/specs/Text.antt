-- The printed text of a session: its requests (gitprotocol-common, "pkt-line Format"), the mappings of its refs, and whether a pack came.
use Rattle.std.specs.Prelude.{ℕ, ◌+◌, Bool, true, false, List, [], ◌∷◌, ◌++◌, flat_map, map, codes, Option, Some, None, Vec, vec_items, Result, Ok, Err}
use Rattle.std.specs.declared.alloc.Global.{Global}
use Rattle.std.specs.Fmt.{decimal}
use Rattle.std.specs.Io.BufRead.{strip_last}
use Rattle.std.specs.Option.{option_map}
use Rattle.bstr.specs.Owned.{bstring_bytes}
use Rattle.hex.specs.Hex.{encode_lower}
use Rattle.gixp_hash.specs.declared.object_id.ObjectId.{ObjectId}
use Rattle.gixp_packetline.specs.Frames.{Frame, payload, special, frames_of}
use Rattle.gixp_packetline.specs.FrameText.{message_text}
use Rattle.gixp_matching.specs.declared.match_group.validate.Fix.{Fix}
use Rattle.gixp_matching.specs.Validation.{Removed}
use Rattle.gixp_matching.specs.Validate.{removed_of}
use Rattle.gixp_refmap.specs.declared.refmap.mapping.Mapping.{Mapping}
use Rattle.gixp_refmap.specs.declared.refmap.map.RefMap.{RefMap}
use Rattle.gixp_refmap.specs.Mapping.{source_id, source_name}
use Rattle.gixp_utils.specs.Pieces.{joined}
use Rattle.gixp_refmap.specs.MappingNames.{name_or_dash}
use Rattle.gixp_planner.specs.declared.error.PlanError.{PlanError}
use Rattle.gixp_planner.specs.Refusal.{PlanRefusal, refusal_of}

-- a payload without its LF, or the digits of a packet line without a payload
abbrev pub frame_content : Frame → List ℕ
frame_content (payload text) = strip_last 10 text
frame_content (special kind) = message_text kind

abbrev pub frame_shown : Frame → List ℕ
frame_shown f = joined (codes "> " ∷ frame_content f ∷ codes "\n" ∷ [])

-- a request: its number, and its packet lines
abbrev pub request_shown : ℕ → List Frame → List ℕ
request_shown k frames = joined (codes "request " ∷ decimal k ∷ codes "\n" ∷ []) ++ flat_map frame_shown frames

-- requests after `k` others, each as its bytes
abbrev pub requests_after : ℕ → List (List ℕ) → List ℕ
requests_after k [] = []
requests_after k (r ∷ rs) = request_shown (k + 1) (frames_of r).list ++ requests_after (k + 1) rs

-- requests, numbered from 1 on
abbrev pub requests_shown : List (List ℕ) → List ℕ
requests_shown requests = requests_after 0 requests

abbrev pub id_shown : Option ObjectId → List ℕ
id_shown (Some id) = encode_lower id.bytes
id_shown None = codes "unborn"

-- a mapping: the remote id and name, and the local name
abbrev pub mapping_shown : Mapping → List ℕ
mapping_shown m =
    joined (codes "map " ∷ id_shown (source_id m.remote) ∷ codes " " ∷ name_or_dash (source_name m.remote) ∷ codes " "
    ∷ name_or_dash (option_map bstring_bytes m.local) ∷ codes "\n" ∷ [])

abbrev pub removed_shown : Removed → List ℕ
removed_shown r = joined (codes "fix " ∷ name_or_dash r.name ∷ codes " " ∷ r.spec ∷ codes "\n" ∷ [])

-- a mapping that was removed: its local name, and its refspec
abbrev pub fix_shown : Fix → List ℕ
fix_shown f = removed_shown (removed_of f)

-- the mappings, and then the removed mappings
abbrev pub map_shown : RefMap → List ℕ
map_shown m = flat_map mapping_shown m.mappings.items ++ flat_map fix_shown m.fixes.items

-- where the refs were mapped
abbrev pub mapped_shown : Option RefMap → List ℕ
mapped_shown None = []
mapped_shown (Some m) = map_shown m

-- whether a pack came, unless a step failed
abbrev pub end_shown : Result Bool PlanRefusal → List ℕ
end_shown (Ok true) = codes "pack\n"
end_shown (Ok false) = codes "nothing\n"
end_shown (Err r) = []

-- the course of a session: its requests, the ref map if it was made, and whether a pack came or which step failed
pub record Course : Type 0 where
  pub sent : List (List ℕ)
  pub mapped : Option RefMap
  pub ended : Result Bool PlanRefusal

abbrev pub course_shown : Course → List ℕ
course_shown c = requests_shown c.sent ++ mapped_shown c.mapped ++ end_shown c.ended

-- the outcome as plain data
abbrev pub ended_of : Result Bool PlanError → Result Bool PlanRefusal
ended_of (Ok pack) = Ok pack
ended_of (Err e) = Err (refusal_of e)

-- a course of what the planner holds
abbrev pub course_of : List (Vec ℕ Global) → Option RefMap → Result Bool PlanError → Course
course_of requests mapped ended = record { sent = map vec_items requests; mapped = mapped; ended = ended_of ended }
