-- What requests repeat where each has to be complete in itself: with version 2, and over a transport that doesn't
-- persist (gitprotocol-v2, "fetch"; gitprotocol-http, "Smart Service git-upload-pack").
use Rattle.std.specs.Prelude.{◌≡◌, ◌⊎◌, ℕ, ⊤, Bool, true, false, List, [], ◌∷◌, ◌++◌, Option, Some, None}
use Rattle.std.specs.List.{Contains}
use Rattle.gixp_hash.specs.declared.object_id.ObjectId.{ObjectId}
use Rattle.gixp_response.specs.Answer.{AnswerValue}
use Rattle.gixp_requests.specs.Arguments.{ArgumentsValue, is_v2}
use Rattle.gixp_negotiate.specs.declared.negotiate.Round.{Round}
use Rattle.gixp_negotiate.specs.Negotiate.{Window, Goes}
use Rattle.gixp_requests.specs.Line.{have_text}
use Rattle.gixp_negotiate.specs.Rounds.{commons, commons_of, kept_with, kept_ids, asks_haves}
use Rattle.gixp_fetch.specs.FetchRounds.{At, Turn}

-- where ids are recorded, the commits that the previous response acknowledged as common are added to them, and the
-- haves of a round begin with all of them
pub record Renames {N : Type 0} (goes : Goes N) : Type 0 where
  pub keeps : (n : N) (s : Window) (a : ArgumentsValue) (p : Option AnswerValue) (r : Round) (d : Bool) (m : N) (t : Window)
      (b : ArgumentsValue) → goes n s a p r d m t b → t.kept ≡ kept_with s.kept (commons_of p)
  pub names : (n : N) (s : Window) (a : ArgumentsValue) (p : Option AnswerValue) (r : Round) (d : Bool) (m : N) (t : Window)
      (b : ArgumentsValue) → goes n s a p r d m t b
      → (haves : List ObjectId) × (b ≡ asks_haves (kept_ids t.kept ++ haves) a)

-- rounds whose requests are complete in themselves begin here: no id is recorded yet, and there was no response
pub record HasIndependentRequests {N I : Type 0} (start : At N I) : Type 0 where
  pub kept : start.window.kept ≡ Some []
  pub first : start.previous ≡ None
  pub alone : (is_v2 start.asked.version ≡ true) ⊎ (start.reading.held.persists ≡ false)

-- each request has these lines, and a have for each of these commits and for each that an earlier response
-- acknowledged as common
abbrev pub NamesAgain : {N I : Type 0} → List (List ℕ) → List ObjectId → List (Turn N I) → Type 0
NamesAgain lines ids [] = ⊤
NamesAgain lines ids (t ∷ ts) =
    (t.asked.lines ≡ lines) × ((id : ObjectId) → Contains ids id → Contains t.asked.haves (have_text id))
    × NamesAgain lines (ids ++ commons t.reply.acknowledgements) ts

-- the commits that the responses of these rounds acknowledged as common
abbrev pub named_in : {N I : Type 0} → List (Turn N I) → List ObjectId
named_in [] = []
named_in (t ∷ ts) = commons t.reply.acknowledgements ++ named_in ts

-- one more request, whether it gets a response or not, has these lines, and a have for each of these commits
pub record NamesAll (lines : List (List ℕ)) (ids : List ObjectId) (asked : ArgumentsValue) : Type 0 where
  pub same : asked.lines ≡ lines
  pub haves : (id : ObjectId) → Contains ids id → Contains asked.haves (have_text id)
