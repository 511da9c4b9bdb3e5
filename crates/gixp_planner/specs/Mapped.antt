-- A session over recorded bodies up to its ref map: its requests up to then and the text of its ref map follow from the bodies and the
-- refspecs.
use Rattle.std.specs.Prelude.{ℕ, ◌≡◌, ◌++◌, Bool, true, List, [], codes, Option, Result, Ok, Err}
use Rattle.std.specs.Io.KnownBytes.{Appends}
use Rattle.gixp_transport.specs.declared.bodies.Body.{Body}
use Rattle.gixp_transport.specs.declared.bodies.Bodies.{Bodies}
use Rattle.gixp_transport.specs.Bodies.{bodies_reading, IsNewBodies}
use Rattle.gixp_packetline.specs.Reading.{Reading}
use Rattle.gixp_refmap.specs.declared.refmap.init.Context.{Context}
use Rattle.gixp_refmap.specs.declared.refmap.map.RefMap.{RefMap}
use Rattle.gixp_handshake.specs.declared.handshake.read.Handshake.{Handshake}
use Rattle.gixp_planner.specs.declared.error.PlanError.{PlanError}
use Rattle.gixp_planner.specs.Refusal.{PlanRefusal, refusal_of}
use Rattle.gixp_planner.specs.Specs.{IsContext}
use Rattle.gixp_planner.specs.Text.{requests_shown, map_shown, end_shown}
use Rattle.gixp_handshake.specs.WithoutAccount.{GreetsWithoutAccount}
use Rattle.gixp_planner.specs.Session.{MapsRefs}

-- a session over these bodies has the ref map of these refspecs, after these requests
pub record IsMapped (bodies : List Body) (specs : List (List ℕ)) (sent : List (List ℕ)) (m : RefMap) : Type 0 where
  pub context : Context
  pub transport : Bodies
  pub handshake : Handshake
  pub mid : Reading
  pub following : Reading
  pub read : IsContext specs context
  pub over : IsNewBodies bodies [] [] transport
  pub greets : GreetsWithoutAccount true (bodies_reading transport) mid (Ok handshake)
  pub maps : MapsRefs context handshake true mid following (Ok m)
  pub by_then : following.held.sent ≡ sent

-- whatever objects, graph and negotiator two sessions have: up to the ref map they send the same, and their ref maps have the same text
abbrev pub MappingsFollow : Type 0
MappingsFollow = (bodies : List Body) (specs : List (List ℕ)) (sent others : List (List ℕ)) (m n : RefMap)
    → IsMapped bodies specs sent m → IsMapped bodies specs others n
    → (sent ≡ others) × (map_shown m ≡ map_shown n)

-- the requests of a session, beginning with those up to its ref map, then its mappings, and its outcome
pub record ShowsMapped (bodies : List Body) (specs : List (List ℕ)) (old new : Option (List ℕ))
    (ended : Result Bool PlanRefusal) : Type 0 where
  pub sent : List (List ℕ)
  pub made : RefMap
  pub mapped : IsMapped bodies specs sent made
  pub later : List (List ℕ)
  pub text : Appends old new (requests_shown (sent ++ later) ++ map_shown made ++ end_shown ended)

-- by its result: a session that succeeded, or whose fetch failed, has a ref map
abbrev pub ShowsFetch : List Body → List (List ℕ) → Option (List ℕ) → Option (List ℕ) → Result (Unit {0}) PlanError → Type 0
ShowsFetch bodies specs old new (Ok x) = (pack : Bool) × ShowsMapped bodies specs old new (Ok pack)
ShowsFetch bodies specs old new (Err e) = e.step.now ≡ codes "fetch" → ShowsMapped bodies specs old new (Err (refusal_of e))
