-- The ref map over recorded bodies, as a function of the server's handshake, the refspecs and the answer to `ls-refs`: the
-- requests for it, and the refs or the name of its error (gitprotocol-v2, "ls-refs"; git-fetch, "<refspec>").
use Rattle.std.specs.Prelude.{ℕ, ◌≡◌, ◌⊎◌, Bool, true, false, List, [], ◌∷◌, map, codes, Option, Some, None, Result, Ok, Err}
use Rattle.gixp_packetline.specs.declared.protocol.Protocol.{Protocol}
use Rattle.gixp_packetline.specs.Pieces.{Pieces}
use Rattle.gixp_packetline.specs.Lines.{lines_of}
use Rattle.gixp_packetline.specs.Reading.{Reading}
use Rattle.gixp_capabilities.specs.Capabilities.{CapabilityValue}
use Rattle.gixp_transport.specs.declared.bodies.Body.{Body}
use Rattle.gixp_transport.specs.declared.bodies.Bodies.{Bodies}
use Rattle.gixp_transport.specs.Bodies.{answer_of, bodies_reading, IsNewBodies}
use Rattle.gixp_transport.specs.Transport.{first_answer, later_answers, answer_pieces}
use Rattle.gixp_refs.specs.Ref.{RefValue}
use Rattle.gixp_refs.specs.RefLine.{RefsRefusal}
use Rattle.gixp_refs.specs.Refs.{v2_refs}
use Rattle.gixp_requests.specs.Command.{git_table}
use Rattle.gixp_requests.specs.Offers.{ValidationRefusal}
use Rattle.gixp_refspec.specs.Spec.{Spec}
use Rattle.gixp_matching.specs.Validation.{Conflict, conflicts}
use Rattle.gixp_refmap.specs.declared.refmap.init.Context.{Context}
use Rattle.gixp_refmap.specs.declared.refmap.init.Error.{Error as MapError}
use Rattle.gixp_refmap.specs.declared.refmap.init.Error.TheVariants as the_map
use Rattle.gixp_refmap.specs.declared.refmap.map.RefMap.{RefMap}
use Rattle.gixp_refmap.specs.Listing.{Listing, listing, listing_refusal, listing_fits, listing_text}
use Rattle.gixp_refmap.specs.Mapping.{found_in, unknown_format}
use Rattle.gixp_handshake.specs.declared.handshake.read.Handshake.{Handshake}
use Rattle.gixp_handshake.specs.Obtain.{prefixes_if}
use Rattle.gixp_planner.specs.Refusal.{map_name}
use Rattle.gixp_planner.specs.Specs.{specs_of, IsContext}
use Rattle.gixp_handshake.specs.WithoutAccount.{GreetsWithoutAccount}
use Rattle.gixp_planner.specs.Session.{planner_agent, MapsRefs}
use Rattle.gixp_planner.specs.Discovered.{Discovery, discovery, first_pieces}

-- the requests for refs, and the refs, or the name of the error
pub record Sought : Type 0 where
  pub requests : List (List ℕ)
  pub refs : Result (List RefValue) (List ℕ)

-- these are the refs, and no request is sent
abbrev pub at_hand : List RefValue → Sought
at_hand refs = record { requests = []; refs = Ok refs }

-- no request is sent
abbrev pub unasked : Sought
unasked = record { requests = []; refs = Err (codes "ListRefs") }

-- the refs of an answer, or the name of its error
abbrev pub of_answer : Result (List RefValue) RefsRefusal → Result (List RefValue) (List ℕ)
of_answer (Ok refs) = Ok refs
of_answer (Err e) = Err (codes "ListRefs")

-- whether the request is valid
abbrev pub by_size : Bool → Listing → Protocol → Pieces → Sought
by_size false l version answer = unasked
by_size true l version answer = record { requests = listing_text l ∷ []; refs = of_answer (v2_refs (lines_of version answer)) }

-- whether the server offers the features of the request
abbrev pub by_offer : Option ValidationRefusal → Listing → Protocol → Pieces → Sought
by_offer (Some refusal) l version answer = unasked
by_offer None l version answer = by_size (listing_fits l) l version answer

-- the request of a server that has the command, and its refs
abbrev pub list_for : List CapabilityValue → List Spec → Listing
list_for capabilities specs = listing git_table (prefixes_if true specs) capabilities planner_agent

abbrev pub by_arrival : Option (List RefValue) → Listing → Protocol → Pieces → Sought
by_arrival (Some refs) l version answer = at_hand refs
by_arrival None l version answer = by_offer (listing_refusal l) l version answer

-- the refs of the handshake, or those of this answer
abbrev pub sought : Discovery → List Spec → Pieces → Sought
sought advertised specs answer = by_arrival advertised.refs (list_for advertised.capabilities specs) advertised.version answer

-- refspecs in conflict are an error
abbrev pub by_conflicts : List Conflict → Option (List ℕ)
by_conflicts [] = None
by_conflicts (c ∷ cs) = Some (codes "MappingValidation")

-- an unknown object format is an error before that
abbrev pub by_format : Option (List ℕ) → List Conflict → Option (List ℕ)
by_format (Some format) cs = Some (codes "UnknownObjectFormat")
by_format None cs = by_conflicts cs

-- the name of the ref map's error, if it has one
abbrev pub map_refusal : List CapabilityValue → List Spec → Result (List RefValue) (List ℕ) → Option (List ℕ)
map_refusal capabilities specs (Ok refs) = by_format (unknown_format capabilities) (conflicts specs (found_in specs refs))
map_refusal capabilities specs (Err name) = Some name

-- a ref map had this outcome after these requests, or an allocation failed
abbrev pub IsSought : Option (List ℕ) → (requests sent : List (List ℕ)) → Result RefMap MapError → Type 0
IsSought refusal requests sent (Ok m) = (refusal ≡ None) × (sent ≡ requests)
IsSought refusal requests sent (Err e) = ((refusal ≡ Some (map_name e)) × (sent ≡ requests)) ⊎ (e ≡ the_map.Memory)

-- the second body as it is read; a missing body is empty
abbrev pub second_pieces : List Body → Pieces
second_pieces bodies = answer_pieces (first_answer (later_answers (map answer_of bodies)))

-- a session over these bodies had its handshake, the ref map of these refspecs had this outcome after these requests, and no read failed
pub record MapsOver (bodies : List Body) (words : List (List ℕ)) (sent : List (List ℕ)) (r : Result RefMap MapError) : Type 0 where
  pub context : Context
  pub transport : Bodies
  pub handshake : Handshake
  pub mid : Reading
  pub last : Reading
  pub read : IsContext words context
  pub over : IsNewBodies bodies [] [] transport
  pub greets : GreetsWithoutAccount true (bodies_reading transport) mid (Ok handshake)
  pub maps : MapsRefs context handshake true mid last r
  pub by_then : last.held.sent ≡ sent
  pub unfailed : last.failures ≡ 0

-- the outcome of the ref map of these bodies and refspecs
pub record Plans (bodies : List Body) (words : List (List ℕ)) (sent : List (List ℕ)) (r : Result RefMap MapError) : Type 0 where
  pub advertised : Discovery
  pub specs : List Spec
  pub discovered : discovery [] (first_pieces bodies) ≡ Ok advertised
  pub read : specs_of words ≡ Ok specs
  pub ends : IsSought (map_refusal advertised.capabilities specs (sought advertised specs (second_pieces bodies)).refs)
      (sought advertised specs (second_pieces bodies)).requests sent r

-- whether there is a ref map, its error, and the requests for it follow from the bodies and the refspecs, except for allocation failures
abbrev pub RefMapsFollow : Type 0
RefMapsFollow = (bodies : List Body) (words : List (List ℕ)) (sent : List (List ℕ)) (r : Result RefMap MapError)
    → MapsOver bodies words sent r → Plans bodies words sent r
