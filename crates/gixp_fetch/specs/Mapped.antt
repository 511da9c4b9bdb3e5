-- A negotiation over a ref map: its decision, and the lines that it adds (gitprotocol-pack, "Packfile Negotiation";
-- git-fetch, "<refspec>").
use Rattle.std.proofs.Common.{subst}
use Rattle.std.specs.Prelude.{◌≡◌, Bool, List, codes}
use Rattle.gixp_requests.specs.Arguments.{ArgumentsValue, can_use}
use Rattle.gixp_graph.specs.Object.{Objects}
use Rattle.gixp_refmap.specs.declared.fetch.Tags.{Tags}
use Rattle.gixp_refmap.specs.declared.refmap.map.RefMap.{RefMap}
use Rattle.gixp_shallow.specs.declared.shallow.Shallow.{Shallow}
use Rattle.gixp_negotiate.specs.Ignored.{is_ignored}
use Rattle.gixp_negotiate.specs.Marking.{LocalRefs, decision}
use Rattle.gixp_negotiate.specs.Negotiate.{ActionValue}
use Rattle.gixp_shallow.specs.Shallow.{is_no_change}
use Rattle.gixp_negotiate.specs.Wants.{RequestLine, request_lines, AddsWants}

-- what a negotiation knows in addition to the map
pub record Knowledge : Type 0 where
  -- which tags are fetched
  pub tags : Tags
  -- how the depth of the history changes
  pub shallow : Shallow
  -- the commits that it can look up
  pub commits : Objects
  -- the objects that exist
  pub existing : Objects
  -- the local refs
  pub refs : LocalRefs

-- the decision for the mappings of a map
abbrev pub decided : Knowledge → RefMap → ActionValue
decided k m = decision (is_ignored k.tags m.extra_refspecs.items) k.commits k.existing k.refs k.shallow m.mappings.items

-- the lines that are added, by the arguments so far, and by which objects exist
abbrev pub lines_of : Knowledge → RefMap → ArgumentsValue → List Bool → List RequestLine
lines_of k m asked known = request_lines (is_ignored k.tags m.extra_refspecs.items) k.existing (can_use (codes "ref-in-want") asked)
    (is_no_change k.shallow) m.mappings.items known

-- the first step decides what the mappings need, and the second adds their lines
pub record FollowsMap {N : Type 0} (marks : N → ActionValue → N → Type 0) (adds : N → List Bool → ArgumentsValue → Bool → ArgumentsValue
    → N → Type 0) (map_of : N → RefMap) (knows : N → Knowledge) : Type 0 where
  pub decides : (n : N) (action : ActionValue) (m : N) → marks n action m → action ≡ decided (knows n) (map_of n)
  pub asks : (n : N) (action : ActionValue) (m : N) (known : List Bool) (a : ArgumentsValue) (is_any : Bool) (b : ArgumentsValue) (l : N)
      → marks n action m → adds m known a is_any b l → AddsWants (lines_of (knows n) (map_of n) a known) is_any a b

-- the lines of these parts were added
abbrev pub AddsLines : ArgumentsValue → List Bool → Bool → ArgumentsValue → RefMap → Tags → Shallow → Objects → Type 0
AddsLines a known is_any b m tags shallow existing = AddsWants (request_lines (is_ignored tags m.extra_refspecs.items) existing
    (can_use (codes "ref-in-want") a) (is_no_change shallow) m.mappings.items known) is_any a b

-- the lines are the same if their parts are
pub lines_kept : (a : ArgumentsValue) (known : List Bool) (is_any : Bool) (b : ArgumentsValue) (m n : RefMap) (t u : Tags)
    (s r : Shallow) (o q : Objects) → n ≡ m → u ≡ t → r ≡ s → q ≡ o
    → AddsLines a known is_any b n u r q → AddsLines a known is_any b m t s o
lines_kept a known is_any b m n t u s r o q maps tags shallow existing w =
    subst (λ x. AddsLines a known is_any b m t s x) existing (subst (λ x. AddsLines a known is_any b m t x q) shallow
    (subst (λ x. AddsLines a known is_any b m x r q) tags (subst (λ x. AddsLines a known is_any b x u r q) maps w)))
