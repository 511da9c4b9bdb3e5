-- A ref map whose mappings become text, and a negotiation over such a map.
use Rattle.std.specs.Prelude.{◌≡◌, ℕ, List, [], ◌++◌, flat_map, reverse, Option, Some, None, vec_items}
use Rattle.std.specs.declared.alloc.AllocError.{AllocError}
use Rattle.gixp_graph.specs.declared.empty.NoRefs.{NoRefs}
use Rattle.gixp_negotiate.specs.declared.negotiate.negotiation.Negotiation.{Negotiation}
use Rattle.gixp_shallow.specs.declared.shallow.Shallow.TheVariants.{NoChange}
use Rattle.gixp_negotiate.specs.Negotiate.{NegotiationCalls}
use Rattle.gixp_refmap.specs.declared.fetch.Tags.TheVariants as tags
use Rattle.gixp_refmap.specs.declared.refmap.mapping.Mapping.{Mapping}
use Rattle.gixp_refmap.specs.declared.refmap.map.RefMap.{RefMap}
use Rattle.gixp_matching.specs.declared.match_group.validate.Fix.{Fix}
use Rattle.gixp_planner.specs.declared.negotiation.PrintingNegotiation.{PrintingNegotiation}
use Rattle.gixp_planner.specs.declared.printed.PrintedMap.{PrintedMap}
use Rattle.gixp_planner.specs.Text.{mapping_shown, fix_shown}

-- the text of mappings, of which the first are text already, and of the removed mappings
abbrev pub text_then : List ℕ → List Mapping → List Fix → List ℕ
text_then text ms fixes = text ++ (flat_map mapping_shown ms ++ flat_map fix_shown fixes)

-- the text of a ref map
abbrev pub printed_text : PrintedMap → List ℕ
printed_text p = text_then (flat_map vec_items p.texts.items) (p.map.mappings.items ++ p.later.items) p.map.fixes.items

-- where the refs were mapped
abbrev pub mapped_text : Option PrintedMap → List ℕ
mapped_text None = []
mapped_text (Some p) = printed_text p

-- the mappings that remain between `begin` and `end`
abbrev pub left_of : PrintedMap → List Mapping
left_of p = p.map.mappings.items ++ reverse p.later.items

-- the text then
abbrev pub taken_text : PrintedMap → List ℕ
taken_text p = text_then (flat_map vec_items p.texts.items) (left_of p) p.map.fixes.items

module _ {O N G : Type 0} where
  -- the same negotiation over a whole ref map, without tags and without a change of the boundary
  abbrev pub over : RefMap → PrintingNegotiation O N G → Negotiation O NoRefs N G AllocError
  over map n = record {
    context = n.context;
    handed = n.handed;
    ref_map = record { ref_ptr = (0, 0); now = map };
    shallow = record { ref_ptr = (0, 0); now = NoChange };
    tags = tags.None;
  }

  -- calls that do the same as over the whole ref map: the first step and the rounds keep the ref map, and the wants keep its text
  abbrev pub calls_over : NegotiationCalls (Negotiation O NoRefs N G AllocError) AllocError
      → NegotiationCalls (PrintingNegotiation O N G) AllocError
  calls_over calls = record {
    count = λ n. calls.count (over n.printed.map n);
    marks = λ n action m. calls.marks (over n.printed.map n) action (over n.printed.map m) × (m.printed ≡ n.printed);
    adds = λ n known a is_any b m. (n.printed.later.items ≡ []
        → calls.adds (over n.printed.map n) known a is_any b (over n.printed.map m)) × (printed_text m.printed ≡ printed_text n.printed);
    goes = λ n s a p r done m t b. ((map : RefMap) → calls.goes (over map n) s a p r done (over map m) t b)
        × (m.printed ≡ n.printed);
    marking_fails = λ n e m. calls.marking_fails (over n.printed.map n) e (over n.printed.map m) × (m.printed ≡ n.printed);
    adding_fails = λ n known a e b m. (n.printed.later.items ≡ []
        → calls.adding_fails (over n.printed.map n) known a e b (over n.printed.map m))
        × (printed_text m.printed ≡ printed_text n.printed);
    round_fails = λ n s a p e m t b. ((map : RefMap) → calls.round_fails (over map n) s a p e (over map m) t b)
        × (m.printed ≡ n.printed);
  }
