-- What a negotiation over a repository goes by that has no refs, and whose negotiator offers a list.
use Rattle.std.proofs.Common.{◌≡◌, Bool, List, codes, refl, sym, ap, ◌∙◌, subst}
use Rattle.std.specs.FinMap as finite
use Rattle.gixp_requests.specs.Arguments.{ArgumentsValue, can_use}
use Rattle.gixp_graph.specs.Object.{Objects}
use Rattle.gixp_refmap.specs.declared.fetch.Tags.TheVariants as tags
use Rattle.gixp_refmap.specs.declared.refmap.map.RefMap.{RefMap}
use Rattle.gixp_negotiate.specs.declared.negotiate.negotiation.Negotiation.{Negotiation}
use Rattle.gixp_negotiators.specs.declared.have_list.HaveList.{HaveList}
use Rattle.gixp_graph.specs.declared.empty.NoRefs.{NoRefs}
use Rattle.gixp_shallow.specs.Shallow.{is_no_change}
use Rattle.gixp_negotiate.specs.Ignored.{is_ignored}
use Rattle.gixp_negotiate.specs.Wants.{request_lines}
use Rattle.gixp_planner.proofs.SeenLemmas.{LookAlike}
use Rattle.gixp_planner.proofs.WantLemmas.{Basis, SameBasis, asked_for}

module _ {O G E : Type 0} (contents : O → Objects) where
  abbrev pub basis_of : Negotiation O NoRefs HaveList G E → Basis
  basis_of n = record {
    ignores = is_ignored n.tags n.ref_map.now.extra_refspecs.items;
    found = n.context.graph.now.graph.objects;
    existing = contents n.context.objects.now;
    refs = finite.empty;
    shallow = n.shallow.now;
    mappings = n.ref_map.now.mappings.items;
  }

  -- the first step leaves what the second one asks for
  pub asked-still : (n m : Negotiation O NoRefs HaveList G E) → m.context.objects.now ≡ n.context.objects.now
      → m.ref_map.now ≡ n.ref_map.now → m.shallow.now ≡ n.shallow.now → m.tags ≡ n.tags → (a : ArgumentsValue) (known : List Bool)
      → asked_for (basis_of m) a known ≡ asked_for (basis_of n) a known
  asked-still n m objects map shallow tags a known =
      ap (λ t. request_lines (is_ignored t m.ref_map.now.extra_refspecs.items) (contents m.context.objects.now)
      (can_use (codes "ref-in-want") a) (is_no_change m.shallow.now) m.ref_map.now.mappings.items known) tags
      ∙ ap (λ (r : RefMap). request_lines (is_ignored n.tags r.extra_refspecs.items) (contents m.context.objects.now)
      (can_use (codes "ref-in-want") a) (is_no_change m.shallow.now) r.mappings.items known) map
      ∙ ap (λ o. request_lines (is_ignored n.tags n.ref_map.now.extra_refspecs.items) (contents o) (can_use (codes "ref-in-want") a)
      (is_no_change m.shallow.now) n.ref_map.now.mappings.items known) objects
      ∙ ap (λ s. request_lines (is_ignored n.tags n.ref_map.now.extra_refspecs.items) (contents n.context.objects.now)
      (can_use (codes "ref-in-want") a) (is_no_change s) n.ref_map.now.mappings.items known) shallow

  -- where no tags are added none is ignored
  pub same-basis : (n o : Negotiation O NoRefs HaveList G E) (m k : RefMap)
      → contents n.context.objects.now ≡ contents o.context.objects.now
      → n.context.graph.now.graph.objects ≡ o.context.graph.now.graph.objects → n.ref_map.now ≡ m → o.ref_map.now ≡ k
      → n.shallow.now ≡ o.shallow.now → n.tags ≡ tags.None → o.tags ≡ tags.None → LookAlike m.mappings.items k.mappings.items
      → SameBasis (basis_of n) (basis_of o)
  same-basis n o m k existing found map other shallow untagged untagged_too alike = record {
    counts = λ x. ap (λ t. is_ignored t n.ref_map.now.extra_refspecs.items x) untagged;
    counts_too = λ x. ap (λ t. is_ignored t o.ref_map.now.extra_refspecs.items x) untagged_too;
    found = found;
    existing = existing;
    refs = refl;
    shallow = shallow;
    mappings =
        subst (λ (r : RefMap). LookAlike n.ref_map.now.mappings.items r.mappings.items) (sym other)
        (subst (λ (r : RefMap). LookAlike r.mappings.items k.mappings.items) (sym map) alike);
  }
