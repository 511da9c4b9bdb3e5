-- The negotiation of a session's fetch is over its map. The result is checked for unknown unshallowed ids.
use Rattle.std.proofs.Common.{ap, sym, ◌∙◌}
use Rattle.std.specs.BTreeSet.{contains}
use Rattle.std.specs.Option.{option_copied}
use Rattle.gixp_client.specs.Unshallowed.{known_alone}
use Rattle.gixp_hash.specs.ObjectId.{id_cmp}
use Rattle.gixp_client.proofs.RunLemmas.{same_knowledge}
use Rattle.gixp_client.proofs.UnsentLemmas.{unsent_fetch}
use Rattle.gixp_client.proofs.run.fetch_mapped.Goals as goal

pub returns-clause-fetched : goal.returns-clause-fetched
returns-clause-fetched g c =
    let n = c.new-negotiation.ensures in
    let f = c.fetch_over-received.ensures.fetched in
    let e = ap (λ w. w.negotiation.negotiation) c.new-unshallow_check.ensures.negotiation
    ∙ (ap (λ w. w.negotiation) c.new-filtered.ensures.negotiation ∙ c.new-windowed.ensures.negotiation) in (
      record {
        first = c.new-unshallow_check.result;
        last = _;
        negotiates = ap (λ m. m.ref_map.now) e ∙ n.ref_map;
        knowing = same_knowledge _ _ _ _ _ _ _ _ _ _ (ap (λ m. m.tags) e ∙ n.tags) (ap (λ m. m.shallow.now) e ∙ n.shallow)
            (ap (λ m. m.context.graph.now.graph.objects) e ∙ ap (λ x. x.graph.now.graph.objects) n.context
            ∙ ap (λ x. x.objects) c.new-graph.ensures.empty ∙ ap g.F.Find.contents c.new.ensures.objects)
            (ap (λ m. g.F.Find.contents m.context.objects.now.objects.now) e ∙ ap (λ x. g.F.Find.contents x.objects.now.objects.now) n.context
            ∙ ap g.F.Find.contents c.new-shared.ensures.objects)
            (ap (λ m. g.R.RefStore.refs m.context.refs.now) e ∙ ap (λ x. g.R.RefStore.refs x.refs.now) n.context);
        limited = ap (λ w. w.negotiation.most) c.new-unshallow_check.ensures.negotiation
            ∙ (ap (λ w. w.most) c.new-filtered.ensures.negotiation ∙ (c.new-windowed.ensures.most ∙ c.most_haves-most.ensures.limit));
        filtered = ap (λ w. option_copied w.filter) c.new-unshallow_check.ensures.negotiation
            ∙ (ap option_copied c.new-filtered.ensures.filter ∙ c.as_deref.ensures.value);
        received = f.received;
        reports = record {
          watches = λ id. ap (λ b. contains id_cmp b id) c.new-unshallow_check.ensures.boundary;
          unnoted = c.new-unshallow_check.ensures.unknown;
          owned = c.fetch_over-received.result;
          owns = f.reports;
          reports = c.known_alone-report.ensures.checked ∙ ap (known_alone _ _) c.unknown.ensures;
        };
        holds = f.holds;
        unsent = λ h. unsent_fetch _ (λ w. w.negotiated) (λ w s a p r d v t b goes. goes.3) (λ w s a p e v t b fails. fails.1)
            _ _ _ _ h _ f.holds.carries.fetched;
      },
      sym c.is_negotiated.ensures,
    )
