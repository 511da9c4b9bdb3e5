use Rattle.std.proofs.Common.{◌∙◌, ap, sym, refl, true≢false}
use Rattle.gixp_graph.specs.GraphData.{GraphValue}
use Rattle.gixp_planner.proofs.ListNegotiationLemmas.{basis_of, asked-still, same-basis}
use Rattle.gixp_planner.proofs.ListRoundLemmas.{acts-stay, by-list}
use Rattle.gixp_planner.proofs.AlikeLemmas.{courses-follow}
use Rattle.gixp_planner.proofs.PackEndLemmas.{refused-by-stream}
use Rattle.gixp_planner.proofs.laws.courses_follow_bodies.Goals as goal

pub returns : goal.returns
returns g c = λ bodies specs haves objects others graph another e f.
    courses-follow _ (basis_of g.O.Objects.contents) (λ n. n.context.negotiator.now)
    (record {
      marks = λ n action m h. (
        h.0,
        acts-stay action n.context.negotiator.now n.context.graph.now.graph _ _ m.context.negotiator.now
            m.context.graph.now.graph h.1,
        asked-still g.O.Objects.contents n m h.4 h.5 h.6 h.7,
      );
      adds = λ n known a any b m h. (h.0, h.1);
      goes =
          λ n s a p r done m t b h.
          by-list n.context.negotiator.now n.context.graph.now.graph s a p r done m.context.negotiator.now m.context.graph.now.graph t b
          h.0;
    })
    _ _ _ (λ s ids t empty read. read.0 ∙ empty.0) haves
    (λ m k n o l r alike. (
      same-basis g.O.Objects.contents n o m k (ap g.O.Objects.contents l.0 ∙ e ∙ sym (ap g.O.Objects.contents r.0))
          (ap (λ (v : GraphValue). v.graph.objects) l.1 ∙ f ∙ sym (ap (λ (v : GraphValue). v.graph.objects) r.1))
          l.3 r.3 (l.4 ∙ sym r.4) l.5 r.5 alike,
      l.2,
      r.2,
    ))
    (λ c s p finished d t q takes. takes.1.1.failures)
    (record {
      counts = λ c s p x d t q refuses z. (refused-by-stream s t x refuses z).1;
      takes = λ c s p finished d t q takes. (takes.1.3, takes.1.1.ending);
      refuses = λ c s p x d t q refuses z. (refused-by-stream s t x refuses z).0;
    })
    ((λ i j polls. true≢false polls), refl) bodies specs
