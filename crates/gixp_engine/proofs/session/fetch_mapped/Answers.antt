use Rattle.std.proofs.Common.{◌∙◌, refl, ap}
use Rattle.gixp_engine.specs.Alone.{carried}
use Rattle.gixp_engine.proofs.session.fetch_mapped.Goals as goal

pub returns : goal.returns
returns g c = let over = c.new-negotiation.ensures in let once = c.fetch_filtered.ensures in carried once.first once.last
    (record {
      objects = ap (λ n. n.context.objects.now) once.negotiation ∙ ap (λ x. x.objects.now) over.context;
      graph = ap (λ n. n.context.graph.now.graph) once.negotiation ∙ ap (λ x. x.graph.now.graph) over.context ∙ c.new-graph.ensures.empty;
      haves = ap (λ n. n.context.negotiator.now) once.negotiation ∙ ap (λ x. x.negotiator.now) over.context ∙ c.new-negotiator.ensures;
      mapped = ap (λ n. n.ref_map.now) once.negotiation ∙ over.ref_map;
      shallow = ap (λ n. n.shallow.now) once.negotiation ∙ over.shallow;
      tags = ap (λ n. n.tags) once.negotiation ∙ over.tags;
      opened = rw once.negotiation (rw over.context refl);
      lent = rw once.negotiation (rw over.context refl);
      filter_once = once.filtered;
    })
    once.carries
