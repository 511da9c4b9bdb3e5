use Rattle.std.proofs.Common.{[], ◌∷◌, ◌++◌, ◌∙◌, ap}
use Rattle.std.proofs.lemmas.List.{map-append}
use Rattle.gixp_refs.specs.Ref.{ref_value}
use Rattle.gixp_matching.specs.MatchGroup.{name_of, names}
use Rattle.gixp_refmap.proofs.ListLemmas.{mapped_more, mapped_one}
use Rattle.gixp_refmap.specs.Mapping.{value_name}
use Rattle.gixp_refmap.specs.RefMapItems.{item_value, item_values, item_of}
use Rattle.gixp_refmap.proofs.refmap.make.items.Goals as goal

pub refs-preserved : goal.refs-preserved
refs-preserved c = record {
  names = mapped_more ref_value value_name (names c.refs.items.items)
      (names c.push.new.self.items) c.args.refs.now c.refs.found-index c.found-item.result c.found-item.is
      c.refs-test.true c.refs.invariant.names (ap names c.in_ok-push.ensures.items ∙ map-append name_of c.refs.items.items
      (c.item.result ∷ []) ∙ ap (λ n. names c.refs.items.items ++ n ∷ []) c.item.ensures.name);
  values = mapped_one (item_of c.args.null.now) (item_values c.refs.items.items)
      (item_values c.push.new.self.items) c.args.refs.now c.refs.found-index c.found-item.result c.found-item.is
      c.refs-test.true c.refs.invariant.values (ap item_values c.in_ok-push.ensures.items ∙ map-append item_value c.refs.items.items
      (c.item.result ∷ []) ∙ ap (λ n. item_values c.refs.items.items ++ n ∷ []) c.item.ensures.value);
}
