use Rattle.std.proofs.Common.{rules}
use Rattle.std.specs.BTreeMap.{values}
use Rattle.std.proofs.lemmas.Iterator.{items_from_collect, YieldsList-from_map}
use Rattle.std.proofs.lemmas.Iterator.Consumers.{YieldsList-from_rest}
use Rattle.gixp_memory.specs.declared.stored_refs.StoredRef.{StoredRef}
use Rattle.gixp_memory.proofs.stored_refs.targets.Goals as goal

pub returns : goal.returns
returns c = items_from_collect _ c.collect.ensures.ran (YieldsList-from_map _ (λ (s : StoredRef). s.peeled)
    (YieldsList-from_rest (values c.args.names.now) (cc)) c.map.ensures.closure (λ x r q k. search rules))
