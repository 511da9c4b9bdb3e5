use Rattle.std.proofs.Common.{ℕ, Vec, rules}
use Rattle.std.specs.declared.alloc.Global.{Global}
use Rattle.std.proofs.lemmas.Iterator.{YieldsList-from_map_by}
use Rattle.std.proofs.lemmas.Iterator.Consumers.{YieldsList-from_rest, map_from_collect}
use Rattle.gixp_memory.specs.Repository.{named_id_of}
use Rattle.gixp_memory.specs.declared.stored_refs.StoredRef.{StoredRef}
use Rattle.gixp_memory.proofs.stored_refs.named_ids_of.Goals as goal

pub returns : goal.returns
returns c = map_from_collect _ c.collect.ensures.ran (YieldsList-from_map_by _ named_id_of
    (λ (e : Vec ℕ Global × StoredRef). (e.0.items, e.1.id))
    (YieldsList-from_rest c.args.names.now.entries (cc)) c.map.ensures.closure (λ x r q k. search rules))
