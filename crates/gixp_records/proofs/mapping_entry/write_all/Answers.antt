use Rattle.std.proofs.Common.{arith}
use Rattle.gixp_records.proofs.WrittenEntriesLemmas.{next-fits, wrote-next}
use Rattle.gixp_records.proofs.mapping_entry.write_all.Goals as goal

pub write_name-requires : goal.write_name-requires
write_name-requires c =
    let loop = c.loop-place in
    next-fits c.args.all.now loop.place _ _ _ _ _ _ _ loop.invariant (omega arith) c.requires.names c.local_bytes-name.ensures

pub loop-place-preserved : goal.loop-place-preserved
loop-place-preserved c =
    wrote-next c.args.all.now c.loop-place.place _ c.args.records.now c.record_at.result _ _ _ _ _ _ _ c.loop-place.invariant (omega arith)
    c.requires.records c.local_bytes-name.ensures c.record_at.ensures c.write_name.ensures
