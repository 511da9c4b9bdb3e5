use Rattle.std.proofs.Common.{map}
use Rattle.std.proofs.lemmas.List.{length-set}
use Rattle.gixp_records.specs.V1RecordLine.{symref_at}
use Rattle.gixp_records.proofs.AdvertisedLemmas.{reads_last}
use Rattle.gixp_records.proofs.advertised.read_groups.Goals as goal

pub returns-in-Ok-Last : goal.returns-in-Ok-Last
returns-in-Ok-Last c =
    let bytes = c.args.bytes.now in
    let received = rw c.in-Ok-Last.field-0-is at c.in-Ok-Last.ensures in
    let loop = c.loop-count in
    let so = loop.invariant in
    rw c.in-Ok-Last.field-0-is (reads_last bytes c.args.opening.now (map (symref_at bytes) c.args.symrefs.now) c.args.from
    loop.scope.place c.in-Ok-Last.next loop.count c.args.records.now loop.records c.in-Ok-Last.record c.loop-count-test.true
    so.rest so.within so.so_far so.ending received.0 received.1 received.2 (length-set loop.records loop.count c.in-Ok-Last.record))
