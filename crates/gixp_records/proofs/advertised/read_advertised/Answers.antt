use Rattle.std.proofs.Common.{refl, sym, ap, subst, ◌∙◌, map, Ok}
use Rattle.gixp_records.specs.V1RecordLine.{symref_at}
use Rattle.gixp_records.specs.AdvertisedRecords.{ReadsGroups, unopened, empty, read}
use Rattle.gixp_records.proofs.AdvertisedReadLemmas.{reads_no_symrefs}
use Rattle.gixp_records.proofs.advertised.read_advertised.Goals as goal

pub returns-in-Ok-Empty : goal.returns-in-Ok-Empty
returns-in-Ok-Empty c =
    let received = rw c.in-Ok-Empty.field-0-is at c.in-Ok-Empty.ensures in
    empty received.0 received.1 received.2 received.3 refl refl

pub returns-in-Err : goal.returns-in-Err
returns-in-Err c = unopened c.in-Err.e c.in-Err.ensures (refl, refl)

pub returns-in-Err-read_symrefs : goal.returns-in-Err-read_symrefs
returns-in-Err-read_symrefs c =
    let received = rw c.in-Ok-Refs.field-0-is at c.in-Ok-Refs.ensures in
    reads_no_symrefs c.args.bytes.now c.args.from c.args.records.now c.in-Ok-Refs.opening c.in-Err-read_symrefs.e received
    c.in-Err-read_symrefs.ensures.value

pub returns : goal.returns
returns c =
    let bytes = c.args.bytes.now in
    let received = rw c.in-Ok-Refs.field-0-is at c.in-Ok-Refs.ensures in
    let o = c.in-Ok-Refs.opening in
    let t = map (symref_at bytes) c.deref.result.now in
    read o received t (c.in-Ok.ensures.value ∙ ap (λ s. Ok (map (symref_at bytes) s)) (sym c.deref.ensures.value))
    (subst (λ f. ReadsGroups bytes o t f c.args.records.now c.read_groups.result c.read_groups.new.records) c.max.ensures
    c.read_groups.ensures)
