use Rattle.std.proofs.Common.{[], ◌∷◌, sym, ap, ◌∙◌, arith, map}
use Rattle.gixp_refs.specs.RefAdvertisement.{in_front}
use Rattle.gixp_records.specs.V1RecordLine.{symref_at}
use Rattle.gixp_records.specs.AdvertisedRecords.{refs_following}
use Rattle.gixp_records.proofs.AdvertisedLemmas.{opened, closes}
use Rattle.gixp_records.proofs.advertised.groups.add_line.Goals as goal

pub returns-in-Some : goal.returns-in-Some
returns-in-Some c =
    let bytes = c.args.bytes.now in
    let t = map (symref_at bytes) c.args.symrefs.now in
    let scope = c.args.scope in
    let next = c.args.next in
    let before = c.in-Some.before in
    let named = c.in-Named.named in
    let name = rw c.in-Named.is at c.requires.line in
    λ o s.
    let value = rw c.in-Named.is at s.value in
    let refs = rw c.in-Some.is at s.scope.refs in
    let ending = ap (λ l. l.ending) s.lines in
    let order = s.scope.in_order in
    let place = s.scope.place in
    let after = s.following.0 in (
      refs ∙ closes bytes o t scope.at next before named s.text s.lines value
          ∙ ap (λ v. in_front (v ∷ []) (refs_following bytes o t scope.at)) (sym c.single_record.ensures.value),
      s.scope.ending,
      record {
        refs = opened bytes o t scope.at next named s.text s.lines value;
        ending = ending;
        last = name;
        place = omega arith;
        in_order = omega arith;
        within = s.following.1;
      },
      c.single_record.ensures.within,
      after,
    )
