use Rattle.std.proofs.Common.{◌≡◌, false, sym, ap, ◌∙◌, rules}
use Rattle.gixp_capabilities.specs.Capabilities.{is_text}
use Rattle.gixp_records.specs.V1RecordLine.{IsSymrefWithin}
use Rattle.std.proofs.lemmas.List.Elements.{All-tail, All-same}
use Rattle.gixp_records.proofs.AdvertisedLemmas.{symref_passed}
use Rattle.gixp_records.proofs.advertised.symrefs.find_symref.Goals as goal

pub loop-symref-preserved : goal.loop-symref-preserved
loop-symref-preserved c =
    let bytes = c.args.bytes.now in
    let name = c.args.name.now in
    let other : is_text c.text_at.result.now name ≡ false = search rules in
    let split = c.in-Some.ensures.cases.0 in
    record {
      named =
          symref_passed bytes c.in-Some.symref.now c.in-Some.tail.now c.loop-symref.rest.now name _ split c.loop-symref.invariant.named
          (ap (λ t. is_text t name) (sym c.text_at.ensures) ∙ other);
      within =
          All-tail (IsSymrefWithin bytes) c.in-Some.symref.now c.in-Some.tail.now
          (All-same (IsSymrefWithin bytes) _ _ (sym split) c.loop-symref.invariant.within);
    }
