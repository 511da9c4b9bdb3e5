use Rattle.std.proofs.Common.{[], refl, ap, sym, ◌∙◌}
use Rattle.gixp_packetline.specs.Lines.{next_of}
use Rattle.gixp_transport.specs.CapabilityAdvertisement.{from_ref_line, by_ref_line, TakesNone}
use Rattle.gixp_transport.proofs.AdvertisementLemmas.{shows-steps, advertises-then, reads-empty_advertisement, takes-stop, fails-reading}
use Rattle.gixp_transport.proofs.advertisement.ref_line.Goals as goal

pub returns-in-Ok-true : goal.returns-in-Ok-true
returns-in-Ok-true g c =
    let k = rw c.in-Ok-true.field-0-test at c.in-Ok-true.ensures.peeks in
    advertises-then _ _ (TakesNone c.args.version) (TakesNone c.args.version) [] _ _ _ _ (λ v ts h. h)
    (shows-steps (from_ref_line c.args.version) _ _ k) c.cut_ref_line.ensures

pub returns-in-Ok-false : goal.returns-in-Ok-false
returns-in-Ok-false g c =
    let k = rw c.in-Ok-false.field-0-test at c.in-Ok-false.ensures.peeks in
    let stop = takes-stop _ _ c.requires.running k in
    reads-empty_advertisement
    (from_ref_line c.args.version) c.args.version _ _ stop.0 _ c.requires.version c.empty_advertisement.ensures stop.1
    (λ p q n. ap (by_ref_line c.args.version) n)

pub returns-in-Err : goal.returns-in-Err
returns-in-Err g c =
    fails-reading (from_ref_line c.args.version) (TakesNone c.args.version) _ _ _ _ (c.requires.version, refl) c.in-Err.ensures.peeks
    (c.in-Err.ensures.plain refl) c.from.ensures
    (λ p n. ap (by_ref_line c.args.version) (ap (λ v. next_of v p) (sym c.requires.version) ∙ n))
