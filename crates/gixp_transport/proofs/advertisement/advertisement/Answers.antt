use Rattle.std.proofs.Common.{[], refl, ap, sym, subst, ◌∙◌, Ok, Err}
use Rattle.gixp_packetline.specs.declared.protocol.Protocol.TheVariants.{V0}
use Rattle.gixp_packetline.specs.Lines.{next_of}
use Rattle.gixp_packetline.specs.Packets.{packets_reading}
use Rattle.gixp_packetline.specs.Reading.{Reading}
use Rattle.gixp_transport.specs.CapabilityAdvertisement.{advertisement, by_first, TakesFirst}
use Rattle.gixp_transport.proofs.AdvertisementLemmas.{Steps, reset-steps, shows-steps, advertises-then, reads-empty_advertisement, takes-stop, fails-reading}
use Rattle.gixp_transport.proofs.advertisement.advertisement.Goals as goal

pub returns-in-Ok-true : goal.returns-in-Ok-true
returns-in-Ok-true g c =
    let old = packets_reading g.R.Read.remaining c.args.packets.now in
    let reset = subst (Steps advertisement advertisement [] old) (sym c.reset.ensures.reading) (reset-steps advertisement old V0) in
    let k = rw c.in-Ok-true.field-0-test at c.in-Ok-true.ensures.peeks in
    advertises-then _ _ TakesFirst TakesFirst [] _ _ _ _ (λ v ts h. h) reset
    (advertises-then _ _ TakesFirst TakesFirst [] _ _ _ _ (λ v ts h. h) (shows-steps advertisement _ _ k) c.by_first_line.ensures)

pub returns-in-Ok-false : goal.returns-in-Ok-false
returns-in-Ok-false g c =
    let old = packets_reading g.R.Read.remaining c.args.packets.now in
    let reset = subst (Steps advertisement advertisement [] old) (sym c.reset.ensures.reading) (reset-steps advertisement old V0) in
    let k = rw c.in-Ok-false.field-0-test at c.in-Ok-false.ensures.peeks in
    let stop = takes-stop _ _ (ap (λ (r : Reading). r.stopped) c.reset.ensures.reading) k in
    let version = ap (λ (r : Reading). r.version) c.reset.ensures.reading in
    advertises-then advertisement advertisement TakesFirst TakesFirst [] old _ _ (Ok c.empty_advertisement.result) (λ v ts h. h) reset
    (reads-empty_advertisement advertisement V0 _ _ stop.0 _ version c.empty_advertisement.ensures stop.1 (λ p q n. ap (by_first p) n))

pub returns-in-Err : goal.returns-in-Err
returns-in-Err g c =
    let old = packets_reading g.R.Read.remaining c.args.packets.now in
    let reset = subst (Steps advertisement advertisement [] old) (sym c.reset.ensures.reading) (reset-steps advertisement old V0) in
    let version = ap (λ (r : Reading). r.version) c.reset.ensures.reading in
    advertises-then advertisement advertisement TakesFirst TakesFirst [] old _ _ (Err c.from.result) (λ v ts h. h) reset
    (fails-reading advertisement TakesFirst _ _ _ _ (subst (λ v. TakesFirst v []) (sym version) refl) c.in-Err.ensures.peeks
    (c.in-Err.ensures.plain refl) c.from.ensures
    (λ p n. ap (by_first p) (ap (λ v. next_of v p) (sym version) ∙ n)))
