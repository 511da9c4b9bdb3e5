use Rattle.std.proofs.Common.{◌≡◌, ◌⊎◌, ◌≤◌, ◌∙◌, ap, sym, subst, arith, length, take}
use Rattle.std.specs.Prelude.{slice_range}
use Rattle.std.specs.Io.KnownBytes.{IsAtEnd}
use Rattle.std.proofs.lemmas.List.{take_all, length-take-le}
use Rattle.gixp_plain_requests.specs.Advertisement.{advertised, lacks_advertised, size_needed}
use Rattle.gixp_plain_requests.proofs.AdvertisementLemmas.{names_added, keeps_both, from_start}
use Rattle.gixp_plain_requests.proofs.named.NamedCapabilities.add_names.Goals as goal

pub returns-clause-bytes : goal.returns-clause-bytes
returns-clause-bytes g c =
    let s = c.fill.new.self in
    let o = g.R.Read.remaining s.reader in
    let held = take s.end s.room.items in
    let in_room = s.in_order.2 c.in_ok-fill.ensures.unnamed in
    let named : c.in_ok-missing.named.items ≡ advertised held =
    c.in_ok-missing.ensures.text ∙ ap (λ xs. advertised (take s.end xs)) c.deref.ensures.value in
    let len : length held ≡ s.end = length-take-le s.end s.room.items (omega (arith, s.in_order.1)) in
    let old : slice_range s.room.items s.start s.end ≡ held =
    ap (λ k. slice_range s.room.items k s.end) in_room.0 ∙ from_start s.room.items s.end in
    let new : slice_range c.in_ok-missing.named.items s.start c.len-self.result ≡ c.in_ok-missing.named.items =
    ap (λ k. slice_range c.in_ok-missing.named.items k c.len-self.result) in_room.0 ∙ from_start c.in_ok-missing.named.items c.len-self.result
    ∙ take_all c.len-self.result c.in_ok-missing.named.items (omega (arith, c.len-self.ensures)) in
    let whole : (size_needed held ≤ length held) ⊎ IsAtEnd o = subst (λ n. (size_needed held ≤ n) ⊎ IsAtEnd o) (sym len) c.in_ok-fill.ensures.whole in
    keeps_both _ _ _ c.in_ok-fill.ensures.bytes (rw (c.in_ok-fill.ensures.unnamed, old, new) (names_added o held c.in_ok-missing.named.items named whole))

pub returns-clause-missing : goal.returns-clause-missing
returns-clause-missing g c =
    let s = c.fill.new.self in
    let same : take s.end c.deref.result.now ≡ take s.end s.room.items = ap (take s.end) c.deref.ensures.value in
    (take s.end s.room.items, c.in_ok-missing.ensures.text ∙ ap advertised same, c.in_ok-missing.ensures.missing ∙ ap lacks_advertised same)
