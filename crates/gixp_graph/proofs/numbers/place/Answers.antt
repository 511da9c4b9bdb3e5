use Rattle.std.proofs.Common.{◌≡◌, ◌∙◌, ◌-◌, ◌+◌, sym, ap, arith, ⊎_elim, inl, inr, bit_and, refl, ℕ}
use Rattle.std.proofs.lemmas.Option.{slice_get_read}
use Rattle.gixp_graph.specs.Slots.{place_from}
use Rattle.gixp_graph.proofs.SlotLemmas.{place_past, place_here, place_next, place_none}
use Rattle.gixp_graph.proofs.numbers.place.Goals as goal

pub returns-in_default : goal.returns-in_default
returns-in_default c = sym (c.loop-offset.invariant
    ∙ place_past _ _ _ _ (let l = c.loop-offset-test.true in omega (arith, l)) c.in_default.ensures.lookup.3)

pub returns-then-slot-eq0 : goal.returns-then-slot-eq0
returns-then-slot-eq0 c = sym (c.loop-offset.invariant
    ∙ place_here _ _ _ _ (let l = c.loop-offset-test.true in omega (arith, l)) c.in-Some.field-0.now
    (slice_get_read _ _ _ _ refl c.in-Some.ensures.lookup.3.0 c.in-Some.ensures.lookup.1)
    (⊎_elim (λ e. inl e) (λ e. inr e.1) c.then-slot-eq0.either))

pub loop-offset-preserved : goal.loop-offset-preserved
loop-offset-preserved c =
    let l = c.loop-offset-test.true in
    let start : ℕ = bit_and c.args.tag c.args.mask in
    let offset = c.loop-offset.offset in
    let left : 16 - offset - 1 ≡ 16 - (offset + 1) = omega (arith, l) in
    let index : start + offset + 1 ≡ start + (offset + 1) = omega arith in
    c.loop-offset.invariant ∙ place_next _ _ _ _ (omega (arith, l)) c.in-Some.field-0.now
    (slice_get_read _ _ _ _ refl c.in-Some.ensures.lookup.3.0 c.in-Some.ensures.lookup.1) c.if-slot-eq0.false c.if-slot-tag.false
    ∙ ap (λ k. place_from c.args.slots.now c.args.tag (start + offset + 1) k) left
    ∙ ap (λ i. place_from c.args.slots.now c.args.tag i (16 - (offset + 1))) index

pub returns : goal.returns
returns c = sym (c.loop-offset.invariant ∙ place_none _ _ _ _ (let l = c.loop-offset-test.false in omega (arith, l)))
