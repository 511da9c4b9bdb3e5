use Rattle.std.proofs.Common.{◌≡◌, ◌<◌, ◌∙◌, length, arith, ap, sym, refl, ◌+◌, Some, inl, List}
use Rattle.std.proofs.lemmas.Option.{slice_get_read}
use Rattle.std.specs.List.{slice_get}
use Rattle.gixp_graph.specs.declared.numbers.Slot.{Slot}
use Rattle.gixp_graph.specs.Slots.{tag_of, place_of}
use Rattle.gixp_graph.proofs.SlotLemmas.{place_of_parts, place_within, reached_written, placed_written, taken_written}
use Rattle.gixp_graph.proofs.numbers.Numbers.write.Goals as goal

pub index-requires : goal.index-requires
index-requires c =
    let slots : List Slot = c.args.self.now.slots.items in
    let e : place_of slots c.args.self.now.mask (tag_of c.args.id.now) ≡ Some c.in-Some.index =
    place_of_parts _ slots c.args.self.now.mask _ (tag_of c.args.id.now) c.as_slice.ensures.value c.tag_of-tag.ensures _ _ c.place.ensures
    c.in-Some.is in
    let l : c.in-Some.index < length slots = place_within slots _ _ 16 c.in-Some.index e in
    omega (arith, l, c.args.self.now.slots.ok.0)

pub index_mut-requires : goal.index_mut-requires
index_mut-requires c =
    let slots : List Slot = c.args.self.now.slots.items in
    let e : place_of slots c.args.self.now.mask (tag_of c.args.id.now) ≡ Some c.in-Some.index =
    place_of_parts _ slots c.args.self.now.mask _ (tag_of c.args.id.now) c.as_slice.ensures.value c.tag_of-tag.ensures _ _ c.place.ensures
    c.in-Some.is in
    let l : c.in-Some.index < length slots = place_within slots _ _ 16 c.in-Some.index e in
    omega (arith, l, c.args.self.now.slots.ok.0)

pub index_mut-requires-2 : goal.index_mut-requires-2
index_mut-requires-2 c =
    let slots : List Slot = c.args.self.now.slots.items in
    let e : place_of slots c.args.self.now.mask (tag_of c.args.id.now) ≡ Some c.in-Some.index =
    place_of_parts _ slots c.args.self.now.mask _ (tag_of c.args.id.now) c.as_slice.ensures.value c.tag_of-tag.ensures _ _ c.place.ensures
    c.in-Some.is in
    let l : c.in-Some.index < length slots = place_within slots _ _ 16 c.in-Some.index e in
    omega (arith, l, c.args.self.now.slots.ok.0)

pub returns-then-index-ne0-clause-taken : goal.returns-then-index-ne0-clause-taken
returns-then-index-ne0-clause-taken c f i s here is =
    let slots : List Slot = c.args.self.now.slots.items in
    let e : place_of slots c.args.self.now.mask (tag_of c.args.id.now) ≡ Some c.in-Some.index =
    place_of_parts _ slots c.args.self.now.mask _ (tag_of c.args.id.now) c.as_slice.ensures.value c.tag_of-tag.ensures _ _ c.place.ensures
    c.in-Some.is in
    let l : c.in-Some.index < length slots = place_within slots _ _ 16 c.in-Some.index e in
    let at : slice_get slots c.in-Some.index ≡ Some c.index.result.now = slice_get_read slots _ _ _ refl l c.index.ensures in
    let same : Some i ≡ Some c.in-Some.index = sym here ∙ e in
    let index : i ≡ c.in-Some.index = cc in
    let one : Some s ≡ Some c.index.result.now = sym is ∙ ap (slice_get slots) index ∙ at in
    let own : s.end ≡ c.index.result.now.end = cc in omega (arith, c.if-index-ne0.true)

pub returns-then-number-lt-LIMIT-clause-kept : goal.returns-then-number-lt-LIMIT-clause-kept
returns-then-number-lt-LIMIT-clause-kept c q n h =
    let slots : List Slot = c.args.self.now.slots.items in
    let e : place_of slots c.args.self.now.mask (tag_of c.args.id.now) ≡ Some c.in-Some.index =
    place_of_parts _ slots c.args.self.now.mask _ (tag_of c.args.id.now) c.as_slice.ensures.value c.tag_of-tag.ensures _ _ c.place.ensures
    c.in-Some.is in
    let l : c.in-Some.index < length slots = place_within slots _ _ 16 c.in-Some.index e in
    let at : slice_get slots c.in-Some.index ≡ Some c.index.result.now = slice_get_read slots _ _ _ refl l c.index.ensures in
    reached_written slots c.in-Some.index _ c.index.result.now at c.if-index-ne0.false c.args.self.now.mask
    c.args.self.now.others.entries q n h

pub returns-then-number-lt-LIMIT-clause-placed : goal.returns-then-number-lt-LIMIT-clause-placed
returns-then-number-lt-LIMIT-clause-placed c t =
    let slots : List Slot = c.args.self.now.slots.items in
    let e : place_of slots c.args.self.now.mask (tag_of c.args.id.now) ≡ Some c.in-Some.index =
    place_of_parts _ slots c.args.self.now.mask _ (tag_of c.args.id.now) c.as_slice.ensures.value c.tag_of-tag.ensures _ _ c.place.ensures
    c.in-Some.is in
    let l : c.in-Some.index < length slots = place_within slots _ _ 16 c.in-Some.index e in
    let at : slice_get slots c.in-Some.index ≡ Some c.index.result.now = slice_get_read slots _ _ _ refl l c.index.ensures in
    inl (placed_written slots c.in-Some.index _ c.index.result.now at c.if-index-ne0.false c.args.self.now.mask c.args.id.now
    c.args.number e
    (ap (λ tag. record { tag = tag; end = c.args.number + 1 }) c.tag_of-tag.ensures))

pub returns-clause-kept : goal.returns-clause-kept
returns-clause-kept c q n h =
    let slots : List Slot = c.args.self.now.slots.items in
    let e : place_of slots c.args.self.now.mask (tag_of c.args.id.now) ≡ Some c.in-Some.index =
    place_of_parts _ slots c.args.self.now.mask _ (tag_of c.args.id.now) c.as_slice.ensures.value c.tag_of-tag.ensures _ _ c.place.ensures
    c.in-Some.is in
    let l : c.in-Some.index < length slots = place_within slots _ _ 16 c.in-Some.index e in
    let at : slice_get slots c.in-Some.index ≡ Some c.index.result.now = slice_get_read slots _ _ _ refl l c.index.ensures in
    reached_written slots c.in-Some.index _ c.index.result.now at c.if-index-ne0.false c.args.self.now.mask
    c.args.self.now.others.entries q n h

pub returns-clause-taken : goal.returns-clause-taken
returns-clause-taken c f =
    let slots : List Slot = c.args.self.now.slots.items in
    let e : place_of slots c.args.self.now.mask (tag_of c.args.id.now) ≡ Some c.in-Some.index =
    place_of_parts _ slots c.args.self.now.mask _ (tag_of c.args.id.now) c.as_slice.ensures.value c.tag_of-tag.ensures _ _ c.place.ensures
    c.in-Some.is in
    let l : c.in-Some.index < length slots = place_within slots _ _ 16 c.in-Some.index e in
    let at : slice_get slots c.in-Some.index ≡ Some c.index.result.now = slice_get_read slots _ _ _ refl l c.index.ensures in
    taken_written slots c.in-Some.index _ c.index.result.now at c.if-index-ne0.false c.args.self.now.mask (tag_of c.args.id.now) e
    c.tag_of-tag.ensures (omega arith)
