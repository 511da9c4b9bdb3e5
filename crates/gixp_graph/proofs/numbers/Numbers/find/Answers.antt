use Rattle.std.proofs.Common.{◌≡◌, ◌<◌, ◌-◌, ◌∙◌, ℕ, length, arith, ap, subst, refl, Some, None, List, Option, true, false}
use Rattle.std.specs.Prelude.{IfNone}
use Rattle.std.proofs.lemmas.Option.{slice_get_read}
use Rattle.std.specs.List.{slice_get}
use Rattle.gixp_hash.specs.declared.object_id.ObjectId.{ObjectId}
use Rattle.gixp_graph.specs.declared.numbers.Slot.{Slot}
use Rattle.gixp_graph.specs.Node.{ids_of}
use Rattle.gixp_graph.specs.Table.{id_at}
use Rattle.gixp_graph.specs.Slots.{tag_of, place_of, other_at, IsReached, IsNoOther, IsNew}
use Rattle.gixp_graph.proofs.SlotLemmas.{place_of_parts, place_within, never_free, other_found}
use Rattle.gixp_graph.proofs.numbers.Numbers.find.Goals as goal

-- where neither the number in the slot nor the map's is the id's, no number is
none_new : (o : Option ℕ) (ids : List ObjectId) (others : List (ObjectId × ℕ)) (id : ObjectId) → IfNone o (IsNoOther ids others id)
    → ((n : ℕ) → n < length ids → id_at ids n ≡ id → other_at others id ≡ Some n) → IfNone o (IsNew ids id)
none_new None ids others id h has = (λ n l e. h n l e (has n l e))
none_new (Some m) ids others id h has = tt

pub index-requires : goal.index-requires
index-requires c =
    let slots : List Slot = c.args.self.now.slots.items in
    let e : place_of slots c.args.self.now.mask (tag_of c.args.id.now) ≡ Some c.in-Some.index =
    place_of_parts _ slots c.args.self.now.mask _ (tag_of c.args.id.now) c.as_slice.ensures.value c.tag_of.ensures _ _ c.place.ensures
    c.in-Some.is in
    let l : c.in-Some.index < length slots = place_within slots _ _ 16 c.in-Some.index e in
    omega (arith, l, c.args.self.now.slots.ok.0)

pub returns-then-end-eq0-clause-none : goal.returns-then-end-eq0-clause-none
returns-then-end-eq0-clause-none c n named own =
    let slots : List Slot = c.args.self.now.slots.items in
    let e : place_of slots c.args.self.now.mask (tag_of c.args.id.now) ≡ Some c.in-Some.index =
    place_of_parts _ slots c.args.self.now.mask _ (tag_of c.args.id.now) c.as_slice.ensures.value c.tag_of.ensures _ _ c.place.ensures
    c.in-Some.is in
    let l : c.in-Some.index < length slots = place_within slots _ _ 16 c.in-Some.index e in
    let at : slice_get slots c.in-Some.index ≡ Some c.index.result.now = slice_get_read slots _ _ _ refl l c.index.ensures in
    let h : IsReached c.args.self.now c.args.id.now n = subst (λ id. IsReached c.args.self.now id n) own (c.requires n named) in
    never_free slots c.args.self.now.mask _ c.args.id.now n h c.in-Some.index c.index.result.now e at c.if-end-eq0.true

pub returns-clause-none : goal.returns-clause-none
returns-clause-none c =
    let slots : List Slot = c.args.self.now.slots.items in
    let e : place_of slots c.args.self.now.mask (tag_of c.args.id.now) ≡ Some c.in-Some.index =
    place_of_parts _ slots c.args.self.now.mask _ (tag_of c.args.id.now) c.as_slice.ensures.value c.tag_of.ensures _ _ c.place.ensures
    c.in-Some.is in
    let l : c.in-Some.index < length slots = place_within slots _ _ 16 c.in-Some.index e in
    let at : slice_get slots c.in-Some.index ≡ Some c.index.result.now = slice_get_read slots _ _ _ refl l c.index.ensures in
    none_new c.other-2.result (ids_of c.args.nodes.now) _ c.args.id.now c.other-2.ensures.none (λ n named own.
    let h : IsReached c.args.self.now c.args.id.now n = subst (λ id. IsReached c.args.self.now id n) own (c.requires n named) in
    other_found slots c.args.self.now.mask _ c.args.id.now n h c.in-Some.index c.index.result.now e at (λ end.
    let number : c.index.result.now.end - 1 ≡ n = omega (arith, end) in
    let f : c.is_named.result ≡ false = c.if-is_named.false in
    let t : c.is_named.result ≡ true =
    c.is_named.ensures.1 (rw number named, ap (id_at (ids_of c.args.nodes.now)) number ∙ own) in
    cc))
