use Rattle.std.proofs.Common.{◌≡◌, ◌∷◌, ◌++◌, ◌∙◌, [], List, length, map, reverse, ap, sym, subst}
use Rattle.std.specs.List.{AllZip}
use Rattle.std.proofs.lemmas.List.{append-nil, append_assoc}
use Rattle.gixp_refs.specs.declared.handshake.Ref.{Ref}
use Rattle.gixp_refs.specs.Ref.{ref_value}
use Rattle.gixp_matching.specs.MatchGroup.{group_specs}
use Rattle.gixp_refmap.specs.declared.refmap.mapping.Mapping.{Mapping}
use Rattle.gixp_refmap.specs.Made.{refs_before, IsThere, IsMade}
use Rattle.gixp_refmap.proofs.MadeLemmas.{all_but_last, there_now, falls_on, falls_of_last, zip_before, made_of_whole, refs_following, stay_of_all}
use Rattle.gixp_refmap.proofs.refmap.made.moved.Goals as goal

pub places-init : goal.places-init
places-init c =
    let refs = map ref_value c.args.refs.items in
    let P : List Mapping → Type 0 = λ xs. AllZip (IsMade refs (group_specs c.args.group.now)) [] (reverse xs) in
    record {
      done = [];
      gone = [];
      made = subst P (sym c.in_ok-made.ensures.items) tt;
      there = c.requires.there;
      falls = c.requires.falls;
      places = sym (append-nil c.args.places.items);
      refs = sym (append-nil c.args.refs.items);
    }

pub moved_one-requires : goal.moved_one-requires
moved_one-requires c =
    let p = c.in-Some.place in
    let kept = c.places.invariant in
    let total = length c.args.refs.items in
    let now = length c.places.refs.items in
    let specs = group_specs c.args.group.now in
    let places = c.places.places.items in
    let after = c.pop.new.self.items in
    let P : List Ref → Type 0 = λ rs. IsThere (length rs) specs p in
    subst P (sym c.give_back.ensures.refs)
    (there_now total now specs p.item_index p.spec_index _
    (all_but_last (IsThere total specs) places after p c.in-Some.ensures.items kept.there).1
    (falls_of_last now places after p c.in-Some.ensures.items kept.falls))

pub places-preserved : goal.places-preserved
places-preserved c =
    let p = c.in-Some.place in
    let x = c.in_ok-moved_one.field-0 in
    let kept = c.places.invariant in
    let specs = group_specs c.args.group.now in
    let total = c.args.refs.items in
    let before = c.places.refs.items in
    let stay = c.moved_one.new.refs.items in
    let places = c.places.places.items in
    let after = c.give_back.new.places.items in
    let same = c.give_back.ensures.refs in
    let left : stay ≡ refs_before p.item_index before = c.in_ok-moved_one.ensures.left ∙ ap (refs_before p.item_index) same in
    let split : places ≡ after ++ p ∷ [] = c.in-Some.ensures.items ∙ ap (λ ps. ps ++ p ∷ []) (sym c.give_back.ensures.places) in
    let all : total ≡ c.give_back.new.refs.items ++ kept.gone = kept.refs ∙ ap (λ rs. rs ++ kept.gone) (sym same) in
    let one = made_of_whole total c.give_back.new.refs.items kept.gone specs p x all c.in_ok-moved_one.ensures.made in
    record {
      done = p ∷ kept.done;
      gone = refs_following p.item_index before ++ kept.gone;
      made = zip_before (IsMade (map ref_value total) specs) kept.done c.places.made.items c.push.new.self.items p x
          c.in_ok-push.ensures.items one kept.made;
      there = (all_but_last (IsThere (length total) specs) places after p split kept.there).0;
      falls = falls_on before stay p.item_index _ left (falls_of_last (length before) places after p split kept.falls);
      places = kept.places ∙ ap (λ ps. ps ++ kept.done) split ∙ append_assoc after (p ∷ []) kept.done;
      refs = stay_of_all p.item_index total before stay kept.gone kept.refs left;
    }
