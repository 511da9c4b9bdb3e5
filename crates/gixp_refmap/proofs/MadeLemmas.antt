-- Mappings that are made from places.
use Rattle.std.proofs.Common.{◌≡◌, ℕ, zero, suc, ◌+◌, ◌<◌, List, [], ◌∷◌, ◌++◌, Option, Some, None, length, map, take, drop, reverse, get_or, refl, ap, sym, ◌∙◌, subst, arith}
use Rattle.std.specs.List.{slice_get, AllZip, AllByRecursion}
use Rattle.std.proofs.lemmas.List.{take_more, take-append-drop, length-take-le, append_assoc, map-append}
use Rattle.gixp_refs.specs.declared.handshake.Ref.{Ref}
use Rattle.gixp_refs.specs.Ref.{RefValue, ref_value}
use Rattle.gixp_refspec.specs.Spec.{Spec}
use Rattle.gixp_matching.specs.declared.match_group.Place.{Place}
use Rattle.gixp_refmap.specs.declared.refmap.mapping.Source.{Source}
use Rattle.gixp_refmap.specs.declared.refmap.mapping.Source.TheVariants.{ObjectId as the_id, Ref as the_ref}
use Rattle.gixp_refmap.specs.declared.refmap.mapping.Mapping.{Mapping}
use Rattle.gixp_refmap.specs.Made.{IsItemThere, IsTakenByPlace, IsMade, Falls, refs_before}
use Rattle.gixp_refmap.proofs.ItemLemmas.{zip_more, reversed_front}

-- one more pair, of the next element
pub zip_next : {A B : Type 0} (R : A → B → Type 0) (xs : List A) (i : ℕ) (d : A) (ys zs : List B) (y : B) → i < length xs
    → AllZip R (take i xs) ys → R (get_or xs i d) y → zs ≡ ys ++ y ∷ [] → AllZip R (take (i + 1) xs) zs
zip_next {A} {B} R xs i d ys zs y l kept r e =
    let P : List A → Type 0 = λ fs. AllZip R fs zs in
    let Q : List B → Type 0 = λ bs. AllZip R (take i xs ++ get_or xs i d ∷ []) bs in
    subst P (sym (take_more xs i d l)) (subst Q (sym e) (zip_more R (take i xs) ys (get_or xs i d) y kept r))

all_parts : {A : Type 0} (P : A → Type 0) (xs : List A) (x : A) → AllByRecursion P (xs ++ x ∷ []) → AllByRecursion P xs × P x
all_parts P [] x h = (tt, h.0)
all_parts P (y ∷ ys) x h = let rest = all_parts P ys x h.1 in ((h.0, rest.0), rest.1)

-- a property of all elements is one of all but the last
pub all_but_last : {A : Type 0} (P : A → Type 0) (before after : List A) (x : A) → before ≡ after ++ x ∷ [] → AllByRecursion P before
    → AllByRecursion P after × P x
all_but_last {A} P before after x e h =
    let Q : List A → Type 0 = λ xs. AllByRecursion P xs in
    all_parts P after x (subst Q e h)

there_in_whole : {A : Type 0} (xs ys : List A) (i : ℕ) (x : A) → slice_get xs i ≡ Some x → slice_get (xs ++ ys) i ≡ Some x
there_in_whole [] ys i x e = cc
there_in_whole (y ∷ xs) ys zero x e = e
there_in_whole (y ∷ xs) ys (suc i) x e = there_in_whole xs ys i x e

-- a source from the first refs is a source from all refs
taken_of_whole : (front back : List RefValue) (specs : List Spec) (item : Option ℕ) (s : ℕ) (x : Source)
    → IsTakenByPlace front specs item s x → IsTakenByPlace (front ++ back) specs item s x
taken_of_whole front back specs None s (the_id id) h = h
taken_of_whole front back specs None s (the_ref r) h = h
taken_of_whole front back specs (Some i) s (the_id id) h = h
taken_of_whole front back specs (Some i) s (the_ref r) h = there_in_whole front back i (ref_value r) h

-- a mapping from the first refs is a mapping from all refs
pub made_of_whole : (refs front back : List Ref) (specs : List Spec) (p : Place) (x : Mapping) → refs ≡ front ++ back
    → IsMade (map ref_value front) specs p x → IsMade (map ref_value refs) specs p x
made_of_whole refs front back specs p x e h =
    let P : List RefValue → Type 0 = λ rs. IsTakenByPlace rs specs p.item_index p.spec_index x.remote in
    record {
      remote = subst P (sym (map-append ref_value front back) ∙ sym (ap (map ref_value) e))
          (taken_of_whole (map ref_value front) (map ref_value back) specs p.item_index p.spec_index x.remote h.remote);
      local = h.local;
      place = h.place;
    }

-- the refs that leave the list with the ref of a place
pub refs_following : Option ℕ → List Ref → List Ref
refs_following None refs = []
refs_following (Some i) refs = drop i refs

-- the refs that stay and those that leave
stay_and_leave : (item : Option ℕ) (refs gone : List Ref) → refs ++ gone ≡ refs_before item refs ++ (refs_following item refs ++ gone)
unfolding refs_following
stay_and_leave None refs gone = refl
stay_and_leave (Some i) refs gone =
    ap (λ rs. rs ++ gone) (sym (take-append-drop i refs)) ∙ append_assoc (take i refs) (drop i refs) gone

-- the refs that stay are the first of all refs
pub stay_of_all : (item : Option ℕ) (all before after gone : List Ref) → all ≡ before ++ gone → after ≡ refs_before item before
    → all ≡ after ++ (refs_following item before ++ gone)
stay_of_all item all before after gone e left =
    e ∙ stay_and_leave item before gone ∙ ap (λ rs. rs ++ (refs_following item before ++ gone)) (sym left)

-- a place that is valid for more refs, and may be taken next, is valid
pub there_now : (more count : ℕ) (specs : List Spec) (item : Option ℕ) (s : ℕ) (items : List (Option ℕ))
    → IsItemThere more specs item s → Falls count (item ∷ items) → IsItemThere count specs item s
there_now more count specs None s items h f = h
there_now more count specs (Some i) s items h f = f.0

-- the remaining places may be taken from the refs that stay
pub falls_on : (before after : List Ref) (item : Option ℕ) (items : List (Option ℕ)) → after ≡ refs_before item before
    → Falls (length before) (item ∷ items) → Falls (length after) items
falls_on before after None items e f = let P : List Ref → Type 0 = λ rs. Falls (length rs) items in subst P (sym e) f
falls_on before after (Some i) items e f =
    let l : length after ≡ i = ap length e ∙ length-take-le i before (omega (arith, f.0)) in
    let P : ℕ → Type 0 = λ n. Falls n items in
    subst P (sym l) f.1

-- the last place may be taken, and then those before it
pub falls_of_last : (count : ℕ) (before after : List Place) (p : Place) → before ≡ after ++ p ∷ []
    → Falls count (map (λ (q : Place). q.item_index) (reverse before))
    → Falls count (p.item_index ∷ map (λ (q : Place). q.item_index) (reverse after))
falls_of_last count before after p e f =
    let P : List Place → Type 0 = λ ps. Falls count (map (λ (q : Place). q.item_index) ps) in
    subst P (reversed_front before after p e) f

-- one more pair at the front of a list that is read from its end
pub zip_before : {A B : Type 0} (R : A → B → Type 0) (done : List A) (made more : List B) (p : A) (x : B) → more ≡ made ++ x ∷ []
    → R p x → AllZip R done (reverse made) → AllZip R (p ∷ done) (reverse more)
zip_before {A} {B} R done made more p x e r kept =
    let P : List B → Type 0 = λ xs. AllZip R (p ∷ done) xs in
    subst P (sym (reversed_front more made x e)) (r, kept)
