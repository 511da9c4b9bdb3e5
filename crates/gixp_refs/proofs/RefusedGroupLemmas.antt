-- The error of a reference advertisement is that of the first line, or of the end, that doesn't continue the groups before it.
use Rattle.std.proofs.Common.{◌≡◌, ℕ, false, List, [], ◌∷◌, ◌++◌, Option, Some, None, Result, Ok, Err, refl, sym, ap, subst, ◌∙◌, inl, inr}
use Rattle.std.specs.Prelude.{filter}
use Rattle.gixp_refs.specs.Ref.{RefValue}
use Rattle.gixp_refs.specs.RefLine.{RefsRefusal}
use Rattle.gixp_refs.specs.Refs.{with_ref}
use Rattle.gixp_refs.specs.RefAdvertisement.{Symref, V1Line, nothing, peels, names, shallows, v1_line, NamedRef, single, pair, closed, in_front, group_with, group_end, groups}
use Rattle.gixp_refs.specs.RefGroups.{Group, alone, with_peeled, lines_in, is_grouped, AreLines, AreGroupRefs, open_in, NextRefused, AreRefusedAfter}
use Rattle.gixp_refs.proofs.GroupLemmas.{open_lines, open_groups, first_alone, no_peels_first, first_peeled, first_ref, open_at_end}

-- the same, after a ref line that may be open
record Refused (t : List Symref) (last : Option NamedRef) (texts : List (List ℕ)) (end : Option RefsRefusal)
    (e : RefsRefusal) : Type 0 where
  taken : List (List ℕ)
  more : List (List ℕ)
  split : texts ≡ taken ++ more
  lines : List V1Line
  read : AreLines taken lines
  found : List Group
  grouped : open_lines last ++ filter is_grouped lines ≡ lines_in found
  values : List RefValue
  refs : AreGroupRefs t found values
  next : NextRefused t (open_in found) more end e

-- one more group before others doesn't change which ref line is open
open_front : (g : Group) (l : V1Line) (ls : List V1Line) (gs : List Group) → (l ∷ ls) ≡ lines_in gs → open_in (g ∷ gs) ≡ open_in gs
open_front g l ls [] h = cc
open_front (alone n) l ls (k ∷ gs) h = refl
open_front (with_peeled n left base) l ls (k ∷ gs) h = refl

open_after : (n : NamedRef) (left base : List ℕ) (gs : List Group) → open_in (with_peeled n left base ∷ gs) ≡ open_in gs
open_after n left base [] = refl
open_after n left base (g ∷ gs) = refl

refused_here : (t : List Symref) (last : Option NamedRef) (texts : List (List ℕ)) (end : Option RefsRefusal) (e : RefsRefusal)
    → NextRefused t last texts end e → Refused t last texts end e
refused_here t None texts end e h =
    record { taken = []; more = texts; split = refl; lines = []; read = tt; found = []; grouped = refl; values = []; refs = tt; next = h }
refused_here t (Some m) texts end e h =
    record {
      taken = [];
      more = texts;
      split = refl;
      lines = [];
      read = tt;
      found = alone m ∷ [];
      grouped = refl;
      values = single t m ∷ [];
      refs = (refl, tt);
      next = h;
    }

-- it fails after a line that belongs to no group
refused_apart : (t : List Symref) (last : Option NamedRef) (text : List ℕ) (texts : List (List ℕ)) (end : Option RefsRefusal)
    (e : RefsRefusal) (l : V1Line) → v1_line text ≡ Ok l → is_grouped l ≡ false
    → Refused t last texts end e → Refused t last (text ∷ texts) end e
refused_apart t last text texts end e l h k x = record {
  taken = text ∷ x.taken;
  more = x.more;
  split = ap (λ l. text ∷ l) x.split;
  lines = l ∷ x.lines;
  read = (h, x.read);
  found = x.found;
  grouped = rw k x.grouped;
  values = x.values;
  refs = x.refs;
  next = x.next;
}

-- it fails after a ref line
refused_names : (t : List Symref) (last : Option NamedRef) (text : List ℕ) (texts : List (List ℕ)) (end : Option RefsRefusal)
    (e : RefsRefusal) (n : NamedRef) → v1_line text ≡ Ok (names n.object n.name)
    → Refused t (Some n) texts end e → Refused t last (text ∷ texts) end e
refused_names t None text texts end e n h x = record {
  taken = text ∷ x.taken;
  more = x.more;
  split = ap (λ l. text ∷ l) x.split;
  lines = names n.object n.name ∷ x.lines;
  read = (h, x.read);
  found = x.found;
  grouped = x.grouped;
  values = x.values;
  refs = x.refs;
  next = x.next;
}
refused_names t (Some m) text texts end e n h x = record {
  taken = text ∷ x.taken;
  more = x.more;
  split = ap (λ l. text ∷ l) x.split;
  lines = names n.object n.name ∷ x.lines;
  read = (h, x.read);
  found = alone m ∷ x.found;
  grouped = ap (λ ls. names m.object m.name ∷ ls) x.grouped;
  values = single t m ∷ x.values;
  refs = (refl, x.refs);
  next = subst (λ o. NextRefused t o x.more end e)
      (sym (open_front (alone m) (names n.object n.name) (filter is_grouped x.lines) x.found x.grouped)) x.next;
}

-- it fails after a peeled line
refused_peels : (t : List Symref) (last : Option NamedRef) (text : List ℕ) (texts : List (List ℕ)) (end : Option RefsRefusal)
    (e : RefsRefusal) (left base : List ℕ) (v : RefValue)
    → v1_line text ≡ Ok (peels left base) → pair t last left base ≡ Ok v → Refused t None texts end e → Refused t last (text ∷ texts) end e
refused_peels t None text texts end e left base v h p x = cc
refused_peels t (Some m) text texts end e left base v h p x = record {
  taken = text ∷ x.taken;
  more = x.more;
  split = ap (λ l. text ∷ l) x.split;
  lines = peels left base ∷ x.lines;
  read = (h, x.read);
  found = with_peeled m left base ∷ x.found;
  grouped = ap (λ ls. names m.object m.name ∷ peels left base ∷ ls) x.grouped;
  values = v ∷ x.values;
  refs = (p, x.refs);
  next = subst (λ o. NextRefused t o x.more end e) (sym (open_after m left base x.found)) x.next;
}

front_err : (xs : List RefValue) (r : Result (List RefValue) RefsRefusal) (e : RefsRefusal) → in_front xs r ≡ Err e → r ≡ Err e
front_err xs (Ok vs) e h = cc
front_err xs (Err x) e h = h

-- the error is that of the peeled line, or comes after it
refused_pair : (t : List Symref) (last : Option NamedRef) (text : List ℕ) (texts : List (List ℕ)) (end : Option RefsRefusal)
    (e : RefsRefusal) (left base : List ℕ) (p : Result RefValue RefsRefusal)
    → v1_line text ≡ Ok (peels left base) → pair t last left base ≡ p → with_ref p (groups texts end t None) ≡ Err e
    → (groups texts end t None ≡ Err e → Refused t None texts end e) → Refused t last (text ∷ texts) end e
refused_pair t last text texts end e left base (Ok v) h p k f =
    refused_peels t last text texts end e left base v h p (f (following (groups texts end t None) k))
  where
    following : (r : Result (List RefValue) RefsRefusal) → with_ref (Ok v) r ≡ Err e → r ≡ Err e
    following (Ok vs) h = cc
    following (Err x) h = h
refused_pair t last text texts end e left base (Err x) h p k f =
    refused_here t last (text ∷ texts) end e (inr (left, base, h, (let y : x ≡ e = cc in p ∙ ap Err y)))

refused_step : (t : List Symref) (last : Option NamedRef) (text : List ℕ) (texts : List (List ℕ)) (end : Option RefsRefusal)
    (e : RefsRefusal) (r : Result V1Line RefsRefusal) → v1_line text ≡ r
    → group_with t last r (λ now. groups texts end t now) ≡ Err e
    → ((now : Option NamedRef) → groups texts end t now ≡ Err e → Refused t now texts end e)
    → Refused t last (text ∷ texts) end e
refused_step t last text texts end e (Err x) h k f = refused_here t last (text ∷ texts) end e (inl (let y : x ≡ e = cc in h ∙ ap Err y))
refused_step t last text texts end e (Ok nothing) h k f = refused_apart t last text texts end e nothing h refl (f last k)
refused_step t last text texts end e (Ok (shallows id)) h k f = refused_apart t last text texts end e (shallows id) h refl (f last k)
refused_step t last text texts end e (Ok (names object name)) h k f =
    let n : NamedRef = record { object = object; name = name } in
    refused_names t last text texts end e n h (f (Some n) (front_err (closed t last) (groups texts end t (Some n)) e k))
refused_step t last text texts end e (Ok (peels left base)) h k f =
    refused_pair t last text texts end e left base (pair t last left base) h refl k (f None)

refused_end : (t : List Symref) (last : Option NamedRef) (end : Option RefsRefusal) (e : RefsRefusal)
    → group_end (closed t last) end ≡ Err e → end ≡ Some e
refused_end t last None e h = cc
refused_end t last (Some x) e h = let y : x ≡ e = cc in ap Some y

refused_from : (t : List Symref) (last : Option NamedRef) (texts : List (List ℕ)) (end : Option RefsRefusal) (e : RefsRefusal)
    → groups texts end t last ≡ Err e → Refused t last texts end e
refused_from t last [] end e h = refused_here t last [] end e (refused_end t last end e h)
refused_from t last (text ∷ texts) end e h =
    refused_step t last text texts end e (v1_line text) refl h (λ now k. refused_from t now texts end e k)

-- if reading fails, the advertisement has groups and then an error
pub refusal_found : (t : List Symref) (texts : List (List ℕ)) (end : Option RefsRefusal) (e : RefsRefusal)
    → groups texts end t None ≡ Err e → AreRefusedAfter t texts end e
refusal_found t texts end e h =
    let x = refused_from t None texts end e h in
    record {
      taken = x.taken;
      more = x.more;
      split = x.split;
      groups = x.found;
      are_groups = record { lines = x.lines; read = x.read; grouped = x.grouped };
      values = x.values;
      refs = x.refs;
      next = x.next;
    }

-- ---- and back

open_is : (last : Option NamedRef) → open_in (open_groups last) ≡ last
open_is None = refl
open_is (Some n) = refl

next_read : (t : List Symref) (last : Option NamedRef) (more : List (List ℕ)) (end : Option RefsRefusal) (e : RefsRefusal)
    → NextRefused t last more end e → groups more end t last ≡ Err e
next_read t last [] end e h = rw h refl
next_read t last (text ∷ texts) end e (inl h) = rw h refl
next_read t last (text ∷ texts) end e (inr h) =
    let l : v1_line text ≡ Ok (peels h.0 h.1) = h.2 in
    let p : pair t last h.0 h.1 ≡ Err e = h.3 in
    rw l (rw p refl)

line_read : (t : List Symref) (last : Option NamedRef) (l : V1Line) (ls : List V1Line) (gs : List Group) (values : List RefValue)
    (more : List (List ℕ)) (end : Option RefsRefusal) (e : RefsRefusal)
    (rest : Option NamedRef → Result (List RefValue) RefsRefusal)
    → open_lines last ++ filter is_grouped (l ∷ ls) ≡ lines_in gs → AreGroupRefs t gs values → NextRefused t (open_in gs) more end e
    → ((now : Option NamedRef) (others : List Group) (vs : List RefValue) → open_lines now ++ filter is_grouped ls ≡ lines_in others
    → AreGroupRefs t others vs → NextRefused t (open_in others) more end e → rest now ≡ Err e)
    → group_with t last (Ok l) rest ≡ Err e
line_read t last nothing ls gs values more end e rest g r n f = f last gs values g r n
line_read t last (shallows id) ls gs values more end e rest g r n f = f last gs values g r n
line_read t None (names object name) ls gs values more end e rest g r n f =
    rw (f (Some (record { object = object; name = name })) gs values g r n) refl
line_read t (Some m) (names object name) ls gs values more end e rest g r n f =
    let x = first_alone m object name (filter is_grouped ls) gs g in
    let y = first_ref t (alone m) x.0 values (subst (λ k. AreGroupRefs t k values) x.1 r) in
    let stays = ap open_in x.1 ∙ open_front (alone m) (names object name) (filter is_grouped ls) x.0 x.2 in
    rw (f (Some (record { object = object; name = name })) x.0 y.1 x.2 y.4 (subst (λ o. NextRefused t o more end e) stays n)) refl
line_read t None (peels left base) ls gs values more end e rest g r n f = absurd (no_peels_first left base (filter is_grouped ls) gs g)
line_read t (Some m) (peels left base) ls gs values more end e rest g r n f =
    let x = first_peeled m left base (filter is_grouped ls) gs g in
    let y = first_ref t (with_peeled m left base) x.0 values (subst (λ k. AreGroupRefs t k values) x.1 r) in
    let stays = ap open_in x.1 ∙ open_after m left base x.0 in
    let one : pair t (Some m) left base ≡ Ok y.0 = y.3 in
    rw one (rw (f None x.0 y.1 x.2 y.4 (subst (λ o. NextRefused t o more end e) stays n)) refl)

read_from : (t : List Symref) (last : Option NamedRef) (taken more : List (List ℕ)) (ls : List V1Line) (gs : List Group)
    (values : List RefValue) (end : Option RefsRefusal) (e : RefsRefusal) → AreLines taken ls
    → open_lines last ++ filter is_grouped ls ≡ lines_in gs → AreGroupRefs t gs values → NextRefused t (open_in gs) more end e
    → groups (taken ++ more) end t last ≡ Err e
read_from t last [] more [] gs values end e h g r n =
    next_read t last more end e (subst (λ o. NextRefused t o more end e) (ap open_in (open_at_end last gs g) ∙ open_is last) n)
read_from t last [] more (l ∷ ls) gs values end e h g r n = absurd h
read_from t last (text ∷ texts) more [] gs values end e h g r n = absurd h
read_from t last (text ∷ texts) more (l ∷ ls) gs values end e h g r n =
    let one : v1_line text ≡ Ok l = h.0 in
    rw one (line_read t last l ls gs values more end e (λ now. groups (texts ++ more) end t now) g r n
    (λ now others vs k s m. read_from t now texts more ls others vs end e h.1 k s m))

-- groups with an error after them fail with it
pub refusal_read : (t : List Symref) (texts : List (List ℕ)) (end : Option RefsRefusal) (e : RefsRefusal)
    → AreRefusedAfter t texts end e → groups texts end t None ≡ Err e
refusal_read t texts end e h =
    ap (λ x. groups x end t None) h.split
    ∙ read_from t None h.taken h.more h.are_groups.lines h.groups h.values end e h.are_groups.read h.are_groups.grouped h.refs
    h.next
