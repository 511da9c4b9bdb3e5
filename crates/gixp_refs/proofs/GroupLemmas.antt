-- The refs of a reference advertisement are those of its groups.
use Rattle.std.proofs.Common.{◌≡◌, ℕ, false, List, [], ◌∷◌, ◌++◌, Option, Some, None, Result, Ok, Err, refl, sym, ap, subst, ◌∙◌}
use Rattle.std.specs.Prelude.{filter}
use Rattle.gixp_refs.specs.Ref.{RefValue}
use Rattle.gixp_refs.specs.RefLine.{RefsRefusal}
use Rattle.gixp_refs.specs.Refs.{with_ref}
use Rattle.gixp_refs.specs.RefAdvertisement.{Symref, V1Line, nothing, peels, names, shallows, v1_line, NamedRef, single, pair, closed, in_front, group_with, group_end, groups}
use Rattle.gixp_refs.specs.RefGroups.{Group, alone, with_peeled, lines_in, is_grouped, AreLines, AreRefGroups, group_ref, AreGroupRefs}

-- an open ref line, as lines, as a group, and as its ref
abbrev pub open_lines : Option NamedRef → List V1Line
open_lines None = []
open_lines (Some n) = names n.object n.name ∷ []

abbrev pub open_groups : Option NamedRef → List Group
open_groups None = []
open_groups (Some n) = alone n ∷ []

same_named : (m n : NamedRef) → m.object ≡ n.object → m.name ≡ n.name → m ≡ n
same_named m n e f = ap (λ o. record { object = o; name = m.name }) e ∙ ap (λ x. record { object = n.object; name = x }) f

same_ok : (xs ys : List RefValue) (r : Result (List RefValue) RefsRefusal) → r ≡ Ok xs → r ≡ Ok ys → xs ≡ ys
same_ok xs ys r h k = cc

same_err : (x y : RefsRefusal) (r : Result (List RefValue) RefsRefusal) → r ≡ Err x → r ≡ Err y → x ≡ y
same_err x y r h k = cc

-- ---- the refs that are read are those of groups

record Grouped (t : List Symref) (last : Option NamedRef) (texts : List (List ℕ)) (values : List RefValue) : Type 0 where
  lines : List V1Line
  read : AreLines texts lines
  found : List Group
  grouped : open_lines last ++ filter is_grouped lines ≡ lines_in found
  refs : AreGroupRefs t found values

grouped_end : (t : List Symref) (last : Option NamedRef) (values : List RefValue) → group_end (closed t last) None ≡ Ok values
    → Grouped t last [] values
grouped_end t None [] h = record { lines = []; read = tt; found = []; grouped = refl; refs = tt }
grouped_end t None (v ∷ vs) h = cc
grouped_end t (Some n) [] h = cc
grouped_end t (Some n) (v ∷ vs) h =
    let first : single t n ≡ v = cc in
    let others : [] ≡ vs = cc in
    record { lines = []; read = tt; found = alone n ∷ []; grouped = refl; refs = at vs first others }
  where
    at : (ws : List RefValue) → single t n ≡ v → [] ≡ ws → AreGroupRefs t (alone n ∷ []) (v ∷ ws)
    at [] first others = (ap Ok first, tt)
    at (w ∷ ws) first others = cc

-- a line that belongs to no group
grouped_apart : (t : List Symref) (last : Option NamedRef) (text : List ℕ) (texts : List (List ℕ)) (values : List RefValue) (l : V1Line)
    → v1_line text ≡ Ok l → is_grouped l ≡ false
    → Grouped t last texts values → Grouped t last (text ∷ texts) values
grouped_apart t last text texts values l h k g = record {
  lines = l ∷ g.lines;
  read = (h, g.read);
  found = g.found;
  grouped = rw k g.grouped;
  refs = g.refs;
}

-- these refs before the others
front_ok : (xs values : List RefValue) (r : Result (List RefValue) RefsRefusal) → in_front xs r ≡ Ok values → (vs : List RefValue)
    × (r ≡ Ok vs) × (values ≡ xs ++ vs)
front_ok xs values (Ok vs) h = (vs, refl, same_ok values (xs ++ vs) (in_front xs (Ok vs)) h refl)
front_ok xs values (Err e) h = cc

-- a ref line, after another one that may be open
grouped_names : (t : List Symref) (last : Option NamedRef) (text : List ℕ) (texts : List (List ℕ)) (values vs : List RefValue)
    (n : NamedRef) → v1_line text ≡ Ok (names n.object n.name)
    → values ≡ closed t last ++ vs → Grouped t (Some n) texts vs → Grouped t last (text ∷ texts) values
grouped_names t None text texts values vs n h e g =
    record { lines = names n.object n.name ∷ g.lines; read = (h, g.read); found = g.found; grouped = g.grouped; refs = rw e g.refs }
grouped_names t (Some m) text texts values vs n h e g =
    record {
      lines = names n.object n.name ∷ g.lines;
      read = (h, g.read);
      found = alone m ∷ g.found;
      grouped = ap (λ ls. names m.object m.name ∷ ls) g.grouped;
      refs = rw e (refl, g.refs);
    }

-- the peeled line of the open ref line
ref_ok : (values : List RefValue) (p : Result RefValue RefsRefusal) (r : Result (List RefValue) RefsRefusal) → with_ref p r ≡ Ok values
    → (v : RefValue) × (vs : List RefValue) × (p ≡ Ok v) × (r ≡ Ok vs) × (values ≡ v ∷ vs)
ref_ok values (Ok v) (Ok vs) h = (v, vs, refl, refl, same_ok values (v ∷ vs) (with_ref (Ok v) (Ok vs)) h refl)
ref_ok values (Ok v) (Err e) h = cc
ref_ok values (Err e) r h = cc

grouped_peels : (t : List Symref) (last : Option NamedRef) (text : List ℕ) (texts : List (List ℕ)) (values vs : List RefValue)
    (left base : List ℕ) (v : RefValue) → v1_line text ≡ Ok (peels left base)
    → pair t last left base ≡ Ok v → values ≡ v ∷ vs → Grouped t None texts vs → Grouped t last (text ∷ texts) values
grouped_peels t None text texts values vs left base v h p e g = cc
grouped_peels t (Some m) text texts values vs left base v h p e g =
    record {
      lines = peels left base ∷ g.lines;
      read = (h, g.read);
      found = with_peeled m left base ∷ g.found;
      grouped = ap (λ ls. names m.object m.name ∷ peels left base ∷ ls) g.grouped;
      refs = rw e (p, g.refs);
    }

-- by the meaning of a line
grouped_step : (t : List Symref) (last : Option NamedRef) (text : List ℕ) (texts : List (List ℕ)) (values : List RefValue)
    (r : Result V1Line RefsRefusal) → v1_line text ≡ r
    → group_with t last r (λ now. groups texts None t now) ≡ Ok values
    → ((now : Option NamedRef) (vs : List RefValue) → groups texts None t now ≡ Ok vs → Grouped t now texts vs)
    → Grouped t last (text ∷ texts) values
grouped_step t last text texts values (Err e) h k f = cc
grouped_step t last text texts values (Ok nothing) h k f = grouped_apart t last text texts values nothing h refl (f last values k)
grouped_step t last text texts values (Ok (shallows id)) h k f =
    grouped_apart t last text texts values (shallows id) h refl (f last values k)
grouped_step t last text texts values (Ok (names object name)) h k f =
    let n : NamedRef = record { object = object; name = name } in
    let x = front_ok (closed t last) values (groups texts None t (Some n)) k in
    grouped_names t last text texts values x.0 n h x.2 (f (Some n) x.0 x.1)
grouped_step t last text texts values (Ok (peels left base)) h k f =
    let x = ref_ok values (pair t last left base) (groups texts None t None) k in
    grouped_peels t last text texts values x.1 left base x.0 h x.2 x.4 (f None x.1 x.3)

grouped_from : (t : List Symref) (last : Option NamedRef) (texts : List (List ℕ)) (values : List RefValue)
    → groups texts None t last ≡ Ok values → Grouped t last texts values
grouped_from t last [] values h = grouped_end t last values h
grouped_from t last (text ∷ texts) values h =
    grouped_step t last text texts values (v1_line text) refl h (λ now vs k. grouped_from t now texts vs k)

-- the refs of a reference advertisement are those of groups of its lines
pub groups_found : (t : List Symref) (texts : List (List ℕ)) (values : List RefValue) → groups texts None t None ≡ Ok values
    → (found : List Group) × AreRefGroups texts found × AreGroupRefs t found values
groups_found t texts values h =
    let g = grouped_from t None texts values h in
    (g.found, record { lines = g.lines; read = g.read; grouped = g.grouped }, g.refs)

-- ---- and groups are read

-- an open ref line that is followed by a ref line is alone
pub first_alone : (m : NamedRef) (object name : List ℕ) (ls : List V1Line) (gs : List Group)
    → (names m.object m.name ∷ names object name ∷ ls) ≡ lines_in gs
    → (others : List Group) × (gs ≡ alone m ∷ others) × ((names object name ∷ ls) ≡ lines_in others)
first_alone m object name ls [] h = cc
first_alone m object name ls (alone n ∷ gs) h =
    let o : m.object ≡ n.object = cc in
    let x : m.name ≡ n.name = cc in
    let rest : (names object name ∷ ls) ≡ lines_in gs = cc in
    (gs, ap (λ k. alone k ∷ gs) (sym (same_named m n o x)), rest)
first_alone m object name ls (with_peeled n left base ∷ gs) h = cc

-- no group begins with a peeled line
pub no_peels_first : (left base : List ℕ) (ls : List V1Line) (gs : List Group) → (peels left base ∷ ls) ≡ lines_in gs → ⊥
no_peels_first left base ls [] h = cc
no_peels_first left base ls (alone n ∷ gs) h = cc
no_peels_first left base ls (with_peeled n l b ∷ gs) h = cc

pub first_peeled : (m : NamedRef) (left base : List ℕ) (ls : List V1Line) (gs : List Group)
    → (names m.object m.name ∷ peels left base ∷ ls) ≡ lines_in gs
    → (others : List Group) × (gs ≡ with_peeled m left base ∷ others) × (ls ≡ lines_in others)
first_peeled m left base ls [] h = cc
first_peeled m left base ls (alone n ∷ gs) h = absurd (no_peels_first left base ls gs cc)
first_peeled m left base ls (with_peeled n l b ∷ gs) h =
    let o : m.object ≡ n.object = cc in
    let x : m.name ≡ n.name = cc in
    let y : l ≡ left = cc in
    let z : b ≡ base = cc in
    let rest : ls ≡ lines_in gs = cc in (
      gs,
      ap (λ k. with_peeled k l b ∷ gs) (sym (same_named m n o x)) ∙ ap (λ k. with_peeled m k b ∷ gs) y
          ∙ ap (λ k. with_peeled m left k ∷ gs) z,
      rest,
    )

pub first_ref : (t : List Symref) (g : Group) (gs : List Group) (values : List RefValue) → AreGroupRefs t (g ∷ gs) values
    → (v : RefValue) × (vs : List RefValue) × (values ≡ v ∷ vs) × (group_ref t g ≡ Ok v) × AreGroupRefs t gs vs
first_ref t g gs [] h = absurd h
first_ref t g gs (v ∷ vs) h = (v, vs, refl, h.0, h.1)

-- at the end one ref line may be open
pub open_at_end : (last : Option NamedRef) (gs : List Group) → open_lines last ++ [] ≡ lines_in gs → gs ≡ open_groups last
open_at_end None [] h = refl
open_at_end None (alone n ∷ gs) h = cc
open_at_end None (with_peeled n left base ∷ gs) h = cc
open_at_end (Some m) [] h = cc
open_at_end (Some m) (alone n ∷ []) h =
    let o : m.object ≡ n.object = cc in
    let x : m.name ≡ n.name = cc in
    ap (λ k. alone k ∷ []) (sym (same_named m n o x))
open_at_end (Some m) (alone n ∷ alone k ∷ gs) h = cc
open_at_end (Some m) (alone n ∷ with_peeled k left base ∷ gs) h = cc
open_at_end (Some m) (with_peeled n left base ∷ gs) h = cc

open_refs : (t : List Symref) (last : Option NamedRef) (values : List RefValue) → AreGroupRefs t (open_groups last) values
    → group_end (closed t last) None ≡ Ok values
open_refs t None [] h = refl
open_refs t None (v ∷ vs) h = absurd h
open_refs t (Some m) [] h = absurd h
open_refs t (Some m) (v ∷ []) h = let e = h.0 in cc
open_refs t (Some m) (v ∷ w ∷ vs) h = absurd h.1

as_ok : (xs ys : List RefValue) → xs ≡ ys → group_end xs None ≡ group_end ys None
as_ok xs ys h = ap (λ l. group_end l None) h

read_line : (t : List Symref) (last : Option NamedRef) (l : V1Line) (ls : List V1Line) (gs : List Group) (values : List RefValue)
    (rest : Option NamedRef → Result (List RefValue) RefsRefusal)
    → open_lines last ++ filter is_grouped (l ∷ ls) ≡ lines_in gs → AreGroupRefs t gs values
    → ((now : Option NamedRef) (others : List Group) (vs : List RefValue) → open_lines now ++ filter is_grouped ls ≡ lines_in others
    → AreGroupRefs t others vs → rest now ≡ Ok vs)
    → group_with t last (Ok l) rest ≡ Ok values
read_line t last nothing ls gs values rest g r f = f last gs values g r
read_line t last (shallows id) ls gs values rest g r f = f last gs values g r
read_line t None (names object name) ls gs values rest g r f = rw (f (Some (record { object = object; name = name })) gs values g r) refl
read_line t (Some m) (names object name) ls gs values rest g r f =
    let x = first_alone m object name (filter is_grouped ls) gs g in
    let y = first_ref t (alone m) x.0 values (subst (λ k. AreGroupRefs t k values) x.1 r) in
    let same : single t m ≡ y.0 = let e = y.3 in cc in
    rw (f (Some (record { object = object; name = name })) x.0 y.1 x.2 y.4)
    (as_ok (single t m ∷ y.1) values (ap (λ v. v ∷ y.1) same ∙ sym y.2))
read_line t None (peels left base) ls gs values rest g r f = absurd (no_peels_first left base (filter is_grouped ls) gs g)
read_line t (Some m) (peels left base) ls gs values rest g r f =
    let x = first_peeled m left base (filter is_grouped ls) gs g in
    let y = first_ref t (with_peeled m left base) x.0 values (subst (λ k. AreGroupRefs t k values) x.1 r) in
    let one : pair t (Some m) left base ≡ Ok y.0 = y.3 in
    rw one (rw (f None x.0 y.1 x.2 y.4) (as_ok (y.0 ∷ y.1) values (sym y.2)))

read_from : (t : List Symref) (last : Option NamedRef) (texts : List (List ℕ)) (ls : List V1Line) (gs : List Group)
    (values : List RefValue) → AreLines texts ls
    → open_lines last ++ filter is_grouped ls ≡ lines_in gs → AreGroupRefs t gs values → groups texts None t last ≡ Ok values
read_from t last [] [] gs values h g r = open_refs t last values (subst (λ k. AreGroupRefs t k values) (open_at_end last gs g) r)
read_from t last [] (l ∷ ls) gs values h g r = absurd h
read_from t last (text ∷ texts) [] gs values h g r = absurd h
read_from t last (text ∷ texts) (l ∷ ls) gs values h g r =
    let one : v1_line text ≡ Ok l = h.0 in
    rw one (read_line t last l ls gs values (λ now. groups texts None t now) g r
    (λ now others vs k s. read_from t now texts ls others vs h.1 k s))

-- groups of lines are read as their refs
pub groups_read : (t : List Symref) (texts : List (List ℕ)) (found : List Group) (values : List RefValue) → AreRefGroups texts found
    → AreGroupRefs t found values → groups texts None t None ≡ Ok values
groups_read t texts found values h r = read_from t None texts h.lines found values h.read h.grouped r
