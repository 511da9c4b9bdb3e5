-- The groups of lines of a reference advertisement of version 0 or 1, as a list (gitprotocol-pack, "Reference Discovery").
use Rattle.std.specs.Prelude.{◌≡◌, ◌⊎◌, ℕ, ⊤, Bool, true, false, List, [], ◌∷◌, ◌++◌, filter, Option, Some, None, Result, Ok, Err}
use Rattle.gixp_refs.specs.Ref.{RefValue}
use Rattle.gixp_refs.specs.RefLine.{RefsRefusal}
use Rattle.gixp_refs.specs.RefAdvertisement.{Symref, V1Line, peels, names, v1_line, NamedRef, single, pair}

-- a ref line alone, or with its peeled line
pub data Group : Type 0 where
  alone : NamedRef → Group
  with_peeled : NamedRef → (left base : List ℕ) → Group

abbrev pub group_lines : Group → List V1Line
group_lines (alone n) = names n.object n.name ∷ []
group_lines (with_peeled n left base) = names n.object n.name ∷ peels left base ∷ []

-- the lines of these groups
abbrev pub lines_in : List Group → List V1Line
lines_in [] = []
lines_in (g ∷ gs) = group_lines g ++ lines_in gs

-- the capabilities line and shallow lines belong to no group, wherever they occur
abbrev pub is_grouped : V1Line → Bool
is_grouped (names object name) = true
is_grouped (peels left base) = true
is_grouped _ = false

-- each line has this meaning
abbrev pub AreLines : List (List ℕ) → List V1Line → Type 0
AreLines [] [] = ⊤
AreLines [] (l ∷ ls) = ⊥
AreLines (t ∷ ts) [] = ⊥
AreLines (t ∷ ts) (l ∷ ls) = (v1_line t ≡ Ok l) × AreLines ts ls

-- the texts are the lines of these groups, and lines that belong to no group
pub record AreRefGroups (texts : List (List ℕ)) (gs : List Group) : Type 0 where
  pub lines : List V1Line
  pub read : AreLines texts lines
  pub grouped : filter is_grouped lines ≡ lines_in gs

-- the ref of a group, or its error
abbrev pub group_ref : List Symref → Group → Result RefValue RefsRefusal
group_ref t (alone n) = Ok (single t n)
group_ref t (with_peeled n left base) = pair t (Some n) left base

-- each group has this ref
abbrev pub AreGroupRefs : List Symref → List Group → List RefValue → Type 0
AreGroupRefs t [] [] = ⊤
AreGroupRefs t [] (v ∷ vs) = ⊥
AreGroupRefs t (g ∷ gs) [] = ⊥
AreGroupRefs t (g ∷ gs) (v ∷ vs) = (group_ref t g ≡ Ok v) × AreGroupRefs t gs vs

-- the ref line of the last group, if it has no peeled line
abbrev pub open_in : List Group → Option NamedRef
open_in [] = None
open_in (alone n ∷ []) = Some n
open_in (with_peeled n left base ∷ []) = None
open_in (g ∷ h ∷ gs) = open_in (h ∷ gs)

-- the next line, or the end of the lines, is an error; so is a peeled line that makes no ref with the open ref line
abbrev pub NextRefused : List Symref → Option NamedRef → List (List ℕ) → Option RefsRefusal → RefsRefusal → Type 0
NextRefused t last [] end e = end ≡ Some e
NextRefused t last (text ∷ texts) end e =
    (v1_line text ≡ Err e) ⊎ ((left base : List ℕ) × (v1_line text ≡ Ok (peels left base)) × (pair t last left base ≡ Err e))

-- the lines of some groups with their refs, and the first error after them
pub record AreRefusedAfter (t : List Symref) (texts : List (List ℕ)) (end : Option RefsRefusal) (e : RefsRefusal) : Type 0 where
  pub taken : List (List ℕ)
  pub more : List (List ℕ)
  pub split : texts ≡ taken ++ more
  pub groups : List Group
  pub are_groups : AreRefGroups taken groups
  pub values : List RefValue
  pub refs : AreGroupRefs t groups values
  pub next : NextRefused t (open_in groups) more end e
