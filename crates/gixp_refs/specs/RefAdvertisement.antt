-- The reference advertisement of versions 0 and 1 (gitprotocol-pack, "Reference Discovery").
use Rattle.std.specs.Prelude.{◌≡◌, ℕ, ◌-◌, ◌==◌, ◌&&◌, if◌then◌else◌, List, [], ◌∷◌, ◌++◌, length, take, drop, find, codes, Option, Some, None, Result, Ok, Err}
use Rattle.std.specs.List.{list_all}
use Rattle.std.specs.Option.{option_map}
use Rattle.std.specs.Char.{is_whitespace}
use Rattle.bstr.specs.Trim.{trim_end_by}
use Rattle.gixp_capabilities.specs.Capabilities.{CapabilityValue}
use Rattle.gixp_packetline.specs.Lines.{Ending, stop, refusal, Lines}
use Rattle.gixp_shallow.specs.declared.update.ShallowUpdate.{ShallowUpdate}
use Rattle.gixp_shallow.specs.declared.update.ShallowUpdate.TheVariants.{Shallow}
use Rattle.gixp_capabilities.specs.Cut.{cut}
use Rattle.gixp_refs.specs.Ref.{RefValue, peeled}
use Rattle.gixp_refs.specs.RefLine.{RefsRefusal, malformed_symref, malformed_v1, invariant, refusal_from, id_value, and_then, target_of, born}
use Rattle.gixp_capabilities.specs.Capabilities.{is_text}
use Rattle.gixp_refs.specs.Refs.{with_ref}

-- a symbolic ref; it has no target where the server sent `(null)`
pub record Symref : Type 0 where
  pub name : List ℕ
  pub target : Option (List ℕ)

abbrev pub made_symref : List ℕ → List ℕ → Result Symref RefsRefusal
made_symref name target = Ok (record { name = name; target = target_of (Some target) })

-- the value of a capability `symref`: a name, a colon, and a target
abbrev pub symref_by : List ℕ → List ℕ × Option (List ℕ) → Result Symref RefsRefusal
symref_by value (name, None) = Err (malformed_symref value)
symref_by value ([], Some target) = Err (malformed_symref value)
symref_by value (x ∷ xs, Some []) = Err (malformed_symref value)
symref_by value (x ∷ xs, Some (y ∷ ys)) = made_symref (x ∷ xs) (y ∷ ys)

abbrev pub symref_of : Option (List ℕ) → Result (Option Symref) RefsRefusal
symref_of None = Ok None
symref_of (Some value) = and_then (symref_by value (cut 58 value)) (λ s. Ok (Some s))

-- the symref of a capability, if it is a `symref` with a value
abbrev pub symref_in : CapabilityValue → Result (Option Symref) RefsRefusal
symref_in c = if is_text c.name (codes "symref") then symref_of c.value else Ok None

-- a symref before the others, or its error before theirs
abbrev pub with_symref : Result (Option Symref) RefsRefusal → Result (List Symref) RefsRefusal → Result (List Symref) RefsRefusal
with_symref (Err e) rest = Err e
with_symref (Ok None) rest = rest
with_symref (Ok (Some s)) (Ok ss) = Ok (s ∷ ss)
with_symref (Ok (Some s)) (Err e) = Err e

-- the symrefs of the capabilities in their order, or the first error
abbrev pub symref_table : List CapabilityValue → Result (List Symref) RefsRefusal
symref_table [] = Ok []
symref_table (c ∷ cs) = with_symref (symref_in c) (symref_table cs)

-- the meaning of a line: nothing, the peeled value of a tag, a ref, or a shallow update
pub data V1Line : Type 0 where
  nothing : V1Line
  peels : (left base : List ℕ) → V1Line
  names : (object name : List ℕ) → V1Line
  shallows : List ℕ → V1Line

-- a line of zeros and `capabilities^{}` only carries the capabilities of a repository without refs
abbrev pub peeled_line : List ℕ → List ℕ → V1Line
peeled_line left base = if list_all (λ b. b == 48) left && is_text base (codes "capabilities") then nothing else peels left base

abbrev pub plain_line : List ℕ → List ℕ → Result (List ℕ) RefsRefusal → Result V1Line RefsRefusal
plain_line left path (Ok object) = Ok (names object path)
plain_line left path (Err e) = if is_text left (codes "shallow") then and_then (id_value path) (λ id. Ok (shallows id)) else Err e

-- the meaning of a line by its path: a path that ends in `^{}` is peeled
abbrev pub line_by_path : List ℕ → List ℕ → Result V1Line RefsRefusal
line_by_path left path =
    if is_text (drop (length path - 3) path) (codes "^{}") then Ok (peeled_line left (take (length path - 3) path))
    else plain_line left path (id_value left)

abbrev pub line_by_parts : List ℕ → List ℕ × Option (List ℕ) → Result V1Line RefsRefusal
line_by_parts text (left, None) = Err (malformed_v1 text)
line_by_parts text (left, Some []) = Err (malformed_v1 text)
line_by_parts text (left, Some (x ∷ xs)) = line_by_path left (x ∷ xs)

-- a line is split at its first blank; white space at its end is ignored
abbrev pub v1_line : List ℕ → Result V1Line RefsRefusal
v1_line line = let text = trim_end_by is_whitespace line in line_by_parts text (cut 32 text)

-- a ref line that a peeled line may follow
pub record NamedRef : Type 0 where
  pub object : List ℕ
  pub name : List ℕ

abbrev pub symref_named : List Symref → List ℕ → Option Symref
symref_named t name = find (λ s. is_text s.name name) t

abbrev pub reported_target : Option Symref → Option (List ℕ)
reported_target None = None
reported_target (Some s) = s.target

-- the target of the first symref of this name, if there is one
abbrev pub target_named : List Symref → List ℕ → Option (Option (List ℕ))
target_named t name = option_map (λ (s : Symref). s.target) (symref_named t name)

-- two lists have the same first symref for each name
abbrev pub TellAlike : List Symref → List Symref → Type 0
TellAlike t u = (name : List ℕ) → target_named t name ≡ target_named u name

-- the ref of a ref line without a peeled line, by the first symref of its name
abbrev pub single : List Symref → NamedRef → RefValue
single t n = born n.name n.object (reported_target (symref_named t n.name)) None

abbrev pub not_preceded : RefsRefusal
not_preceded = invariant (codes "Expecting peeled refs to be preceded by direct refs")

abbrev pub other_base : RefsRefusal
other_base = invariant (codes "Expecting peeled refs to have the same base path as the previous, unpeeled one")

-- the ref of a ref line whose name is not a symref, with its peeled line
abbrev pub pair_by : Option Symref → NamedRef → List ℕ → List ℕ → Result RefValue RefsRefusal
pair_by (Some s) n left base = Err not_preceded
pair_by None n left base = if is_text n.name base then and_then (id_value left) (λ object. Ok (peeled n.name n.object object))
    else Err other_base

abbrev pub pair : List Symref → Option NamedRef → List ℕ → List ℕ → Result RefValue RefsRefusal
pair t None left base = Err not_preceded
pair t (Some n) left base = pair_by (symref_named t n.name) n left base

-- the ref of the last ref line, if no peeled line has followed it
abbrev pub closed : List Symref → Option NamedRef → List RefValue
closed t None = []
closed t (Some n) = single t n ∷ []

-- these refs before the others
abbrev pub in_front : {A : Type 0} → List A → Result (List A) RefsRefusal → Result (List A) RefsRefusal
in_front xs (Ok ys) = Ok (xs ++ ys)
in_front xs (Err e) = Err e

-- the refs of one line, after a ref line that is still open or none, and of the groups after it
abbrev pub group_with : List Symref → Option NamedRef → Result V1Line RefsRefusal
    → (Option NamedRef → Result (List RefValue) RefsRefusal) → Result (List RefValue) RefsRefusal
group_with t last (Err e) rest = Err e
group_with t last (Ok nothing) rest = rest last
group_with t last (Ok (shallows id)) rest = rest last
group_with t last (Ok (names object name)) rest = in_front (closed t last) (rest (Some (record { object = object; name = name })))
group_with t last (Ok (peels left base)) rest = with_ref (pair t last left base) (rest None)

-- the error at the end of the lines; none at a stop
abbrev pub end_refusal : Ending → Option RefsRefusal
end_refusal (stop kind rest) = None
end_refusal (refusal e) = Some (refusal_from e)

abbrev pub group_end : List RefValue → Option RefsRefusal → Result (List RefValue) RefsRefusal
group_end vs None = Ok vs
group_end vs (Some e) = Err e

-- the refs of the groups: a ref line, or a ref line and its peeled line; or the first error of a line or of the end
abbrev pub groups : List (List ℕ) → Option RefsRefusal → List Symref → Option NamedRef → Result (List RefValue) RefsRefusal
groups [] end t last = group_end (closed t last) end
groups (text ∷ texts) end t last = group_with t last (v1_line text) (λ now. groups texts end t now)

-- the refs of these lines up to a stop, or the first error
abbrev pub v1_refs : List Symref → Lines → Result (List RefValue) RefsRefusal
v1_refs t l = groups l.lines (end_refusal l.ending) t None

abbrev pub with_update : Result V1Line RefsRefusal → List ShallowUpdate → List ShallowUpdate
with_update (Ok (shallows id)) us = Shallow (record { bytes = id }) ∷ us
with_update _ us = us

-- the shallow updates of these lines, in order
abbrev pub v1_updates : List (List ℕ) → List ShallowUpdate
v1_updates [] = []
v1_updates (text ∷ texts) = with_update (v1_line text) (v1_updates texts)
