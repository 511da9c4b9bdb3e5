-- The text of a shallow boundary, as git stores it in `shallow`: a line of 40 hexadecimal digits for each id.
use Rattle.std.specs.Prelude.{◌≡◌, ℕ, ◌==◌, ⊤, if◌then◌else◌, List, [], ◌∷◌, ◌++◌, length, None, Some, IsSome}
use Rattle.std.specs.List.{All, AllZip}
use Rattle.hex.specs.Hex.{encode_lower, IsBytes}
use Rattle.bstr.specs.Owned.{bstring_bytes}
use Rattle.gixp_hash.specs.ObjectId.{id_of}
use Rattle.gixp_hash.specs.declared.object_id.ObjectId.{ObjectId}
use Rattle.gixp_shallow.specs.declared.store.ShallowError.{ShallowError}
use Rattle.gixp_shallow.specs.declared.store.ShallowError.TheVariants.{Io, Locked, Decode, Memory}
use Rattle.gixp_shallow.specs.Boundary.{IsSetOf}

-- a line for each id: its digits in lower case, and LF
abbrev pub text_of : List ObjectId → List ℕ
text_of [] = []
text_of (id ∷ ids) = encode_lower id.bytes ++ 10 ∷ text_of ids

-- the text of the ids of a list, sorted, each once
pub record IsTextOf (ids : List ObjectId) (text : List ℕ) : Type 0 where
  pub set : List ObjectId
  pub is_set : IsSetOf ids set
  pub is_text : text ≡ text_of set

abbrev pub in_first : ℕ → List (List ℕ) → List (List ℕ)
in_first b [] = (b ∷ []) ∷ []
in_first b (line ∷ rest) = (b ∷ line) ∷ rest

-- the lines of a text without their LFs; the last line may lack its LF
abbrev pub lines : List ℕ → List (List ℕ)
lines [] = []
lines (b ∷ bs) = if b == 10 then [] ∷ lines bs else in_first b (lines bs)

-- a line is the hexadecimal digits of an id, in either case
abbrev pub IsIdOf : List ℕ → ObjectId → Type 0
IsIdOf line id = id_of line ≡ Some id.bytes

-- each line is an id; these ids, sorted, each once
pub record ReadsIds (text : List ℕ) (set : List ObjectId) : Type 0 where
  pub ids : List ObjectId
  pub each : AllZip IsIdOf (lines text) ids
  pub is_set : IsSetOf ids set

-- a line is not an id, or an allocation failed
abbrev pub IsNoId : List ℕ → ShallowError → Type 0
IsNoId line (Decode text) = (id_of line ≡ None) × (bstring_bytes text ≡ line)
IsNoId line Memory = ⊤
IsNoId line (Io kind) = ⊥
IsNoId line Locked = ⊥

-- the first line that is not an id, or an allocation failure
abbrev pub IdTextFails : List ℕ → ShallowError → Type 0
IdTextFails text (Decode found) = (before : List (List ℕ)) × (line : List ℕ) × (following : List (List ℕ))
    × (lines text ≡ before ++ line ∷ following) × All (λ l. IsSome (id_of l)) before × (id_of line ≡ None) × (bstring_bytes found ≡ line)
IdTextFails text Memory = ⊤
IdTextFails text (Io kind) = ⊥
IdTextFails text Locked = ⊥

abbrev pub IsId : ObjectId → Type 0
IsId id = (length id.bytes ≡ 20) × IsBytes id.bytes
