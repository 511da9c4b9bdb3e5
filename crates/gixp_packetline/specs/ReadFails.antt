-- Why a call that reads lines returns an error. The cases are the same for each kind of lines.
use Rattle.std.specs.Prelude.{◌≡◌, ◌⊎◌, Bool, true, false, None, IfSome}
use Rattle.gixp_packetline.specs.Pieces.{Refusal, Pieces}
use Rattle.gixp_packetline.specs.Reading.{Reading, Refuses, IsOutside, IsPlain}

-- the errors of a call, and how contracts compare them
pub record Errors (E R : Type 0) : Type 0 where
  -- an error, as contracts compare it
  pub refusal : E → R
  -- the error that passes on a reader's error
  pub from_reader : Refusal → R
  pub memory : E
  pub is_no_memory : R → Bool

-- the error is this one, unless an allocation failed
abbrev pub ErrorIs : {E R : Type 0} → Errors E R → E → R → Type 0
ErrorIs errors e r = errors.is_no_memory (errors.refusal e) ≡ false → errors.refusal e ≡ r

-- `Read old new taken`: the call took this between the two states, and did nothing else
module _ {E R T : Type 0} (errors : Errors E R) (Read : Reading → Reading → T → Type 0) where
  -- after these lines the reader met an I/O error, which it counts, an interrupt or an allocation failure
  pub record ReaderFailed (plain : Bool) (old new : Reading) (e : E) : Type 0 where
    pub taken : T
    pub now : Reading
    pub read : Read old now taken
    pub refusal : Refusal
    pub failed : IsOutside now new refusal
    pub is_plain : plain ≡ true → IsPlain new refusal
    pub error : errors.refusal e ≡ errors.from_reader refusal

  -- an allocation failed for the values of the lines taken
  pub record NoMemory (old new : Reading) (e : E) : Type 0 where
    pub taken : T
    pub read : Read old new taken
    pub stopped : new.stopped ≡ None
    pub error : e ≡ errors.memory

-- `First`: the first error of the packet lines to come. `IsLast`: it is the error of the last line or stop taken.
module _ {E R T : Type 0} (errors : Errors E R) (Read : Reading → Reading → T → Type 0) (First : Reading → Pieces → R → Type 0)
    (IsLast : T → R → Reading → Type 0) where
  -- the first error comes from a line, or from a stop in place of a line, and nothing after it was taken
  pub record LineRefused (old new : Reading) (e : E) : Type 0 where
    pub taken : T
    pub read : Read old new taken
    pub refusal : R
    pub last : IsLast taken refusal new
    pub first : IfSome old.to_come (λ p. First old p refusal)
    pub error : ErrorIs errors e refusal

  -- the first error is the reader's own, which every later call returns
  pub record ReaderRefused (old new : Reading) (e : E) : Type 0 where
    pub taken : T
    pub now : Reading
    pub read : Read old now taken
    pub refusal : Refusal
    pub refused : Refuses now new refusal
    pub first : IfSome old.to_come (λ p. First old p (errors.from_reader refusal))
    pub error : errors.refusal e ≡ errors.from_reader refusal

  -- an error of a call: the first error of the stream, or an I/O error, an interrupt or an allocation failure; a plain
  -- reader has fewer of these
  abbrev pub ReadFails : Bool → Reading → Reading → E → Type 0
  ReadFails plain old new e =
      LineRefused old new e ⊎ ReaderRefused old new e ⊎ ReaderFailed errors Read plain old new e ⊎ NoMemory errors Read old new e
