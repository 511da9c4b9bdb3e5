-- The instruction of a refspec, as plain data.
use Rattle.std.specs.Prelude.{ℕ, Bool, List}
use Rattle.bstr.specs.BStr.{bstr_bytes}
use Rattle.gixp_refspec.specs.declared.instruction.Instruction.{Instruction}
use Rattle.gixp_refspec.specs.declared.instruction.Instruction.TheVariants.{Fetch}
use Rattle.gixp_refspec.specs.declared.instruction.Fetch.TheVariants.{Only, AndUpdate, Exclude as Excludes}

pub data InstructionValue : Type 0 where
  only : (source : List ℕ) → InstructionValue
  updates : (source destination : List ℕ) → (forced : Bool) → InstructionValue
  leaves_out : (source : List ℕ) → InstructionValue

abbrev pub instruction_value : Instruction → InstructionValue
instruction_value (Fetch (Only src)) = only (bstr_bytes src)
instruction_value (Fetch (AndUpdate src dst force)) = updates (bstr_bytes src) (bstr_bytes dst) force
instruction_value (Fetch (Excludes src)) = leaves_out (bstr_bytes src)
