-- A ref as plain data, and its parts (gitprotocol-v2, "ls-refs").
use Rattle.std.specs.Prelude.{ℕ, List, Option, Some, None}
use Rattle.bstr.specs.Owned.{bstring_bytes}
use Rattle.gixp_hash.specs.declared.object_id.ObjectId.{ObjectId}
use Rattle.gixp_refs.specs.declared.handshake.Ref.{Ref}
use Rattle.gixp_refs.specs.declared.handshake.Ref.TheVariants.{Peeled, Direct, Symbolic, Unborn}

-- a ref: names and ids are lists of bytes
pub data RefValue : Type 0 where
  peeled : (name tag object : List ℕ) → RefValue
  direct : (name object : List ℕ) → RefValue
  symbolic : (name target : List ℕ) (tag : Option (List ℕ)) (object : List ℕ) → RefValue
  unborn : (name target : List ℕ) → RefValue

abbrev pub ref_value : Ref → RefValue
ref_value (Peeled name tag object) = peeled (bstring_bytes name) tag.bytes object.bytes
ref_value (Direct name object) = direct (bstring_bytes name) object.bytes
ref_value (Symbolic name target None object) = symbolic (bstring_bytes name) (bstring_bytes target) None object.bytes
ref_value (Symbolic name target (Some tag) object) = symbolic (bstring_bytes name) (bstring_bytes target) (Some tag.bytes) object.bytes
ref_value (Unborn name target) = unborn (bstring_bytes name) (bstring_bytes target)

abbrev pub unpacked_name : Ref → List ℕ
unpacked_name (Peeled name tag object) = bstring_bytes name
unpacked_name (Direct name object) = bstring_bytes name
unpacked_name (Symbolic name target tag object) = bstring_bytes name
unpacked_name (Unborn name target) = bstring_bytes name

-- the object that a ref points to, which may be a tag
abbrev pub unpacked_target : Ref → Option ObjectId
unpacked_target (Peeled name tag object) = Some tag
unpacked_target (Direct name object) = Some object
unpacked_target (Symbolic name target None object) = Some object
unpacked_target (Symbolic name target (Some tag) object) = Some tag
unpacked_target (Unborn name target) = None

-- the object that a tag points to
abbrev pub unpacked_peeled : Ref → Option ObjectId
unpacked_peeled (Peeled name tag object) = Some object
unpacked_peeled (Symbolic name target (Some tag) object) = Some object
unpacked_peeled _ = None
