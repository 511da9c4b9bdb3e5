-- The memory that `gixp_take` hands to its caller, and that `gixp_give` takes back.
use Prim.Native.Nat.{ℕ, zero, suc}
use base.Fml.{Fml, ftrue}
use denote.RawPtr.{Ptr}
use denote.Builtin.{u8}
use Rattle.std.specs.Allocator.{owned_block, array_of}
use Rattle.std.specs.Global.{Global}
use Rattle.std.specs.contracts.impls.GlobalAllocator.TheImpl.{ghosts}

-- ownership of len bytes at p, whatever they hold, and the right to give them back
abbrev pub Bytes : Global → ℕ → Ptr → Fml
Bytes alloc len p = owned_block (ghosts.dealloc_token alloc) (array_of u8 len) p

-- the same if the call returned 0, and nothing if it returned an error
abbrev pub BytesIfTaken : Global → ℕ → ℕ → Ptr → Fml
BytesIfTaken alloc len zero p = Bytes alloc len p
BytesIfTaken alloc len (suc code) p = ftrue
