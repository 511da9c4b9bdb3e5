-- What the allocator is told of len bytes.
use Rattle.std.proofs.Common.{◌≡◌, ℕ, ◌*◌, ◌^◌, ◌<◌, ap, ◌∙◌, arith}
use mir.Syntax.{Ty, ty_int, ty_array, w8}
use prog.Capped.{capped_is}
use prog.Memory.{capped}
use prog.RawLaws.{size-raw, align-raw}
use denote.Builtin.{u8}
use Rattle.std.specs.Allocator.{HasLayout, array_of}

-- their size is len, and their alignment is 1
pub layout : (len : ℕ) → len < 2 ^ 64 → HasLayout (array_of u8 len) len 1
layout len fits =
    let bytes : Ty = ty_array (ty_int w8) len in
    let whole : len * 1 ≡ len = omega arith in
    (ap capped (size-raw bytes) ∙ ap capped whole ∙ capped_is len fits, ap capped (align-raw bytes))
