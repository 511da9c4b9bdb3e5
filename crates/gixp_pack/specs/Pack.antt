-- A whole pack: a header, entries, and the SHA-1 of both (gitformat-pack, "pack-*.pack files have the following format").
use Rattle.std.specs.Prelude.{ℕ, ◌-◌, ◌^◌, ◌==◌, ◌||◌, Bool, if◌then◌else◌, nat_lt, min, List, length, take, drop, codes, Result, Ok, Err}
use Rattle.std.specs.Int.{w32, from_be_bytes}
use Rattle.std.specs.Str.{bytes_eq}
use Rattle.sha1.specs.Sha1.{sha1}
use Rattle.gixp_pack.specs.declared.check.PackSummary.{PackSummary}
use Rattle.gixp_pack.specs.declared.check.CheckError.{CheckError}
use Rattle.gixp_pack.specs.declared.check.CheckError.TheVariants.{Short, Signature, Version, Checksum}

-- the big-endian number in the four bytes from this offset on
abbrev pub word_at : ℕ → List ℕ → ℕ
word_at at bytes = from_be_bytes w32 (take 4 (drop at bytes))

-- the number of objects, for version 2 or 3
abbrev pub objects_in : (version count : ℕ) → Result ℕ CheckError
objects_in version count = if version == 2 || version == 3 then Ok count else Err (Version version)

-- the number of objects in a header of 12 bytes: `PACK`, the version and the number
abbrev pub objects_of : List ℕ → Result ℕ CheckError
objects_of header =
    if nat_lt (length header) 12 then Err Short
    else if bytes_eq (take 4 header) (codes "PACK") then objects_in (word_at 4 header) (word_at 8 header)
    else Err Signature

-- whether the last 20 bytes are the SHA-1 of those before them
abbrev pub has_trailer : List ℕ → Bool
has_trailer bytes = bytes_eq (sha1 (take (length bytes - 20) bytes)) (drop (length bytes - 20) bytes)

-- the summary of a pack with this many objects, if its trailer is right
abbrev pub sealed : List ℕ → Result ℕ CheckError → Result PackSummary CheckError
sealed bytes (Err e) = Err e
sealed bytes (Ok objects) = if has_trailer bytes then Ok (record { bytes = min (length bytes) (2 ^ 64 - 1); objects = objects })
    else Err Checksum

-- the summary of these bytes as a pack, or their fault
abbrev pub pack_of : List ℕ → Result PackSummary CheckError
pack_of bytes = if nat_lt (length bytes) 32 then Err Short else sealed bytes (objects_of (take 12 bytes))
