-- Whether a pack is kept or its objects are unpacked (git-config, "fetch.unpackLimit",
-- "transfer.unpackLimit").
use Rattle.std.specs.Prelude.{ℕ, ◌==◌, ◌&&◌, ◌||◌, not, nat_eq, nat_lt, Bool, if◌then◌else◌, List, ◌∷◌, ◌++◌, length, take, drop, codes, Option, Some, None, unwrap_or}
use Rattle.std.specs.Int.{w32, from_be_bytes}
use Rattle.std.specs.Str.{bytes_eq}
use Rattle.std.specs.List.{starts_with, position}
use Rattle.gixp_remote_rules.specs.HelperOptions.{HelperOptionsValue}
use Rattle.gixp_remote_rules.specs.Number.{number_of}
use Rattle.gixp_remote_rules.specs.Argv.{arg_if, shallow_argv}

-- without the line feed (10)
abbrev pub until_offset_of : List ℕ → Option ℕ → List ℕ
until_offset_of text None = text
until_offset_of text (Some at) = take at text

abbrev pub without_line_end : List ℕ → List ℕ
without_line_end text = until_offset_of text (position (λ b. b == 10) text)

-- a negative number is no limit; a number that doesn't fit is larger than any pack
abbrev pub parse_limit : List ℕ → Option ℕ
parse_limit text =
    if starts_with nat_eq text (codes "-") then None else Some (unwrap_or (number_of (without_line_end text)) 4294967295)

-- `transfer.unpackLimit` overrides `fetch.unpackLimit`; the default is 100
abbrev pub unpack_limit : Option ℕ → Option ℕ → ℕ
unpack_limit (Some transfer) fetch = transfer
unpack_limit None fetch = unwrap_or fetch 100

-- the pack of a clone, promised objects and checked objects are never unpacked
abbrev pub may_unpack : HelperOptionsValue → Bool → Bool
may_unpack c has_checks = not c.is_cloning && not c.is_from_promisor && not has_checks

-- with a limit of 0 every pack is unpacked
abbrev pub unpacks : ℕ → ℕ → Bool
unpacks limit count = limit == 0 || nat_lt count limit

-- the big-endian number in the four bytes at an offset
abbrev pub u32_at : ℕ → List ℕ → ℕ
u32_at at bytes = from_be_bytes w32 (take 4 (drop at bytes))

abbrev pub count_by : ℕ → ℕ → Option ℕ
count_by version count = if version == 2 || version == 3 then Some count else None

-- the number of objects in the header of a pack (gitformat-pack): 12 bytes, which are `PACK`, the
-- version and the number
abbrev pub pack_count : List ℕ → Option ℕ
pack_count header =
    if not (length header == 12) || not (bytes_eq (take 4 header) (codes "PACK")) then None
    else count_by (u32_at 4 header) (u32_at 8 header)

-- git unpack-objects, with a boundary in another file than the repository's
abbrev pub unpack_argv : Option (List ℕ) → Bool → List (List ℕ)
unpack_argv shallow shows_progress = shallow_argv shallow ++ (codes "unpack-objects" ∷ arg_if (not shows_progress) (codes "-q"))
