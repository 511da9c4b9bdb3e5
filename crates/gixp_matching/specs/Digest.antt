-- SipHash-2-4 with a fixed key, of the parts of mappings that are compared.
use Rattle.std.specs.Prelude.{ℕ, ◌+◌, ◌-◌, ◌*◌, ◌/◌, ◌%◌, ◌^◌, List, length, drop, Option, Some, None, bit_xor}
use Rattle.std.specs.Int.{w64, rotate_left, from_le_bytes}
use Rattle.std.specs.List.{fold}
use Rattle.std.specs.Simd.{first_chunks}
use Rattle.std.specs.Borrow.{Bor}
use Rattle.gixp_matching.specs.declared.match_group.digest.State.{State}
use Rattle.gixp_matching.specs.declared.match_group.key.KeyBytes.{KeyBytes}
use Rattle.gixp_matching.specs.declared.match_group.key.KeySource.{KeySource}
use Rattle.gixp_matching.specs.Apart.{key_parts}
use Rattle.gixp_matching.specs.Mappings.{Source, FullName, ObjectId}

-- a number with a byte appended
abbrev pub step : ℕ → ℕ → ℕ
step number byte = (number * 256 % 2 ^ 64 + byte) % 2 ^ 64

-- the last eight bytes as a number
unfoldable pub tail : List ℕ → ℕ
tail name = fold step 0 (drop (length name - 8) name)

-- the sum of two words, and the second word rotated and mixed with it
unfoldable pub turned : ℕ → ℕ → ℕ → ℕ × ℕ
turned x y count = ((x + y) % 2 ^ 64, bit_xor (rotate_left w64 y count) ((x + y) % 2 ^ 64))

-- one round on the four words
unfoldable pub round : State → State
round s =
    let ab = turned s.a s.b 13 in
    let cd = turned s.c s.d 16 in
    let ad = turned (rotate_left w64 ab.0 32) cd.1 21 in
    let cb = turned cd.0 ab.1 17 in
    record { a = ad.0; b = cb.1; c = rotate_left w64 cb.0 32; d = ad.1 }

-- the state after one more word
unfoldable pub absorbed : State → ℕ → State
absorbed s word =
    let mixed = round (round (record { a = s.a; b = s.b; c = s.c; d = bit_xor s.d word })) in
    record { a = bit_xor mixed.a word; b = mixed.b; c = mixed.c; d = mixed.d }

-- the state after the eight bytes of one more word
abbrev pub with_word : State → List ℕ → State
with_word s word = absorbed s (from_le_bytes w64 word)

-- the state after more bytes and their count
unfoldable pub with_bytes : State → List ℕ → State
with_bytes s bytes =
    absorbed (fold with_word s (first_chunks 8 (length bytes / 8) bytes)) (fold step (length bytes) (drop (length bytes / 8 * 8) bytes))

abbrev pub start : State
start = record { a = 8317987319222330741; b = 7237128888997146477; c = 7816392313619706465; d = 8387220255154660723 }

-- the hash of a state
unfoldable pub number_of : State → ℕ
number_of s =
    let last = round (round (round (round (record { a = s.a; b = s.b; c = bit_xor s.c 255; d = s.d })))) in
    bit_xor (bit_xor (bit_xor last.a last.b) last.c) last.d

-- the hash of some bytes
abbrev pub digest : List ℕ → ℕ
digest bytes = number_of (with_bytes start bytes)

abbrev pub bytes_of : Source → List ℕ
bytes_of (FullName name) = name
bytes_of (ObjectId id) = id

-- the hash of a source and a local name
abbrev pub parts_digest : Source × Option (List ℕ) → ℕ
parts_digest (source, None) = digest (bytes_of source)
parts_digest (source, Some local) = number_of (with_bytes (with_bytes start (bytes_of source)) local)

-- a source and a local name with their hash
abbrev pub with_digest : Source × Option (List ℕ) → ℕ × (Source × Option (List ℕ))
with_digest p = (parts_digest p, p)

-- the hash and the parts of a key
abbrev pub number_parts : ℕ × Bor (KeySource × Option KeyBytes) → ℕ × (Source × Option (List ℕ))
number_parts row = (row.0, key_parts row.1.now)
