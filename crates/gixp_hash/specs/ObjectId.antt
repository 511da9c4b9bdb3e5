-- Object ids and their text (gitprotocol-common, "ABNF Notation", obj-id).
use Rattle.std.specs.Prelude.{◌≡◌, ◌≢◌, ℕ, ◌==◌, if◌then◌else◌, List, length, Option, None, refl}
use Rattle.std.specs.Result.{result_ok}
use Rattle.std.specs.declared.cmp.Ordering.{Ordering}
use Rattle.std.specs.Ordering.{nat_cmp}
use Rattle.std.specs.Cmp.Lexicographic.{slice_cmp}
use Rattle.std.specs.Coded.{Coded, code_by, coded_ℕ, coded_list}
use Rattle.hex.specs.Hex.{decode_of}
use Rattle.gixp_hash.specs.declared.decode.Error.{Error}
use Rattle.gixp_hash.specs.declared.decode.Error.TheVariants.{InvalidLength, InvalidDigit}
use Rattle.gixp_hash.specs.declared.object_id.ObjectId.{ObjectId}

-- the 20 bytes that 40 hexadecimal digits of either case encode
abbrev pub id_of : List ℕ → Option (List ℕ)
id_of text = if length text == 40 then result_ok (decode_of text) else None

-- why a text is no id; the length is checked first
abbrev pub IsIdRefusal : List ℕ → Error → Type 0
IsIdRefusal text (InvalidLength n) = (n ≡ length text) × (n ≢ 40)
IsIdRefusal text InvalidDigit = (length text ≡ 40) × (id_of text ≡ None)

-- ids are ordered by their bytes, from the first one on
abbrev pub id_cmp : ObjectId → ObjectId → Ordering
id_cmp a b = slice_cmp nat_cmp a.bytes b.bytes

-- an id as a key of a map: its bytes
abbrev pub coded_id : Coded ObjectId
coded_id = code_by (List ℕ) (coded_list coded_ℕ) (λ d. d.bytes) (λ bytes. record { bytes = bytes }) (λ _. refl)
