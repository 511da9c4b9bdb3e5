-- The meaning of a line of an `ls-refs` response (gitprotocol-v2, "ls-refs").
use Rattle.std.specs.Prelude.{ℕ, ◌==◌, if◌then◌else◌, List, [], ◌∷◌, length, drop, codes, Option, Some, None, Result, Ok, Err}
use Rattle.std.specs.Char.{is_whitespace}
use Rattle.std.specs.declared.io.ErrorKind.{ErrorKind}
use Rattle.bstr.specs.Trim.{trim_end_by}
use Rattle.gixp_packetline.specs.declared.packet.PacketError.{PacketError}
use Rattle.gixp_hash.specs.declared.decode.Error.{Error as IdError}
use Rattle.gixp_hash.specs.declared.decode.Error.TheVariants.{InvalidLength, InvalidDigit}
use Rattle.gixp_hash.specs.ObjectId.{id_of}
use Rattle.gixp_packetline.specs.Pieces.{Refusal, io, decode, server, memory}
use Rattle.gixp_capabilities.specs.Cut.{cut}
use Rattle.gixp_refs.specs.Ref.{RefValue, peeled, direct, symbolic, unborn}
use Rattle.gixp_capabilities.specs.Capabilities.{is_text}

-- an error of reading refs, as contracts compare it
pub data RefsRefusal : Type 0 where
  io_failed : ErrorKind → RefsRefusal
  bad_frame : PacketError → RefsRefusal
  bad_id : IdError → RefsRefusal
  malformed_symref : List ℕ → RefsRefusal
  malformed_v1 : List ℕ → RefsRefusal
  malformed_v2 : List ℕ → RefsRefusal
  unknown_attribute : (attribute line : List ℕ) → RefsRefusal
  invariant : List ℕ → RefsRefusal
  upload_pack : List ℕ → RefsRefusal
  by_reader : Refusal → RefsRefusal
  no_memory : RefsRefusal

-- the error that passes on a reader's error
abbrev pub refusal_from : Refusal → RefsRefusal
refusal_from (io kind) = io_failed kind
refusal_from (decode e) = bad_frame e
refusal_from (server message) = upload_pack message
refusal_from memory = no_memory
refusal_from other = by_reader other

-- the attributes of a line
pub record AttributeValues : Type 0 where
  pub target : Option (List ℕ)
  pub peeled : Option (List ℕ)

-- the bytes of an id, or the error of a text that is not one
abbrev pub read_id : List ℕ → Option (List ℕ) → Result (List ℕ) RefsRefusal
read_id text (Some bytes) = Ok bytes
read_id text None = Err (bad_id (if length text == 40 then InvalidDigit else InvalidLength (length text)))

abbrev pub id_value : List ℕ → Result (List ℕ) RefsRefusal
id_value text = read_id text (id_of text)

-- a second step, unless the first one failed
abbrev pub and_then : {A B : Type 0} → Result A RefsRefusal → (A → Result B RefsRefusal) → Result B RefsRefusal
and_then (Ok x) f = f x
and_then (Err e) f = Err e

abbrev pub with_peeled : AttributeValues → List ℕ → AttributeValues
with_peeled had bytes = record { target = had.target; peeled = Some bytes }

abbrev pub with_target : AttributeValues → List ℕ → AttributeValues
with_target had text = record { target = Some text; peeled = had.peeled }

-- an attribute with a nonempty value; it replaces an earlier one of its name
abbrev pub named_attribute : List ℕ → List ℕ → List ℕ → AttributeValues → Result AttributeValues RefsRefusal
named_attribute line name value had =
    if is_text name (codes "peeled") then and_then (id_value value) (λ bytes. Ok (with_peeled had bytes))
    else if is_text name (codes "symref-target") then Ok (with_target had value)
    else Err (unknown_attribute name line)

abbrev pub attribute_of : List ℕ → List ℕ × Option (List ℕ) → AttributeValues → Result AttributeValues RefsRefusal
attribute_of line (name, None) had = Err (malformed_v2 line)
attribute_of line (name, Some []) had = Err (malformed_v2 line)
attribute_of line (name, Some (x ∷ xs)) had = named_attribute line name (x ∷ xs) had

-- a piece is a name, and a value after its first colon
abbrev pub with_attribute : List ℕ → List ℕ → AttributeValues → Result AttributeValues RefsRefusal
with_attribute line piece had = attribute_of line (cut 58 piece) had

abbrev pub no_attributes : AttributeValues
no_attributes = record { target = None; peeled = None }

-- at most two attributes; the second may contain blanks
abbrev pub attributes_in : List ℕ → List ℕ × Option (List ℕ) → Result AttributeValues RefsRefusal
attributes_in line (third, None) = with_attribute line third no_attributes
attributes_in line (third, Some fourth) = and_then (with_attribute line third no_attributes) (with_attribute line fourth)

abbrev pub attributes_of : List ℕ → Option (List ℕ) → Result AttributeValues RefsRefusal
attributes_of line None = Ok no_attributes
attributes_of line (Some rest) = attributes_in line (cut 32 rest)

-- `(null)` means no target
abbrev pub target_of : Option (List ℕ) → Option (List ℕ)
target_of None = None
target_of (Some text) = if is_text text (codes "(null)") then None else Some text

-- the ref of a line with an id
abbrev pub born : List ℕ → List ℕ → Option (List ℕ) → Option (List ℕ) → RefValue
born name object None None = direct name object
born name tag None (Some object) = peeled name tag object
born name object (Some target) None = symbolic name target None object
born name tag (Some target) (Some object) = symbolic name target (Some tag) object

-- the ref of a line without an id; it needs a target other than `(null)`, and then a peeled value is ignored
abbrev pub never_born : List ℕ → Option (List ℕ) → Option (List ℕ) → Result RefValue RefsRefusal
never_born name None None = Err (invariant (codes "got 'unborn' as object name of direct reference"))
never_born name None (Some p) = Err (invariant (codes "got 'unborn' as tag target"))
never_born name (Some target) p =
    if is_text target (codes "(null)") then Err (invariant (codes "got 'unborn' while (null) was a symref target"))
    else Ok (unborn name target)

-- the ref of a line, with or without an id
abbrev pub value_of : Option (List ℕ) → List ℕ → AttributeValues → Result RefValue RefsRefusal
value_of (Some object) name a = Ok (born name object (target_of a.target) a.peeled)
value_of None name a = never_born name a.target a.peeled

-- the first piece of a line: an id, or `unborn`
abbrev pub first_piece : List ℕ → Result (Option (List ℕ)) RefsRefusal
first_piece text = if is_text text (codes "unborn") then Ok None else and_then (id_value text) (λ bytes. Ok (Some bytes))

-- the second piece of a line is the name, which is not empty
abbrev pub named : List ℕ → Option (List ℕ) → List ℕ × Option (List ℕ) → Result RefValue RefsRefusal
named line object ([], rest) = Err (malformed_v2 line)
named line object (x ∷ xs, rest) = and_then (attributes_of line rest) (value_of object (x ∷ xs))

-- a line is split at its first three blanks
abbrev pub line_value : List ℕ → List ℕ × Option (List ℕ) → Result RefValue RefsRefusal
line_value line (first, None) = Err (malformed_v2 line)
line_value line (first, Some rest) = and_then (first_piece first) (λ object. named line object (cut 32 rest))

-- the ref of a line, or its first error; white space at its end is ignored
abbrev pub v2_line : List ℕ → Result RefValue RefsRefusal
v2_line line = let trimmed = trim_end_by is_whitespace line in line_value trimmed (cut 32 trimmed)

-- the white space at the end of a line, which is ignored
abbrev pub trimmed_space : List ℕ → List ℕ
trimmed_space line = drop (length (trim_end_by is_whitespace line)) line
