-- The meaning of the lines of a response to a fetch request (gitprotocol-v2, "fetch", for the lines of sections;
-- gitprotocol-pack, "Packfile Negotiation").
use Rattle.std.specs.Prelude.{ℕ, ◌==◌, Bool, true, false, if◌then◌else◌, List, [], ◌∷◌, length, take, drop, codes, Option, Some, None}
use Rattle.std.specs.Option.{option_map}
use Rattle.std.specs.Char.{is_whitespace}
use Rattle.bstr.specs.Trim.{trim_end_by}
use Rattle.bstr.specs.Owned.{bstring_bytes}
use Rattle.gixp_hash.specs.declared.object_id.ObjectId.{ObjectId}
use Rattle.gixp_hash.specs.ObjectId.{id_of}
use Rattle.gixp_capabilities.specs.Cut.{cut}
use Rattle.gixp_capabilities.specs.Capabilities.{is_text}
use Rattle.gixp_response.specs.declared.fetch.response.line.Acknowledgement.{Acknowledgement}
use Rattle.gixp_response.specs.declared.fetch.response.line.Acknowledgement.TheVariants.{Common, Ready, Nak}
use Rattle.gixp_shallow.specs.declared.update.ShallowUpdate.{ShallowUpdate}
use Rattle.gixp_shallow.specs.declared.update.ShallowUpdate.TheVariants.{Shallow, Unshallow}
use Rattle.gixp_response.specs.declared.fetch.response.line.WantedRef.{WantedRef}

-- a wanted ref as plain data
pub record WantedValue : Type 0 where
  pub id : List ℕ
  pub path : List ℕ

abbrev pub wanted_value : WantedRef → WantedValue
wanted_value w = record { id = w.id.bytes; path = bstring_bytes w.path }

-- the id of these 20 bytes
abbrev pub id_from : List ℕ → ObjectId
id_from bytes = record { bytes = bytes }

abbrev pub common_id : Acknowledgement → Option ObjectId
common_id (Common id) = Some id
common_id _ = None

-- the text after this word, if the text begins with it
abbrev pub following : List ℕ → List ℕ → Option (List ℕ)
following word text = if is_text (take (length word) text) word then Some (drop (length word) text) else None

-- nothing follows, or a blank and any text
abbrev pub ends_word : Option (List ℕ) → Bool
ends_word None = false
ends_word (Some []) = true
ends_word (Some (c ∷ cs)) = c == 32

-- the text is the word, or the word followed by a blank and any text
abbrev pub is_word : List ℕ → List ℕ → Bool
is_word word text = ends_word (following word text)

-- an id alone or with `common` is a common commit; an id with `ready` means only `ready`
abbrev pub described : Option (List ℕ) → List ℕ → Option Acknowledgement
described None tail = None
described (Some bytes) tail =
    if is_text tail [] then Some (Common (id_from bytes))
    else if is_text tail (codes " common") then Some (Common (id_from bytes))
    else if is_text tail (codes " ready") then Some Ready
    else None

-- the 40 hexadecimal digits of an id, and its status
abbrev pub acknowledged : Option (List ℕ) → Option Acknowledgement
acknowledged None = None
acknowledged (Some rest) = described (id_of (take 40 rest)) (drop 40 rest)

-- `ready`, `NAK`, or `ACK` with an id
abbrev pub acknowledgement_of : List ℕ → Option Acknowledgement
acknowledgement_of text =
    if is_word (codes "ready") text then Some Ready
    else if is_word (codes "NAK") text then Some Nak
    else acknowledged (following (codes "ACK ") text)

-- an id and nothing else
abbrev pub update_with : (ObjectId → ShallowUpdate) → List ℕ → Option ShallowUpdate
update_with update digits = option_map (λ bytes. update (id_from bytes)) (id_of digits)

abbrev pub unshallow_by : Option (List ℕ) → Option ShallowUpdate
unshallow_by (Some digits) = update_with Unshallow digits
unshallow_by None = None

abbrev pub update_by : Option (List ℕ) → Option (List ℕ) → Option ShallowUpdate
update_by (Some digits) other = update_with Shallow digits
update_by None other = unshallow_by other

-- `shallow` or `unshallow`, and an id
abbrev pub shallow_update_of : List ℕ → Option ShallowUpdate
shallow_update_of text = update_by (following (codes "shallow ") text) (following (codes "unshallow ") text)

abbrev pub wanted_at : List ℕ × Option (List ℕ) → Option WantedValue
wanted_at (left, None) = None
wanted_at (left, Some path) = option_map (λ bytes. record { id = bytes; path = path }) (id_of left)

-- an id, a blank, and the path
abbrev pub wanted_ref_of : List ℕ → Option WantedValue
wanted_ref_of text = wanted_at (cut 32 text)

-- a line without the white space at its end
abbrev pub trimmed : List ℕ → List ℕ
trimmed line = trim_end_by is_whitespace line

abbrev pub acknowledgement_line : List ℕ → Option Acknowledgement
acknowledgement_line line = acknowledgement_of (trimmed line)

abbrev pub shallow_update_line : List ℕ → Option ShallowUpdate
shallow_update_line line = shallow_update_of (trimmed line)

abbrev pub wanted_ref_line : List ℕ → Option WantedValue
wanted_ref_line line = wanted_ref_of (trimmed line)
