-- The refspec that a text means, or why it is invalid (git-fetch, "<refspec>").
use Rattle.std.specs.Prelude.{ℕ, ◌==◌, nat_eq, nat_lt, Bool, true, false, not, ◌&&◌, ◌||◌, if◌then◌else◌, List, [], ◌∷◌, ◌++◌, drop, codes, count_by, Option, Some, None, is_none, is_some, Result, Ok, Err}
use Rattle.std.specs.List.{list_any, starts_with, before_first, after_first}
use Rattle.std.specs.Str.{bytes_eq}
use Rattle.gixp_hash.specs.ObjectId.{id_of}
use Rattle.gixp_refspec.specs.declared.spec.Sign.{Sign}
use Rattle.gixp_refspec.specs.declared.spec.Sign.TheVariants.{Plain, Force, Exclude}
use Rattle.gixp_refspec.specs.declared.parse.Error.{Error}
use Rattle.gixp_refspec.specs.declared.parse.Error.TheVariants.{NegativeWithDestination, NegativeObjectHash, NegativePartialName, PatternUnbalanced, PatternUnsupported, InvalidName}
use Rattle.gixp_refspec.specs.Name.{is_name}

pub record Spec : Type 0 where
  pub sign : Sign
  pub source : List ℕ
  pub destination : Option (List ℕ)

abbrev pub spec : Sign → List ℕ → Option (List ℕ) → Spec
spec sign source destination = record { sign = sign; source = source; destination = destination }

-- whether the refspec is negative: its sign is `^`
abbrev pub is_negative : Sign → Bool
is_negative Plain = false
is_negative Force = false
is_negative Exclude = true

-- whether the refspec forces its update: its sign is `+`
abbrev pub is_forced : Sign → Bool
is_forced Plain = false
is_forced Force = true
is_forced Exclude = false

abbrev pub is_colon : ℕ → Bool
is_colon b = b == 58

-- the number of asterisks
unfoldable pub stars : List ℕ → ℕ
stars text = count_by (λ b. b == 42) text

-- whether the text is an object id
unfoldable pub is_id : List ℕ → Bool
is_id text = is_some (id_of text)

-- whether the text is `HEAD` or begins with `refs/`
unfoldable pub is_full : List ℕ → Bool
is_full text = bytes_eq text (codes "HEAD") || starts_with nat_eq text (codes "refs/")

-- an empty source means `HEAD`
abbrev pub or_head : List ℕ → List ℕ
or_head [] = codes "HEAD"
or_head (b ∷ bytes) = b ∷ bytes

-- an empty destination means none
abbrev pub non_empty : List ℕ → Option (List ℕ)
non_empty [] = None
non_empty (b ∷ bytes) = Some (b ∷ bytes)

-- the source of a positive refspec: the text before the first colon
abbrev pub source_in : List ℕ → List ℕ
source_in body = or_head (before_first is_colon body)

-- the destination of a positive refspec: the text after the first colon
abbrev pub destination_in : List ℕ → Option (List ℕ)
destination_in body = non_empty (after_first is_colon body)

-- a positive refspec, split at its first colon
abbrev pub positive : Sign → List ℕ → Spec
positive sign body = spec sign (source_in body) (destination_in body)

-- the parts of a text, by its first byte and its first colon
unfoldable pub parts_of : List ℕ → Spec
parts_of text =
    if starts_with nat_eq text (codes "^") then spec Exclude (drop 1 text) None
    else if starts_with nat_eq text (codes "+") then positive Force (drop 1 text)
    else positive Plain text

-- why a negative refspec is invalid
unfoldable pub negative_fault : List ℕ → Option Error
negative_fault source =
    if list_any is_colon source then Some NegativeWithDestination
    else if is_id source then Some NegativeObjectHash
    else if nat_lt 1 (stars source) then Some PatternUnsupported
    else if not (is_name source) then Some InvalidName
    else if is_full source || stars source == 1 then None
    else Some NegativePartialName

-- why a positive refspec without a destination is invalid; its source may be a pattern, and an object id is a valid name
unfoldable pub source_fault : List ℕ → Option Error
source_fault source =
    if nat_lt 1 (stars source) then Some PatternUnsupported
    else if not (is_name source) then Some InvalidName
    else None

-- why a positive refspec with a destination is invalid; both sides or neither must have an asterisk
unfoldable pub pair_fault : List ℕ → List ℕ → Option Error
pair_fault source destination =
    if nat_lt 1 (stars source) || nat_lt 1 (stars destination) then Some PatternUnsupported
    else if not (stars source == stars destination) then Some PatternUnbalanced
    else if not (is_name source) || not (is_name destination) then Some InvalidName
    else None

-- why a positive refspec is invalid
abbrev pub positive_fault : List ℕ → Option (List ℕ) → Option Error
positive_fault source None = source_fault source
positive_fault source (Some destination) = pair_fault source destination

-- why the parts of a refspec are invalid; the source of a negative refspec may have a colon, which is an error
abbrev pub fault_in : Sign → List ℕ → Option (List ℕ) → Option Error
fault_in Plain source destination = positive_fault source destination
fault_in Force source destination = positive_fault source destination
fault_in Exclude source None = negative_fault source
fault_in Exclude source (Some destination) = Some NegativeWithDestination

-- why a refspec is invalid
abbrev pub fault_of : Spec → Option Error
fault_of s = fault_in s.sign s.source s.destination

-- the refspec, or why it is invalid
abbrev pub unless_fault : Option Error → Spec → Result Spec Error
unless_fault None s = Ok s
unless_fault (Some e) s = Err e

-- the refspec that a text means, or why it is invalid
abbrev pub spec_of : List ℕ → Result Spec Error
spec_of text = unless_fault (fault_of (parts_of text)) (parts_of text)

-- the text of a sign
abbrev pub sign_text : Sign → List ℕ
sign_text Plain = []
sign_text Force = codes "+"
sign_text Exclude = codes "^"

-- a colon and the destination, if there is one
abbrev pub destination_text : Option (List ℕ) → List ℕ
destination_text None = []
destination_text (Some destination) = 58 ∷ destination

-- the text of a refspec
abbrev pub text_of : Spec → List ℕ
text_of s = sign_text s.sign ++ s.source ++ destination_text s.destination

-- the source of a refspec without a sign must not begin with a plus
abbrev pub keeps_sign : Sign → List ℕ → Bool
keeps_sign Plain source = not (starts_with nat_eq source (codes "+"))
keeps_sign Force source = true
keeps_sign Exclude source = true

-- whether a text exists that means this refspec
unfoldable pub is_spec : Spec → Bool
is_spec s = is_none (fault_of s) && keeps_sign s.sign s.source
