-- What reading a reference advertisement of version 0 or 1 does (gitprotocol-pack, "Reference Discovery").
use Rattle.std.specs.Prelude.{◌≡◌, ℕ, ◌⊎◌, Bool, None, Some, IfSome, List, [], ◌∷◌, ◌++◌, map, Option, Ok, Err}
use Rattle.std.specs.Option.{option_map}
use Rattle.std.specs.Ordering.{nat_cmp}
use Rattle.std.specs.declared.cmp.Ordering.{Ordering}
use Rattle.std.specs.Cmp.Lexicographic.{slice_cmp}
use Rattle.bstr.specs.Owned.{bstring_bytes}
use Rattle.bstr.specs.declared.bstring.BString.{BString}
use Rattle.gixp_packetline.specs.declared.protocol.MessageKind.{MessageKind}
use Rattle.gixp_packetline.specs.Pieces.{Pieces}
use Rattle.gixp_packetline.specs.Lines.{stop, lines_to}
use Rattle.gixp_capabilities.specs.Capabilities.{CapabilityValue}
use Rattle.gixp_packetline.specs.Reading.{Reading, AtStop, lines_ahead}
use Rattle.gixp_refs.specs.declared.handshake.Ref.{Ref}
use Rattle.gixp_shallow.specs.declared.update.ShallowUpdate.{ShallowUpdate}
use Rattle.gixp_refs.specs.declared.handshake.refs.parse.Error.{Error}
use Rattle.gixp_refs.specs.declared.handshake.refs.parse.Error.TheVariants.{Memory}
use Rattle.gixp_refs.specs.Ref.{RefValue, ref_value}
use Rattle.gixp_refs.specs.RefLine.{RefsRefusal}
use Rattle.gixp_refs.specs.ParseError.{AnswersRefs, parse_errors}
use Rattle.gixp_packetline.specs.Runs.{SoFar}
use Rattle.gixp_packetline.specs.ReadFails.{ReadFails}
use Rattle.gixp_refs.specs.RefAdvertisement.{Symref, symref_table, groups, v1_refs, v1_updates}

abbrev pub symref_value : BString × Option BString → Symref
symref_value s = record { name = bstring_bytes s.0; target = option_map bstring_bytes s.1 }

abbrev pub symref_values : List (BString × Option BString) → List Symref
symref_values ss = map symref_value ss

-- names are ordered by their bytes
abbrev pub name_cmp : BString → BString → Ordering
name_cmp a b = slice_cmp nat_cmp (bstring_bytes a) (bstring_bytes b)

-- all lines up to the next stop were read, with the refs of their groups and their shallow updates; the reader is at that stop
pub record ReadsV1 (t : List Symref) (old new : Reading) (refs : List Ref) (updates : List ShallowUpdate) : Type 0 where
  pub kind : MessageKind
  pub texts : List (List ℕ)
  pub lines : IfSome old.to_come (λ p. (q : Pieces) × (new.to_come ≡ Some q) × (lines_ahead old p ≡ lines_to texts (stop kind q)))
  pub values : groups texts None t None ≡ Ok (map ref_value refs)
  pub shallow : updates ≡ v1_updates texts
  pub stopped : new.stopped ≡ Some kind
  pub version : new.version ≡ old.version
  pub failures : new.failures ≡ old.failures
  pub held : new.held ≡ old.held

-- the last of these lines is an error, and no line before it
pub record LastV1LineRefused (t : List Symref) (texts : List (List ℕ)) (refusal : RefsRefusal) : Type 0 where
  pub before : List (List ℕ)
  pub text : List ℕ
  pub split : texts ≡ before ++ text ∷ []
  pub refs : (values : List RefValue) × (groups before None t None ≡ Ok values)
  pub line : groups texts None t None ≡ Err refusal

-- an allocation failed after the stop, for the ref of the last line
pub record NoMemoryAtStop (old new : Reading) (e : Error) : Type 0 where
  pub texts : List (List ℕ)
  pub now : Reading
  pub read : SoFar old now texts
  pub at : AtStop now new
  pub error : e ≡ Memory

-- the first error of the lines to come, or an I/O error, an interrupt or an allocation failure; a plain reader has fewer of these
abbrev pub V1Fails : List Symref → Bool → Reading → Reading → Error → Type 0
V1Fails t plain old new e =
    ReadFails parse_errors SoFar (λ now p r. v1_refs t (lines_ahead now p) ≡ Err r)
    (λ texts r _. LastV1LineRefused t texts r) plain old new e ⊎ NoMemoryAtStop old new e

-- the symrefs are read from the capabilities before the first line
abbrev pub GivesAdvertisement : List CapabilityValue → Reading → Reading → List Ref → List ShallowUpdate → Type 0
GivesAdvertisement caps old new refs updates = (t : List Symref) × (symref_table caps ≡ Ok t) × ReadsV1 t old new refs updates

-- a call that failed before the first line read nothing; its error is that of the symrefs, or an allocation failure
abbrev pub AdvertisementFails : List CapabilityValue → Bool → Reading → Reading → Error → Type 0
AdvertisementFails caps plain old new e =
    ((new ≡ old) × AnswersRefs symref_values (symref_table caps) (Err e))
    ⊎ ((t : List Symref) × (symref_table caps ≡ Ok t) × V1Fails t plain old new e)
