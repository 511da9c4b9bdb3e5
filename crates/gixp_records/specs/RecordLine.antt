-- One line of an `ls-refs` response, as spans (gitprotocol-v2, "ls-refs").
use Rattle.std.specs.Prelude.{◌≡◌, ℕ, List, IfSome, Result, Err}
use Rattle.std.specs.Option.{option_map}
use Rattle.gixp_refs.specs.Ref.{RefValue}
use Rattle.gixp_refs.specs.RefLine.{RefsRefusal, bad_id, unknown_attribute, invariant, AttributeValues, value_of}
use Rattle.gixp_refs.specs.ParseError.{object_of}
use Rattle.gixp_records.specs.declared.line.LineRefused.{LineRefused}
use Rattle.gixp_records.specs.declared.line.LineRefused.TheVariants.{Id, Malformed, UnknownAttribute, Unborn}
use Rattle.gixp_records.specs.declared.line.LineAttributes.{LineAttributes}
use Rattle.gixp_records.specs.declared.line.LineRef.{LineRef}
use Rattle.gixp_records.specs.Span.{text_at, IsWithin}

-- the kind of a line's error
abbrev pub refused_as : RefsRefusal → LineRefused
refused_as (bad_id e) = Id
refused_as (unknown_attribute attribute line) = UnknownAttribute
refused_as (invariant text) = Unborn
refused_as _ = Malformed

-- the result is an error of this kind
abbrev pub Judges : {A : Type 0} → Result A RefsRefusal → LineRefused → Type 0
Judges o e = (r : RefsRefusal) × (o ≡ Err r) × (refused_as r ≡ e)

-- the attributes as texts
abbrev pub attributes_in : List ℕ → LineAttributes → AttributeValues
attributes_in bytes a = record { target = option_map (text_at bytes) a.target; peeled = object_of a.peeled }

abbrev pub AreAttributesWithin : List ℕ → LineAttributes → Type 0
AreAttributesWithin bytes a = IfSome a.target (IsWithin bytes)

-- the ref of the line, or its error
abbrev pub line_ref_value : List ℕ → LineRef → Result RefValue RefsRefusal
line_ref_value bytes l = value_of (object_of l.object) (text_at bytes l.name) (attributes_in bytes l.attributes)

abbrev pub IsLineWithin : List ℕ → LineRef → Type 0
IsLineWithin bytes l = IsWithin bytes l.name × AreAttributesWithin bytes l.attributes
