-- One line of a version 0 or 1 advertisement, as spans (gitprotocol-pack, "Reference Discovery").
use Rattle.std.specs.Prelude.{◌≡◌, ℕ, ⊤, List, IfSome, Result, Err}
use Rattle.std.specs.Option.{option_map}
use Rattle.gixp_refs.specs.RefLine.{RefsRefusal, bad_id, malformed_symref, invariant}
use Rattle.gixp_refs.specs.RefAdvertisement.{Symref, V1Line, nothing, peels, names, shallows, NamedRef}
use Rattle.gixp_records.specs.declared.advertised.refused.AdvertisedLineRefused.{AdvertisedLineRefused}
use Rattle.gixp_records.specs.declared.advertised.refused.AdvertisedLineRefused.TheVariants.{Id, Malformed, Peeled, Symref as BadSymref}
use Rattle.gixp_records.specs.declared.advertised.ref_line.AdvertisedLine.{AdvertisedLine}
use Rattle.gixp_records.specs.declared.advertised.ref_line.AdvertisedLine.TheVariants.{Nothing, Peeled as PeeledLine, Named, Shallow}
use Rattle.gixp_records.specs.declared.advertised.ref_line.NamedLine.{NamedLine}
use Rattle.gixp_records.specs.declared.advertised.symrefs.SymrefSpan.{SymrefSpan}
use Rattle.gixp_records.specs.Span.{text_at, IsWithin}

-- the kind of an error of a line or a symref
abbrev pub advertised_as : RefsRefusal → AdvertisedLineRefused
advertised_as (bad_id e) = Id
advertised_as (invariant text) = Peeled
advertised_as (malformed_symref text) = BadSymref
advertised_as _ = Malformed

-- the result is an error of this kind
abbrev pub IsRefusedAs : {A : Type 0} → Result A RefsRefusal → AdvertisedLineRefused → Type 0
IsRefusedAs o e = (r : RefsRefusal) × (o ≡ Err r) × (advertised_as r ≡ e)

abbrev pub named_in : List ℕ → NamedLine → NamedRef
named_in bytes n = record { object = n.object.bytes; name = text_at bytes n.name }

-- the line as texts
abbrev pub line_in : List ℕ → AdvertisedLine → V1Line
line_in bytes Nothing = nothing
line_in bytes (PeeledLine left base) = peels (text_at bytes left) (text_at bytes base)
line_in bytes (Named n) = names n.object.bytes (text_at bytes n.name)
line_in bytes (Shallow id) = shallows id.bytes

abbrev pub IsAdvertisedWithin : List ℕ → AdvertisedLine → Type 0
IsAdvertisedWithin bytes Nothing = ⊤
IsAdvertisedWithin bytes (PeeledLine left base) = IsWithin bytes left × IsWithin bytes base
IsAdvertisedWithin bytes (Named n) = IsWithin bytes n.name
IsAdvertisedWithin bytes (Shallow id) = ⊤

-- the symref as texts
abbrev pub symref_at : List ℕ → SymrefSpan → Symref
symref_at bytes s = record { name = text_at bytes s.name; target = option_map (text_at bytes) s.target }

abbrev pub IsSymrefWithin : List ℕ → SymrefSpan → Type 0
IsSymrefWithin bytes s = IsWithin bytes s.name × IfSome s.target (IsWithin bytes)
