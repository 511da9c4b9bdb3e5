-- A borrowed line of a reference advertisement of version 0 or 1, and the state after some lines.
use Rattle.std.specs.Prelude.{ℕ, List, [], ◌∷◌, ◌++◌, map, Option, Some, None, Result, Ok, Err}
use Rattle.std.specs.Option.{option_map}
use Rattle.bstr.specs.Owned.{bstring_bytes}
use Rattle.gixp_shallow.specs.declared.update.ShallowUpdate.{ShallowUpdate}
use Rattle.gixp_shallow.specs.declared.update.ShallowUpdate.TheVariants.{Shallow}
use Rattle.gixp_refs.specs.declared.handshake.refs.v1.Line.{Line}
use Rattle.gixp_refs.specs.declared.handshake.refs.v1.Line.TheVariants.{Nothing, Peeled, Named, Shallow as ShallowLine}
use Rattle.gixp_refs.specs.declared.handshake.refs.v1.RefLine.{RefLine}
use Rattle.gixp_refs.specs.declared.handshake.refs.v1.Advertised.{Advertised}
use Rattle.gixp_refs.specs.Ref.{RefValue, ref_value}
use Rattle.gixp_refs.specs.RefLine.{RefsRefusal, and_then}
use Rattle.gixp_refs.specs.RefAdvertisement.{Symref, V1Line, nothing, peels, names, shallows, v1_line, NamedRef, pair, closed}

abbrev pub line_of : Line → V1Line
line_of Nothing = nothing
line_of (Peeled left base) = peels left.now base.now
line_of (Named object name) = names object.bytes name.now
line_of (ShallowLine id) = shallows id.bytes

abbrev pub named_value : RefLine → NamedRef
named_value n = record { object = n.object.bytes; name = bstring_bytes n.name }

-- the refs of the finished groups, the open ref line, and the shallow updates
pub record SoFarValue : Type 0 where
  pub refs : List RefValue
  pub open_line : Option NamedRef
  pub updates : List ShallowUpdate

abbrev pub so_far_value : Advertised → SoFarValue
so_far_value a = record { refs = map ref_value a.refs.items; open_line = option_map named_value a.last; updates = a.updates.items }

abbrev pub nothing_so_far : SoFarValue
nothing_so_far = record { refs = []; open_line = None; updates = [] }

abbrev pub with_pair : SoFarValue → Result RefValue RefsRefusal → Result SoFarValue RefsRefusal
with_pair s (Ok v) = Ok (record { refs = s.refs ++ v ∷ []; open_line = None; updates = s.updates })
with_pair s (Err e) = Err e

-- one more finished ref
abbrev pub with_found : SoFarValue → RefValue → SoFarValue
with_found s v = record { refs = s.refs ++ v ∷ []; open_line = s.open_line; updates = s.updates }

-- the open ref line has no peeled line
abbrev pub with_closed : List Symref → SoFarValue → SoFarValue
with_closed t s = record { refs = s.refs ++ closed t s.open_line; open_line = None; updates = s.updates }

abbrev pub with_line : List Symref → SoFarValue → V1Line → Result SoFarValue RefsRefusal
with_line t s nothing = Ok s
with_line t s (shallows id) =
    Ok (record { refs = s.refs; open_line = s.open_line; updates = s.updates ++ Shallow (record { bytes = id }) ∷ [] })
with_line t s (names object name) =
    Ok (record { refs = s.refs ++ closed t s.open_line; open_line = Some (record { object = object; name = name }); updates = s.updates })
with_line t s (peels left base) = with_pair s (pair t s.open_line left base)

abbrev pub with_text : List Symref → SoFarValue → List ℕ → Result SoFarValue RefsRefusal
with_text t s text = and_then (v1_line text) (with_line t s)
