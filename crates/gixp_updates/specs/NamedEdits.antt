-- The changes of local refs, by name.
use Rattle.std.specs.Prelude.{ℕ, List, map, Option}
use Rattle.std.specs.Option.{option_map, option_and_then}
use Rattle.std.specs.List.{filter_map, zip}
use Rattle.bstr.specs.BStr.{bstr_bytes}
use Rattle.bstr.specs.declared.bstr.BStr.{BStr}
use Rattle.bstr.specs.Owned.{bstring_bytes}
use Rattle.gixp_refmap.specs.declared.refmap.mapping.Mapping.{Mapping}
use Rattle.gixp_updates.specs.declared.refs.edit.Edit.{Edit}
use Rattle.gixp_updates.specs.declared.refs.edit.Update.{Update}

-- a name with the change of its ref
abbrev pub edit_value : BStr × Edit → List ℕ × Edit
edit_value e = (bstr_bytes e.0, e.1)

abbrev pub edit_values : List (BStr × Edit) → List (List ℕ × Edit)
edit_values edits = map edit_value edits

-- the local name of a mapping with the change that its update writes, if there are both
abbrev pub edit_named : Update × Mapping → Option (List ℕ × Edit)
edit_named p = option_and_then (λ name. option_map (λ edit. (name, edit)) p.0.edit) (option_map bstring_bytes p.1.local)

-- the changes of several mappings and their updates, in order
abbrev pub edits_named : List Mapping → List Update → List (List ℕ × Edit)
edits_named ms us = filter_map edit_named (zip us ms)
