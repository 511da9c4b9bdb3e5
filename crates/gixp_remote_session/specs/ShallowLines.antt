-- The update of the shallow boundary in a line of a server (gitprotocol-pack, "shallow-line";
-- gitprotocol-v2, "shallow-info").
use Rattle.std.specs.Prelude.{◌≡◌, ◌⊎◌, ◌||◌, ℕ, nat_eq, Bool, true, List, [], ◌∷◌, ◌++◌, codes, Option, Some, None}
use Rattle.std.specs.List.{starts_with}
use Rattle.std.specs.Str.{is_utf8}
use Rattle.gixp_packfile_uris.specs.Line.{without_band}
use Rattle.gix_protocol.specs.AnswerLine.{shallow_update_line}
use Rattle.gix_protocol.specs.ShallowUpdateType.{ShallowUpdate}
use Rattle.gixp_remote_session.specs.declared.shallow_observer.ShallowUpdates.{ShallowUpdates}

-- a text begins as the line of an update does
abbrev pub begins_update : List ℕ → Bool
begins_update text = starts_with nat_eq text (codes "shallow ") || starts_with nat_eq text (codes "unshallow ")

abbrev pub update_if : (begins utf8 : Bool) → Option ShallowUpdate → Option ShallowUpdate
update_if true true update = update
update_if _ _ update = None

-- the update in a text that begins so and is UTF-8, as a response has it
abbrev pub update_in : List ℕ → Option ShallowUpdate
update_in text = update_if (begins_update text) (is_utf8 text) (shallow_update_line text)

-- the update in a line
abbrev pub update_of_line : List ℕ → Option ShallowUpdate
update_of_line line = update_in (without_band line)

-- the update is recorded, or is missing since an allocation failed
abbrev pub RecordsUpdate : ShallowUpdate → ShallowUpdates → ShallowUpdates → Type 0
RecordsUpdate update old new =
    ((new.updates.items ≡ old.updates.items ++ update ∷ []) × (new.is_incomplete ≡ old.is_incomplete))
    ⊎ ((new.updates.items ≡ old.updates.items) × (new.is_incomplete ≡ true))

-- a line without an update changes nothing
abbrev pub RecordsLine : Option ShallowUpdate → ShallowUpdates → ShallowUpdates → Type 0
RecordsLine None old new = new ≡ old
RecordsLine (Some update) old new = RecordsUpdate update old new
