-- The output of a server whose responses may need a translation (gitprotocol-capabilities, "multi_ack_detailed", "side-band,
-- side-band-64k").
use Rattle.std.specs.Prelude.{Bool, true, false, ◌&&◌}
use Rattle.gixp_plain_requests.specs.Lacks.{needs_translation}
use Rattle.gixp_plain_requests.specs.Advertisement.{is_after_names}
use Rattle.gixp_remote_session.specs.declared.transport.StreamOutput.{StreamOutput}
use Rattle.gixp_remote_session.specs.declared.transport.StreamOutput.TheVariants.{Named, Translated, Lost}

-- whether the translation begins before the next read: the first ref line was passed on, and the server lacks what it must add
abbrev pub translates_next : StreamOutput → Bool
translates_next (Named n) = is_after_names n && needs_translation n.missing
translates_next (Translated lines) = false
translates_next Lost = false

abbrev pub is_named : StreamOutput → Bool
is_named (Named n) = true
is_named (Translated lines) = false
is_named Lost = false

abbrev pub is_translated : StreamOutput → Bool
is_translated (Named n) = false
is_translated (Translated lines) = true
is_translated Lost = false
