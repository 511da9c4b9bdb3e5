-- The capabilities that a server lacks (gitprotocol-capabilities).
use Rattle.std.specs.Prelude.{Bool, false, not, ◌||◌, ◌&&◌, List, codes}
use Rattle.gixp_capabilities.specs.Capabilities.{CapabilityValue, has_named}
use Rattle.gixp_plain_requests.specs.declared.missing.Missing.{Missing}

-- nothing is missing
abbrev pub lacks_nothing : Missing
lacks_nothing = record { multi_ack_detailed = false; multi_ack = false; side_band = false; include_tag = false; agent = false }

-- what is missing in the capabilities of a server; each of the two side-bands is enough
abbrev pub lacks : List CapabilityValue → Missing
lacks cs = record {
  multi_ack_detailed = not (has_named (codes "multi_ack_detailed") cs);
  multi_ack = not (has_named (codes "multi_ack") cs);
  side_band = not (has_named (codes "side-band-64k") cs || has_named (codes "side-band") cs);
  include_tag = not (has_named (codes "include-tag") cs);
  agent = not (has_named (codes "agent") cs);
}

-- whether its acknowledgements aren't detailed, or its pack comes without a side-band
abbrev pub needs_translation : Missing → Bool
needs_translation m = m.multi_ack_detailed || m.side_band

-- whether it acknowledges only one commit
abbrev pub acknowledges_one : Missing → Bool
acknowledges_one m = m.multi_ack_detailed && m.multi_ack
