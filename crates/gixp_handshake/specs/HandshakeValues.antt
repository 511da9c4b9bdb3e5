-- A handshake as plain data, which a clone keeps.
use Rattle.std.specs.Prelude.{List, map, Option, Vec}
use Rattle.std.specs.Option.{option_map}
use Rattle.std.specs.declared.alloc.Global.{Global}
use Rattle.gixp_packetline.specs.declared.protocol.Protocol.{Protocol}
use Rattle.gixp_capabilities.specs.Capabilities.{CapabilityValue}
use Rattle.gixp_refs.specs.declared.handshake.Ref.{Ref}
use Rattle.gixp_shallow.specs.declared.update.ShallowUpdate.{ShallowUpdate}
use Rattle.gixp_refs.specs.Ref.{RefValue, ref_value}
use Rattle.gixp_handshake.specs.declared.handshake.read.Handshake.{Handshake}

pub record HandshakeValue : Type 0 where
  pub version : Protocol
  pub refs : Option (List RefValue)
  pub updates : Option (List ShallowUpdate)
  pub capabilities : List CapabilityValue

abbrev pub refs_value : Vec Ref Global → List RefValue
refs_value v = map ref_value v.items

abbrev pub updates_value : Vec ShallowUpdate Global → List ShallowUpdate
updates_value v = v.items

abbrev pub handshake_value : Handshake → HandshakeValue
handshake_value h = record {
  version = h.server_protocol_version;
  refs = option_map refs_value h.refs;
  updates = option_map updates_value h.v1_shallow_updates;
  capabilities = h.capabilities;
}
