-- The tags that a fetch request asks the server to include (gitprotocol-capabilities, "include-tag"; gitprotocol-v2, "fetch").
use Rattle.std.specs.Prelude.{Bool, true, if◌then◌else◌, List, codes}
use Rattle.gixp_packetline.specs.declared.protocol.Protocol.{Protocol}
use Rattle.gixp_packetline.specs.declared.protocol.Protocol.TheVariants.{V0, V1, V2}
use Rattle.gixp_capabilities.specs.Capabilities.{CapabilityValue, has_named}
use Rattle.gixp_refmap.specs.declared.fetch.Tags.{Tags}
use Rattle.gixp_refmap.specs.declared.fetch.Tags.TheVariants.{All, Included, None as no_tags}

-- the server can include tags: under version 2 always, under versions 0 and 1 if it has the capability
abbrev pub includes_tags : Protocol → List CapabilityValue → Bool
includes_tags V2 capabilities = true
includes_tags V1 capabilities = has_named (codes "include-tag") capabilities
includes_tags V0 capabilities = has_named (codes "include-tag") capabilities

-- the tags of a request: a server that can't include tags isn't asked to
abbrev pub sent_tags : Protocol → List CapabilityValue → Tags → Tags
sent_tags version capabilities Included = if includes_tags version capabilities then Included else no_tags
sent_tags version capabilities All = All
sent_tags version capabilities no_tags = no_tags
