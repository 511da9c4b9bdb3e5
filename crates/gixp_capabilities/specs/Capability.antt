-- A borrowed capability, as plain data.
use Rattle.std.specs.Prelude.{List, map}
use Rattle.std.specs.Option.{option_map}
use Rattle.bstr.specs.BStr.{bstr_bytes}
use Rattle.bstr.specs.Owned.{bstring_bytes}
use Rattle.gixp_capabilities.specs.declared.capabilities.Capability.{Capability}
use Rattle.gixp_capabilities.specs.declared.capabilities.CapabilityIter.{CapabilityIter}
use Rattle.gixp_capabilities.specs.Capabilities.{CapabilityValue, capability_of}

abbrev pub capability_value : Capability → CapabilityValue
capability_value c = record { name = bstr_bytes c.name; value = option_map bstr_bytes c.value }

-- the capabilities that an iterator has not yet returned
abbrev pub capabilities_left : CapabilityIter → List CapabilityValue
capabilities_left it = map (λ s. capability_of (bstring_bytes s)) it.lines.now
