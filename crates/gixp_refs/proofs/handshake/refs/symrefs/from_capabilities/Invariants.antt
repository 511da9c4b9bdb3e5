-- The symrefs of the capabilities so far come before those of the rest.
use Rattle.std.proofs.Common.{◌≡◌}
use Rattle.gixp_capabilities.specs.Capability.{capabilities_left}
use Rattle.gixp_refs.specs.RefAdvertisement.{symref_table}
use Rattle.gixp_refs.specs.V1Refs.{symref_values}
use Rattle.gixp_refs.proofs.SymrefLemmas.{symrefs_in_front}
use Rattle.gixp_refs.proofs.handshake.refs.symrefs.from_capabilities.Given as goal

abbrev pub invariant-loop-capability : goal.invariant-loop-capability
invariant-loop-capability l = symref_table l.capabilities ≡ symrefs_in_front (symref_values l.symrefs.items)
    (symref_table (capabilities_left l.capability-iterator))
