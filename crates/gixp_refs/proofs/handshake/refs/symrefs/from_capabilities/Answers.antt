-- Each capability is a symref, another capability, or an error.
use native.Mathlib.Omega.{arith}
use Rattle.std.proofs.lemmas.Grind.{common_steps}
use Rattle.std.proofs.lemmas.Result.{err_from_is_err_and}
use Rattle.gixp_capabilities.specs.Capability.{capability_value, capabilities_left}
use Rattle.gixp_refs.specs.RefAdvertisement.{symref_table}
use Rattle.gixp_refs.specs.V1Refs.{symref_value, symref_values}
use Rattle.gixp_refs.proofs.SymrefLemmas.{symrefs_skip, symrefs_refused}
use Rattle.gixp_refs.proofs.handshake.refs.symrefs.from_capabilities.Goals as goal

pub loop-capability-preserved-in_default : goal.loop-capability-preserved-in_default
loop-capability-preserved-in_default c =
    let none = rw c.in_default.is at c.in_ok-symref.ensures in
    symrefs_skip symref_value (symref_table c.args.capabilities.now) (symref_values c.loop-capability.symrefs.items)
    (capabilities_left c.loop-capability.capability-iterator)
    (capabilities_left c.next.new.self) (capability_value c.in-Some.capability) c.loop-capability.invariant c.in-Some.ensures.steps none

pub returns-in_err-symref : goal.returns-in_err-symref
returns-in_err-symref c = let p = err_from_is_err_and c.from_residual.result c.from_residual.ensures.1 in
    rw (p.1, p.2) (symrefs_refused symref_value _ (symref_table c.args.capabilities.now) (symref_values c.loop-capability.symrefs.items)
    (capabilities_left c.loop-capability.capability-iterator)
    (capabilities_left c.next.new.self)
    (capability_value c.in-Some.capability) c.in_err-symref.field-0.0 c.loop-capability.invariant c.in-Some.ensures.steps
    c.in_err-symref.ensures)

pub loop-capability-preserved : goal.loop-capability-preserved
loop-capability-preserved c = grind (arith, common_steps)
