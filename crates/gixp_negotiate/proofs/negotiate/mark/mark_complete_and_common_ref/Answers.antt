use Rattle.std.proofs.Common.{sym}
use Rattle.gixp_negotiate.proofs.negotiate.mark.mark_complete_and_common_ref.Goals as goal

pub returns-in-None-clause-stops : goal.returns-in-None-clause-stops
returns-in-None-clause-stops g c =
    rw (sym c.as_slice-mappings.ensures.value, sym c.in-None.ensures, sym c.is_no_change.ensures) c.decide.ensures.stops
