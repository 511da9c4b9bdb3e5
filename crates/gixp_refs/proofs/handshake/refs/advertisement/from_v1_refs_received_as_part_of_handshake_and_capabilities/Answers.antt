-- The lines are read with a map that has the same first symref for each name as their list.
use Rattle.gixp_refs.specs.V1Refs.{symref_values}
use Rattle.gixp_refs.proofs.TableLemmas.{answers_same, given, list_is}
use Rattle.gixp_refs.proofs.handshake.refs.advertisement.from_v1_refs_received_as_part_of_handshake_and_capabilities.Goals as goal

pub returns-clause-answers : goal.returns-clause-answers
returns-clause-answers g c =
    given c.read_v1.result (λ found. found.0.items) (λ found. found.1.items) c.args.capabilities.now
    (symref_values c.in_ok-symrefs.symrefs.items) _ _ _ (list_is _ _ c.in_ok-symrefs.symrefs c.in_ok-symrefs.ensures)
    (answers_same (symref_values c.in_ok-symrefs.symrefs.items)
    (symref_values c.in_ok-targets.targets.entries) c.in_ok-targets.ensures c.read_v1.result (λ found. found.0.items)
    (λ found. found.1.items) _ _ _
    c.read_v1.ensures.answers)
