use Rattle.gixp_refs.specs.V1Line.{so_far_value}
use Rattle.gixp_refs.specs.V1Refs.{symref_values}
use Rattle.gixp_refs.proofs.AdvertisementLemmas.{V1Known}
use Rattle.gixp_refs.proofs.handshake.refs.advertisement.read_v1.Given as goal

abbrev pub invariant-loop-found : goal.invariant-loop-found
invariant-loop-found g l =
    V1Known (symref_values l.targets.entries) (g.R.ExtendedBufRead.reading l.fn.in_refs) (g.R.ExtendedBufRead.reading l.in_refs)
    (so_far_value l.found)

abbrev pub decreases-loop-found : goal.decreases-loop-found
decreases-loop-found g l = (g.R.ExtendedBufRead.reading l.in_refs).left
