-- The rest of the sources decides the result.
use Rattle.std.proofs.Common.{◌≡◌, not, map, length}
use Rattle.std.specs.List.{find}
use Rattle.gixp_matching.specs.Mappings.{source_eq}
use Rattle.gixp_matching.specs.MatchGroup.{source_of}
use Rattle.gixp_client.proofs.conflict.other_source.Given as goal

abbrev pub invariant-loop-source : goal.invariant-loop-source
invariant-loop-source l = find (λ s. not (source_eq (source_of l.one) s)) (map source_of l.rest)
    ≡ find (λ s. not (source_eq (source_of l.one) s)) (map source_of l.sources)

abbrev pub decreases-loop-source : goal.decreases-loop-source
decreases-loop-source l = length l.rest
