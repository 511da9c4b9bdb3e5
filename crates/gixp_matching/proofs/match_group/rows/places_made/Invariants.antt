use Rattle.std.proofs.Common.{take, map}
use Rattle.gixp_refspec.specs.Matching.{joined, rule_of}
use Rattle.gixp_matching.specs.Rows.{HasPlaces}
use Rattle.gixp_matching.proofs.match_group.rows.places_made.Given as goal

abbrev pub invariant-rules : goal.invariant-rules
invariant-rules l = HasPlaces (take l.front-index (map (λ rule. joined l.short (rule_of rule)) l.rules)) l.rows l.places
