-- The prefixes by the rules so far were appended.
use Rattle.std.proofs.Common.{◌≡◌, ◌++◌, take, map}
use Rattle.gixp_refspec.specs.Matching.{joined, rule_of}
use Rattle.gixp_refspec.specs.Texts.{texts}
use Rattle.gixp_refspec.proofs.prefixes.push_made.Given as goal

abbrev pub invariant-rules : goal.invariant-rules
invariant-rules l = texts l.out ≡ texts l.initial.out ++ take l.front-index (map (λ rule. joined l.short (rule_of rule)) l.rules)
