use Rattle.std.proofs.Common.{◌≡◌, drop}
use Rattle.std.specs.List.{list_any}
use Rattle.gixp_refspec.specs.Matching.{joined, rule_of}
use Rattle.gixp_updates.specs.RefNames.{has_text}
use Rattle.gixp_updates.proofs.refs.named.has_any_made.Given as goal

abbrev pub invariant-rules : goal.invariant-rules
invariant-rules l =
    list_any (λ rule. has_text l.names (joined l.short (rule_of rule))) l.rules
    ≡ list_any (λ rule. has_text l.names (joined l.short (rule_of rule))) (drop l.rule-index l.rules)
