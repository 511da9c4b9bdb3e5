use Rattle.std.proofs.Common.{◌≡◌, ℕ, List, take}
use Rattle.std.specs.List.{list_any}
use Rattle.gixp_updates.specs.RefNames.{has_text, is_named}
use Rattle.gixp_updates.proofs.refs.named.names_of.Given as goal

abbrev pub invariant-refs : goal.invariant-refs
invariant-refs l = (text : List ℕ) → has_text l.names text ≡ list_any (is_named text) (take l.found-index l.refs)
