use Rattle.std.proofs.Common.{◌≡◌, ℕ, List, take, map}
use Rattle.bstr.specs.Owned.{bstring_bytes}
use Rattle.gixp_matching.specs.Sought.{is_among, has_key}
use Rattle.gixp_matching.proofs.match_group.sought.names_of.Given as goal

abbrev pub invariant-names : goal.invariant-names
invariant-names l = (text : List ℕ) → has_key l.set text ≡ is_among (take l.name-index (map bstring_bytes l.names)) text
