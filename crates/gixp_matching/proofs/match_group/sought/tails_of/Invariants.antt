use Rattle.std.proofs.Common.{◌≡◌, ℕ, List, true, take, map}
use Rattle.bstr.specs.Owned.{bstring_bytes}
use Rattle.gixp_matching.specs.Digest.{tail}
use Rattle.gixp_matching.specs.Sought.{is_among, has_tail}
use Rattle.gixp_matching.proofs.match_group.sought.tails_of.Given as goal

abbrev pub invariant-names : goal.invariant-names
invariant-names l =
    (text : List ℕ) → is_among (take l.name-index (map bstring_bytes l.names)) text ≡ true → has_tail l.set (tail text) ≡ true
