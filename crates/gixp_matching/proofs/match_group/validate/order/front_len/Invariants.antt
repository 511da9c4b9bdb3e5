use Rattle.std.proofs.Common.{◌≡◌, take}
use Rattle.std.specs.List.{All}
use Rattle.gixp_matching.specs.Found.{destination_of}
use Rattle.gixp_matching.proofs.match_group.validate.order.front_len.Given as goal

abbrev pub invariant-issues : goal.invariant-issues
invariant-issues l = All (λ issue. take l.front (destination_of issue) ≡ take l.front l.name) (take l.issue-index l.issues)
