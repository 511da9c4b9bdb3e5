use Rattle.std.proofs.Common.{◌≡◌, take}
use Rattle.gixp_matching.proofs.match_group.validate.order.shared_len.Given as goal

abbrev pub invariant-bytes : goal.invariant-bytes
invariant-bytes l = take l.place l.name ≡ take l.place l.first
