-- The kept elements, and those of the rest whose flag is true, are all elements whose flag is true.
use Rattle.std.proofs.Common.{◌≡◌, ◌≤◌, ◌++◌, length, take, drop}
use Rattle.gixp_response.specs.RepeatedCommons.{flagged}
use Rattle.gixp_response.proofs.fetch.response.answer.keep_flagged.Given as goal

abbrev pub invariant-flags : goal.invariant-flags
invariant-flags l =
    (length l.found.items ≡ length l.fn.found.items) × (l.kept ≤ l.at)
    × (take l.kept l.found.items ++ flagged (drop l.at l.found.items) (drop l.at l.flags) ≡ flagged l.fn.found.items l.flags)
