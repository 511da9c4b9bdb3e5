-- The texts so far were appended.
use Rattle.std.proofs.Common.{◌≡◌, ◌++◌, take, map}
use Rattle.bstr.specs.Owned.{bstring_bytes}
use Rattle.gixp_requests.specs.Arguments.{spaced}
use Rattle.gixp_requests.proofs.fetch.arguments.text.push_added.Given as goal

abbrev pub invariant-loop-text : goal.invariant-loop-text
invariant-loop-text l = l.line.items ≡ l.initial.line.items ++ spaced (take l.text-index (map bstring_bytes l.added))
