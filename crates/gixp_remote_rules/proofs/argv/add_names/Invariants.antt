-- The arguments so far.
use Rattle.std.proofs.Common.{◌≡◌, ◌++◌, map, take}
use Rattle.bstr.specs.Owned.{bstring_bytes}
use Rattle.gixp_remote_rules.proofs.argv.add_names.Given as goal

abbrev pub invariant-loop-name : goal.invariant-loop-name
invariant-loop-name l = map bstring_bytes l.argv.items ≡ map bstring_bytes l.fn.argv.items ++ map (λ n. n.now) (take l.name-index l.names)
