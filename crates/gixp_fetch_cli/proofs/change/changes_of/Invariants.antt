-- What is known, and what is to come.
use Rattle.std.proofs.Common.{◌≡◌, ◌++◌, map}
use Rattle.std.specs.List.{zip}
use Rattle.gixp_fetch_cli.specs.Changes.{change_of}
use Rattle.gixp_fetch_cli.proofs.change.changes_of.Given as goal

abbrev pub invariant-pairs : goal.invariant-pairs
invariant-pairs g l =
    l.changes.items ++ map (change_of (g.R.RefStore.refs l.refs)) (zip l.mapping-iterator.a.rest.now l.mapping-iterator.b.rest.now)
    ≡ map (change_of (g.R.RefStore.refs l.refs)) (zip l.mappings l.updates)
