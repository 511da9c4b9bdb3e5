use Rattle.std.proofs.Common.{◌≡◌, flat_map, take}
use Rattle.gixp_examples.specs.RemoteListing.{listed_lines}
use Rattle.gixp_examples.proofs.remote_listing.ls_remote.Given as goal

abbrev pub invariant-loop-found : goal.invariant-loop-found
invariant-loop-found l = l.text.items ≡ flat_map listed_lines (take l.found-index l.refs)
