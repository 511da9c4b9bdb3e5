use Rattle.std.proofs.Common.{◌≡◌, ℕ, List, take}
use Rattle.gixp_updates.specs.RefNames.{has_text}
use Rattle.gixp_remote_session.specs.RefLines.{is_held}
use Rattle.gixp_remote_session.proofs.listing.holders.Given as goal

abbrev pub invariant-refs : goal.invariant-refs
invariant-refs l = (text : List ℕ) → has_text l.names text ≡ is_held (take l.found-index l.refs) text
