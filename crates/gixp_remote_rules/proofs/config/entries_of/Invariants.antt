-- The entries so far, and the pieces that remain.
use Rattle.std.proofs.Common.{◌≡◌, ◌++◌, map, drop}
use Rattle.std.specs.List.{flat_map}
use Rattle.bstr.specs.BStr.{bstr_bytes}
use Rattle.gixp_remote_rules.specs.Config.{entry_value, entries_of}
use Rattle.gixp_remote_rules.proofs.config.entries_of.Given as goal

abbrev pub invariant-pieces : goal.invariant-pieces
invariant-pieces l =
    map entry_value l.entries.items ++ flat_map entries_of (map bstr_bytes (drop l.piece-index l.pieces))
    ≡ flat_map entries_of (map bstr_bytes l.pieces)
