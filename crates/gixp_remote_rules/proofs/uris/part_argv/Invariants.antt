-- The arguments so far, and those that remain.
use Rattle.std.proofs.Common.{◌≡◌, ◌++◌, map, drop}
use Rattle.std.specs.List.{flat_map}
use Rattle.bstr.specs.Owned.{bstring_bytes}
use Rattle.gixp_remote_rules.specs.Uris.{part_word}
use Rattle.gixp_remote_rules.proofs.uris.part_argv.Given as goal

abbrev pub invariant-loop-word : goal.invariant-loop-word
invariant-loop-word l =
    map bstring_bytes l.all.items ++ flat_map part_word (map bstring_bytes (drop l.word-index l.argv))
    ≡ flat_map part_word (map bstring_bytes l.argv)
