use Rattle.std.proofs.Common.{◌≡◌, map, drop}
use Rattle.std.specs.Prelude.{string_bytes}
use Rattle.gixp_fetch_cli.specs.CommandLine.{line_value, next_value, line_from, line_of}
use Rattle.gixp_fetch_cli.proofs.command_line.CommandLine.read.Given as goal

abbrev pub invariant-loop-word : goal.invariant-loop-word
invariant-loop-word l = line_of (map string_bytes l.words) ≡ line_from (line_value l.line) (next_value l.next)
    (map string_bytes (drop l.word-index l.words))
