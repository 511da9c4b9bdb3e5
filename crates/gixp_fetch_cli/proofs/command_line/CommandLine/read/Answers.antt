use Rattle.std.proofs.Common.{map, drop, suc}
use Rattle.std.specs.Prelude.{string_bytes}
use Rattle.std.proofs.Math.ListN.{get_or}
use Rattle.std.proofs.Math.Seq.{drop-cons}
use Rattle.gixp_fetch_cli.specs.CommandLine.{line_value, next_value}
use Rattle.gixp_fetch_cli.proofs.LineLemmas.{refused_word}
use Rattle.gixp_fetch_cli.proofs.command_line.CommandLine.read.Goals as goal

pub returns-in-Err : goal.returns-in-Err
returns-in-Err c =
    let left = drop-cons c.args.words.now c.loop-word.word-index c.word-item.result c.loop-word-test.true in
    let reported = c.in-Err.ensures in
    let shown = rw (c.as_str.ensures.value, c.word-item.is) at reported in
    rw (c.loop-word.invariant, left) (refused_word (line_value c.loop-word.line) (line_value c.add_word.new.self)
    (next_value c.loop-word.next) (string_bytes (get_or c.args.words.now c.loop-word.word-index c.word-item.result))
    (map string_bytes (drop (suc c.loop-word.word-index) c.args.words.now)) c.in-Err.e shown)
