-- The words so far were appended.
use Rattle.std.proofs.Common.{◌≡◌, take}
use Rattle.gixp_requests.specs.Command.{texts, words_of}
use Rattle.gixp_requests.proofs.command.table.copies.Given as goal

abbrev pub invariant-loop-word : goal.invariant-loop-word
invariant-loop-word l = texts l.lines ≡ take l.word-index (words_of l.words)
