-- The lines so far, and the texts that are left.
use Rattle.std.proofs.Common.{◌≡◌, ◌++◌, map}
use Rattle.bstr.specs.Owned.{bstring_bytes}
use Rattle.gixp_requests.specs.Line.{line_text}
use Rattle.gixp_requests.proofs.fetch.arguments.line.text_lines.Given as goal

abbrev pub invariant-words : goal.invariant-words
invariant-words l = (map line_text l.lines.items ≡ map bstring_bytes l.yielded)
    × (l.yielded ++ l.text-iterator.rest.items ≡ l.fn.words.items)
