-- Only the words that remain can be the word.
use Rattle.std.proofs.Common.{◌≡◌, map, drop}
use Rattle.std.specs.List.{list_any}
use Rattle.std.specs.Str.{bytes_eq}
use Rattle.bstr.specs.BStr.{bstr_bytes}
use Rattle.gixp_remote_rules.proofs.policy.has_word.Given as goal

abbrev pub invariant-words : goal.invariant-words
invariant-words l =
    list_any (λ part. bytes_eq part l.word) (map bstr_bytes l.words)
    ≡ list_any (λ part. bytes_eq part l.word) (map bstr_bytes (drop l.part-index l.words))
