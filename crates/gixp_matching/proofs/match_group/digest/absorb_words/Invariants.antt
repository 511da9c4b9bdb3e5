use Rattle.std.proofs.Common.{◌≡◌, take}
use Rattle.std.specs.List.{fold}
use Rattle.gixp_matching.specs.Digest.{with_word}
use Rattle.gixp_matching.proofs.match_group.digest.absorb_words.Given as goal

abbrev pub invariant-words : goal.invariant-words
invariant-words l = l.now ≡ fold with_word l.fn.state (take l.word-index l.words)
