-- The same test, written in two ways.
use Rattle.std.proofs.Common.{◌≡◌, map}
use Rattle.std.specs.Char.{to_ascii_lowercase}
use Rattle.std.proofs.lemmas.Slice.Eq.{bytes_eq-Decides}
use Rattle.gixp_remote_rules.proofs.WordLemmas.{same_test}
use Rattle.gixp_remote_rules.proofs.text.is_word.Goals as goal

pub returns : goal.returns
returns c =
    same_test c.eq_ignore_ascii_case.result _
    (map to_ascii_lowercase c.args.text.now ≡ map to_ascii_lowercase c.args.word.now) c.eq_ignore_ascii_case.ensures.test
    (bytes_eq-Decides (map to_ascii_lowercase c.args.text.now) (map to_ascii_lowercase c.args.word.now))
