-- The line is the text, the spaces and the last byte.
use Rattle.std.proofs.Common.{◌∷◌, [], ◌++◌, Some, ap, ◌∙◌, append_assoc}
use Rattle.std.specs.Prelude.{codes}
use Rattle.std.proofs.lemmas.Bool.Decides.{Decides-eqb}
use Rattle.std.proofs.lemmas.Slice.Eq.{strip_suffix_is}
use Rattle.gixp_fetch_common.proofs.messages.without_blanks.Goals as goal

pub returns-in-Some-strip_suffix : goal.returns-in-Some-strip_suffix
returns-in-Some-strip_suffix c =
    c.in-Some.ensures.cases.0
    ∙ (ap (λ l. l ++ c.in-Some.end.now ∷ [])
    (strip_suffix_is Decides-eqb c.in-Some.front.now (codes "        ") (Some c.in-Some-strip_suffix.text)
    c.in-Some-strip_suffix.ensures.cases)
    ∙ append_assoc c.in-Some-strip_suffix.text.now (codes "        ") (c.in-Some.end.now ∷ []))
