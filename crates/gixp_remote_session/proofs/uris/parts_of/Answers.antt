-- The line is its first 41 bytes and the URI, and these bytes are the hash and a space.
use Rattle.std.proofs.Common.{◌++◌, Some, ap, sym, ◌∙◌, append_assoc, drop, arith}
use Rattle.std.specs.Prelude.{codes}
use Rattle.std.proofs.lemmas.List.{take-append-drop}
use Rattle.std.proofs.lemmas.Bool.Decides.{Decides-eqb}
use Rattle.std.proofs.lemmas.Slice.Eq.{strip_suffix_is}
use Rattle.gixp_remote_session.proofs.uris.parts_of.Goals as goal

pub returns-in-Some-strip_suffix : goal.returns-in-Some-strip_suffix
returns-in-Some-strip_suffix c =
    let line = c.args.line.now in
    let s = c.in-Some.ensures.cases in
    let name = c.in-Some-strip_suffix.name in (
      sym (take-append-drop 41 line) ∙ (ap (λ l. l ++ drop 41 line) (sym s.1) ∙ (ap (λ l. c.in-Some.front.now ++ l) (sym s.2)
          ∙ (ap (λ l. l ++ c.in-Some.uri.now)
          (strip_suffix_is Decides-eqb c.in-Some.front.now (codes " ") (Some name) c.in-Some-strip_suffix.ensures.cases)
          ∙ append_assoc name.now (codes " ") c.in-Some.uri.now))),
      omega (arith, s.3, c.in-Some-strip_suffix.ensures.cases.2),
    )
