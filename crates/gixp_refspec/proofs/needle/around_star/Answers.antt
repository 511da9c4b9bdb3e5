use Rattle.std.proofs.Common.{◌+◌, ◌∙◌, ap, sym, take, drop, length, arith}
use Rattle.std.proofs.lemmas.List.{take_all, length-drop}
use Rattle.gixp_refspec.proofs.StarLemmas.{star_at, no_star}
use Rattle.gixp_refspec.proofs.needle.around_star.Goals as goal

pub returns-in-Some : goal.returns-in-Some
returns-in-Some c =
    let text = c.args.text.now in
    let at = star_at text c.in-Some.at (sym c.in-Some.ensures.place) in (
      at.0,
      ap (λ n. take n text) at.1,
      take_all _ (drop (c.in-Some.at + 1) text) (omega (arith, length-drop (c.in-Some.at + 1) text))
          ∙ ap (λ n. drop (n + 1) text) at.1,
    )

pub returns-in-None : goal.returns-in-None
returns-in-None c = no_star c.args.text.now (sym c.in-None.ensures.place)
