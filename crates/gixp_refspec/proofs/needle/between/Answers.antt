use Rattle.std.proofs.Common.{None, Some, sym}
use Rattle.std.proofs.lemmas.Bool.Decides.{Decides-eqb}
use Rattle.std.proofs.lemmas.Slice.Eq.{strip_prefix_is, strip_suffix_is}
use Rattle.gixp_refspec.proofs.MatchLemmas.{between_none, between_from}
use Rattle.gixp_refspec.proofs.needle.between.Goals as goal

pub returns-in-None : goal.returns-in-None
returns-in-None c =
    sym (between_none c.args.front.now c.args.back.now c.args.name.now
    (λ m. strip_prefix_is Decides-eqb c.args.name.now c.args.front.now None c.in-None.ensures.cases _))

pub returns-in-Some : goal.returns-in-Some
returns-in-Some c =
    between_from c.args.front.now c.args.back.now c.args.name.now c.in-Some.rest.now c.strip_suffix.result
    (strip_prefix_is Decides-eqb c.args.name.now c.args.front.now (Some c.in-Some.rest) c.in-Some.ensures.cases)
    (strip_suffix_is Decides-eqb c.in-Some.rest.now c.args.back.now c.strip_suffix.result c.strip_suffix.ensures.cases)
