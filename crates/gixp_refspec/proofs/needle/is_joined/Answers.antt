use Rattle.std.proofs.Common.{None, Some}
use Rattle.std.proofs.lemmas.Bool.Decides.{Decides-eqb}
use Rattle.std.proofs.lemmas.Slice.Eq.{strip_prefix_is}
use Rattle.gixp_refspec.proofs.MatchLemmas.{no_front, no_middle, with_back}
use Rattle.gixp_refspec.proofs.needle.is_joined.Goals as goal

pub returns-in-None : goal.returns-in-None
returns-in-None c =
    no_front c.args.name.now c.args.front.now c.args.middle.now c.args.back.now
    (strip_prefix_is Decides-eqb c.args.name.now c.args.front.now None c.in-None.ensures.cases)

pub returns-in-None-strip_prefix : goal.returns-in-None-strip_prefix
returns-in-None-strip_prefix c =
    no_middle c.args.name.now c.args.front.now c.in-Some.rest.now c.args.middle.now c.args.back.now
    (strip_prefix_is Decides-eqb c.args.name.now c.args.front.now (Some c.in-Some.rest) c.in-Some.ensures.cases)
    (strip_prefix_is Decides-eqb c.in-Some.rest.now c.args.middle.now None c.in-None-strip_prefix.ensures.cases)

pub returns-in-Some-strip_prefix : goal.returns-in-Some-strip_prefix
returns-in-Some-strip_prefix c =
    with_back c.args.name.now c.args.front.now c.in-Some.rest.now c.args.middle.now c.in-Some-strip_prefix.rest.now c.args.back.now _
    (strip_prefix_is Decides-eqb c.args.name.now c.args.front.now (Some c.in-Some.rest) c.in-Some.ensures.cases)
    (strip_prefix_is Decides-eqb c.in-Some.rest.now c.args.middle.now
    (Some c.in-Some-strip_prefix.rest) c.in-Some-strip_prefix.ensures.cases)
    c.eq.ensures
