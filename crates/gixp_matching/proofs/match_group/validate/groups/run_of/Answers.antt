use Rattle.std.proofs.Common.{◌∙◌, ap, take, drop}
use Rattle.std.proofs.lemmas.List.{length-take-le}
use Rattle.gixp_matching.proofs.GroupLemmas.{taken_run, dropped_run}
use Rattle.gixp_matching.proofs.match_group.validate.groups.run_of.Goals as goal

pub returns-clause-run : goal.returns-clause-run
returns-clause-run g c = ap (λ n. take n c.args.rows.now) c.run_len.ensures.place ∙ taken_run c.args.number c.args.rows.now

pub returns-clause-rest : goal.returns-clause-rest
returns-clause-rest g c =
    ap (λ n. drop n c.args.rows.now) (length-take-le c.run_len.result c.args.rows.now c.run_len.ensures.within ∙ c.run_len.ensures.place)
    ∙ dropped_run c.args.number c.args.rows.now
