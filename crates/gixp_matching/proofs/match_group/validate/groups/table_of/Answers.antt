use Rattle.std.proofs.Common.{◌∙◌, ap, map}
use Rattle.gixp_matching.specs.Groups.{following}
use Rattle.gixp_matching.specs.Validation.{of_local}
use Rattle.gixp_matching.proofs.TogetherLemmas.{rows_local}
use Rattle.gixp_matching.proofs.match_group.validate.groups.table_of.Goals as goal

pub returns : goal.returns
returns g c =
    let f = g.M.AsMapping.mapped in record {
      together = c.in_ok-put_together.ensures.together;
      same = λ name n. ap (λ l. of_local name (following f l)) (c.in_ok-put_together.ensures.same n)
          ∙ rows_local f (map f c.args.mappings.now) c.in_ok-rows.rows.items c.in_ok-rows.ensures name n;
    }
