use Rattle.gixp_matching.specs.Rows.{is_row_of}
use Rattle.gixp_matching.proofs.NegativeLemmas.{kept_some}
use Rattle.gixp_matching.proofs.match_group.negatives.has_name.Goals as goal

pub returns : goal.returns
returns c =
    kept_some (is_row_of c.args.name.now) c.args.names.now c.rows_named.result.now c.is_empty.result c.is_empty.ensures
    c.rows_named.ensures
