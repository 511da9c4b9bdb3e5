use Rattle.gixp_refspec.proofs.IdLemmas.{ids_by}
use Rattle.gixp_refspec.proofs.by_id.name_ids.Goals as goal

pub returns : goal.returns
returns c =
    ids_by c.args.explicit.now c.args.extra.now _ _ _ c.is_empty.ensures c.is_empty-2.ensures
    c.if-is_empty.false c.if-not-is_empty.false c.all_by_id.ensures
