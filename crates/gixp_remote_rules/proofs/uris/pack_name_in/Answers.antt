use Rattle.std.proofs.Common.{sym, arith}
use Rattle.std.proofs.lemmas.List.{length-take-le}
use Rattle.gixp_remote_rules.proofs.uris.pack_name_in.Goals as goal

pub slice_bounds-name-end : goal.slice_bounds-name-end
slice_bounds-name-end c = sym (length-take-le 40 c.args.rest.now (omega (arith, c.if-rest-lt41.false)))
