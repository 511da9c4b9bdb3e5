use Rattle.std.proofs.Common.{sym}
use Rattle.gixp_matching.specs.Rows.{numbered_value, shown}
use Rattle.gixp_matching.specs.MatchGroup.{values}
use Rattle.gixp_matching.proofs.PairLemmas.{pair_negative, pair_unmatched, pair_excluded, pair_matched}
use Rattle.gixp_matching.proofs.match_group.pairs.Matching.pair.Goals as goal
use Rattle.gixp_matching.proofs.match_group.pairs.Matching.pair.Goals.{then-is_negative-via-then-is_negative, then-is_negative-via-else-is_negative+then-is_none, then-is_negative-via-else-is_negative+else-is_none+then-is_excluded}

pub returns-then-is_negative : goal.returns-then-is_negative
returns-then-is_negative c =
    let specs = values c.args.self.now.prepared.now.specs.now in
    let s = numbered_value c.args.numbered.now in
    elim c.then-is_negative.branch [
      | then-is_negative-via-then-is_negative w ↦ pair_negative specs s (shown c.args.row.now) (sym w.if-is_negative.ensures)
      | then-is_negative-via-else-is_negative+then-is_none w ↦
          pair_unmatched specs s c.args.row.now.name.now c.args.row.now.place c.args.numbered.now.needle w.middle.result
          c.requires.needle w.middle.ensures w.if-is_none.ensures
      | then-is_negative-via-else-is_negative+else-is_none+then-is_excluded w ↦
          pair_excluded specs s (shown c.args.row.now) (sym w.if-is_excluded.ensures)
    ]

pub returns : goal.returns
returns c =
    pair_matched (values c.args.self.now.prepared.now.specs.now)
    (numbered_value c.args.numbered.now) c.args.row.now.name.now c.args.row.now.place c.args.numbered.now.needle c.middle.result
    c.requires.needle c.middle.ensures c.if-is_none.ensures (sym c.if-is_negative.ensures)
    (sym c.if-is_excluded.ensures)
