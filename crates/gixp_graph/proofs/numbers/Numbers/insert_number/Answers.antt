use Rattle.std.proofs.Common.{ap}
use Rattle.gixp_graph.specs.Slots.{other_at}
use Rattle.gixp_graph.proofs.SlotLemmas.{reached_other, apart_at}
use Rattle.gixp_graph.proofs.numbers.Numbers.insert_number.Goals as goal

pub returns-then-write-clause-kept : goal.returns-then-write-clause-kept
returns-then-write-clause-kept c q n a h = c.write.ensures.kept q n h

pub returns-in-Ok-clause-kept : goal.returns-in-Ok-clause-kept
returns-in-Ok-clause-kept c q n a h = reached_other _ _ _ _ q n (c.in-Ok.ensures.updates.2 q (apart_at c.args.id.now q a))
    (c.write.ensures.kept q n h)

pub returns-in-Err-clause-kept : goal.returns-in-Err-clause-kept
returns-in-Err-clause-kept c q n a h =
    reached_other _ _ _ _ q n (ap (λ es. other_at es q) c.in-Err.ensures.err) (c.write.ensures.kept q n h)
