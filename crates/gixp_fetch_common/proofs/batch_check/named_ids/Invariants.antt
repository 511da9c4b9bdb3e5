-- The ids of the mappings so far.
use Rattle.std.proofs.Common.{take}
use Rattle.gixp_fetch_common.specs.AnswersIds.{AddsIds}
use Rattle.gixp_fetch_common.proofs.batch_check.named_ids.Given as goal

abbrev pub invariant-mappings : goal.invariant-mappings
invariant-mappings l = AddsIds (take l.mapping-index l.mappings) l.initial.ids l.ids
