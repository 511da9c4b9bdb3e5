use Rattle.std.proofs.Common.{◌≡◌, map, take}
use Rattle.std.specs.Prelude.{string_bytes}
use Rattle.bstr.specs.Owned.{bstring_bytes}
use Rattle.gixp_planner.proofs.command.plan.spec_texts.Given as goal

abbrev pub invariant-loop-word : goal.invariant-loop-word
invariant-loop-word l = map bstring_bytes l.texts.items ≡ map string_bytes (take l.word-index l.words)
