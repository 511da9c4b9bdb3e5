-- The appended capabilities and those of the rest of the text are all capabilities.
use Rattle.std.proofs.Common.{◌≡◌, ◌++◌}
use Rattle.gixp_capabilities.specs.Capabilities.{capabilities_of_words}
use Rattle.gixp_capabilities.proofs.CapabilityLemmas.{words_left, text_left}
use Rattle.gixp_capabilities.proofs.capabilities.Capabilities.push_words.Given as goal

abbrev pub invariant-loop-rest : goal.invariant-loop-rest
invariant-loop-rest l = l.self ++ words_left l.rest ≡ l.fn.self ++ capabilities_of_words l.fn.text

abbrev pub decreases-loop-rest : goal.decreases-loop-rest
decreases-loop-rest l = text_left l.rest
