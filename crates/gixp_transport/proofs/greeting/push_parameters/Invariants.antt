use Rattle.std.proofs.Common.{◌≡◌, ◌++◌, take, flat_map}
use Rattle.gixp_transport.specs.Greeting.{parameter_text, parameters_of}
use Rattle.gixp_transport.proofs.greeting.push_parameters.Given as goal

abbrev pub invariant-loop-key : goal.invariant-loop-key
invariant-loop-key l = l.out.items ≡ l.fn.out.items ++ flat_map parameter_text (parameters_of (take l.key-index l.parameters))
