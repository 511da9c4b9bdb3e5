use Rattle.std.proofs.Common.{◌≡◌, length, take, flat_map}
use Rattle.std.specs.Prelude.{min}
use Rattle.gixp_transport.specs.Greeting.{parameter_text, parameters_of}
use Rattle.gixp_transport.proofs.greeting.parameters_len.Given as goal

abbrev pub invariant-loop-key : goal.invariant-loop-key
invariant-loop-key l = l.len ≡ min (length (flat_map parameter_text (parameters_of (take l.key-index l.parameters)))) 18446744073709551615
