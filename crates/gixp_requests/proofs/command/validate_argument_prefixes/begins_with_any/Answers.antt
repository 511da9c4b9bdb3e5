use Rattle.std.proofs.Common.{ℕ, List, Bor, nat_eq, sym, ◌∙◌}
use Rattle.std.specs.List.{starts_with}
use Rattle.gixp_packetline.proofs.ListLemmas.{any_of_map}
use Rattle.gixp_requests.proofs.command.validate_argument_prefixes.begins_with_any.Goals as goal

pub returns : goal.returns
returns c = c.begins_with.ensures ∙ sym (any_of_map (λ prefix. starts_with nat_eq c.args.argument.now prefix)
    (λ (w : Bor (List ℕ)). w.now) c.args.prefixes.now)
