use Rattle.std.proofs.Common.{sym, ap, ◌∙◌}
use Rattle.std.specs.Option.{option_map}
use Rattle.bstr.specs.Owned.{bstring_bytes}
use Rattle.gixp_requests.specs.Command.{words_of}
use Rattle.gixp_requests.specs.Offers.{bad_argument}
use Rattle.gixp_requests.proofs.AppendLemmas.{find-map}
use Rattle.gixp_requests.proofs.command.validate_argument_prefixes.unsupported_argument.Goals as goal

pub returns : goal.returns
returns c = ap (option_map bstring_bytes) c.bad_argument.ensures
    ∙ sym (find-map (bad_argument (words_of c.args.prefixes.now)) bstring_bytes c.args.arguments.now)
