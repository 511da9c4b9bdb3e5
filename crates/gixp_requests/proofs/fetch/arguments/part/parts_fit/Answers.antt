use Rattle.std.proofs.Common.{sym, ◌∙◌}
use Rattle.gixp_transport.specs.Message.{value_fits}
use Rattle.gixp_requests.specs.Line.{part_values}
use Rattle.gixp_requests.proofs.PartLemmas.{all_of_flat}
use Rattle.gixp_requests.proofs.fetch.arguments.part.parts_fit.Goals as goal

pub returns : goal.returns
returns c = c.each_fits.ensures ∙ sym (all_of_flat value_fits part_values c.args.parts.now)
