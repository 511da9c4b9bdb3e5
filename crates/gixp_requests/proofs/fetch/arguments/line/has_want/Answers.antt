use Rattle.std.proofs.Common.{sym, ◌∙◌}
use Rattle.gixp_requests.specs.Line.{line_text}
use Rattle.gixp_requests.specs.Arguments.{is_want}
use Rattle.gixp_packetline.proofs.ListLemmas.{any_of_map}
use Rattle.gixp_requests.proofs.fetch.arguments.line.has_want.Goals as goal

pub returns : goal.returns
returns c = c.any_want.ensures ∙ sym (any_of_map is_want line_text c.args.lines.now)
