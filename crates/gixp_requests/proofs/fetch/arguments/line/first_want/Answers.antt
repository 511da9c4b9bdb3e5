use Rattle.std.proofs.Common.{sym, ◌∙◌}
use Rattle.gixp_requests.specs.Line.{line_text}
use Rattle.gixp_requests.specs.Arguments.{is_want}
use Rattle.gixp_requests.proofs.RequestLemmas.{position-map}
use Rattle.gixp_requests.proofs.fetch.arguments.line.first_want.Goals as goal

pub returns-clause-place : goal.returns-clause-place
returns-clause-place c = c.want_at.ensures.place ∙ sym (position-map is_want line_text c.args.lines.now)
