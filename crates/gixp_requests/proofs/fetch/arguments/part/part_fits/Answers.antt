use Rattle.std.proofs.Common.{◌∙◌}
use Rattle.gixp_requests.specs.Line.{line_text, have_text}
use Rattle.gixp_requests.proofs.PartLemmas.{fit_of_messages, fit_of_texts}
use Rattle.gixp_requests.proofs.fetch.arguments.part.part_fits.Goals as goal

pub returns-in-Messages : goal.returns-in-Messages
returns-in-Messages c = rw c.in-Messages.is (c.messages_fit.ensures ∙ fit_of_messages c.in-Messages.messages.now)

pub returns-in-Lines : goal.returns-in-Lines
returns-in-Lines c = rw c.in-Lines.is (c.lines_fit.ensures ∙ fit_of_texts line_text c.in-Lines.lines.now)

pub returns-in-Haves : goal.returns-in-Haves
returns-in-Haves c = rw c.in-Haves.is (c.haves_fit.ensures ∙ fit_of_texts have_text c.in-Haves.ids.now)
