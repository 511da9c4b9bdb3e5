use Rattle.std.proofs.Common.{◌∙◌}
use Rattle.gixp_requests.specs.Line.{line_text, have_text}
use Rattle.gixp_requests.proofs.PartLemmas.{fit_of_messages, fit_of_texts, frames_of_messages, frames_of_texts}
use Rattle.gixp_requests.proofs.fetch.arguments.part.write_part.Goals as goal

pub write_all-requires-clause-fit : goal.write_all-requires-clause-fit
write_all-requires-clause-fit g c = fit_of_messages c.in-Messages.messages.now ∙ rw c.in-Messages.is at c.requires.fit

pub write_lines-requires-clause-fit : goal.write_lines-requires-clause-fit
write_lines-requires-clause-fit g c = fit_of_texts line_text c.in-Lines.lines.now ∙ rw c.in-Lines.is at c.requires.fit

pub returns-in-Messages : goal.returns-in-Messages
returns-in-Messages g c = rw (c.in-Messages.is, ← frames_of_messages c.in-Messages.messages.now) c.write_all.ensures

pub returns-in-Lines : goal.returns-in-Lines
returns-in-Lines g c = rw (c.in-Lines.is, ← frames_of_texts line_text c.in-Lines.lines.now) c.write_lines.ensures

pub returns-in-Haves : goal.returns-in-Haves
returns-in-Haves g c = rw (c.in-Haves.is, ← frames_of_texts have_text c.in-Haves.ids.now) c.write_haves.ensures
