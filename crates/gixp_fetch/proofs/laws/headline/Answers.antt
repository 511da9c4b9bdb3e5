use Rattle.std.proofs.Common.{ap, sym, subst, ◌∙◌, Some}
use Rattle.gixp_fetch.specs.Headline.{AnswerBodies}
use Rattle.gixp_fetch.proofs.HeadlineLemmas.{pieces_are, answer_bodies, answers_refused, refs_refused, advertisements_refused, words_said, handshakes_refused, maps_are_of_all, promised}
use Rattle.gixp_fetch.proofs.laws.headline.Goals as goal

pub returns : goal.returns
returns g c = record {
  frames = record {
    connections = λ bytes frames end a holds at asked versions opening r h.
        h.to_come ∙ ap Some (pieces_are c.no_other_frames_are.ensures bytes frames end a);
    bodies = λ given at versions b h. subst (AnswerBodies given) (sym h.answers) (answer_bodies c.no_other_frames_are.ensures given);
    readers = λ bytes frames end a r f. f.to_come ∙ ap Some (pieces_are c.no_other_frames_are.ensures bytes frames end a);
    grammar = λ bytes. c.frames_are_grammar.ensures bytes;
    no_others = λ bytes frames end h. c.no_other_frames_are.ensures bytes frames end h;
  };
  capabilities = words_said;
  refused_handshakes = handshakes_refused;
  refused_answers = answers_refused;
  refused_refs = refs_refused;
  refused_advertisements = advertisements_refused;
  maps = maps_are_of_all;
  run = λ plain call context start made old result new progress run.
      promised _ _ _ g.met.N.NegotiatesMap.follows g.met.N.PaysForHaves.lawful g.met.N.PaysForHaves.wide call context start made old
      result new progress run;
}
