use Rattle.gixp_fetch.proofs.AgainLemmas.{rounds_name, last_names, unanswered_names}
use Rattle.gixp_fetch.proofs.laws.requests_name_all_again.Goals as goal

pub returns : goal.returns
returns g c = record {
  rounds = λ version banded plain start turns end s r. rounds_name _ g.met.N.NamesCommons.renames start end turns s r;
  last = λ version banded plain start turns before last s r h. last_names _ g.met.N.NamesCommons.renames start before turns last s r h;
  unanswered = λ version banded plain start turns before asked e negotiate reading interrupt s r b.
      unanswered_names _ g.met.N.NamesCommons.renames start before turns b.round b.done negotiate b.window b.asked s r b.negotiated;
}
