use Rattle.gixp_fetch.proofs.KeptLemmas.{rounds_ask, last_asks}
use Rattle.gixp_fetch.proofs.laws.interrupts_are_asked.Goals as goal

pub returns : goal.returns
returns g c = record {
  rounds = λ version banded plain start turns end r. rounds_ask _ start end turns r;
  last = λ version banded plain start turns before last r h. last_asks _ start before turns last r h;
}
