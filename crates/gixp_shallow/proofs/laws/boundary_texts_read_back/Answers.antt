use Rattle.gixp_shallow.proofs.ReadBackLemmas.{read_back, read_same, never_refused}
use Rattle.gixp_shallow.proofs.laws.boundary_texts_read_back.Goals as goal

pub returns : goal.returns
returns c = record {
  read = read_back;
  same = read_same;
  refused = never_refused;
}
