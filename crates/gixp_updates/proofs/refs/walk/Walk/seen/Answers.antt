use Rattle.std.proofs.lemmas.Map.Keys.{IsDistinct-from_sorted}
use Rattle.std.proofs.lemmas.Map.Views.{All-set_contains, Contains-from_any}
use Rattle.gixp_hash.specs.ObjectId.{id_cmp}
use Rattle.gixp_graph.specs.GraphLaws.{same_from}
use Rattle.gixp_hash.specs.IdLaws.{ids_total}
use Rattle.gixp_updates.proofs.refs.walk.Walk.seen.Goals as goal

pub returns-clause-distinct : goal.returns-clause-distinct
returns-clause-distinct c = IsDistinct-from_sorted id_cmp c.args.self.now.seen.keys c.len.ensures.ordered

pub returns-clause-each : goal.returns-clause-each
returns-clause-each c = All-set_contains ids_total c.args.self.now.seen

pub returns-clause-listed : goal.returns-clause-listed
returns-clause-listed c q h = Contains-from_any same_from q c.args.self.now.seen.keys h
