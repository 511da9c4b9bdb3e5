-- The last list of the map has the greatest time.
use Rattle.gixp_graph.proofs.TimesLemmas.{last_taken}
use Rattle.gixp_graph.proofs.times.take_list.Goals as goal

pub returns-in-None-clause-some : goal.returns-in-None-clause-some
returns-in-None-clause-some c =
    last_taken c.args.newest c.args.lists.now.entries c.pop_last.new.self.entries c.pop_last.result c.in-None.is
    c.pop_last.ensures.removal c.pop_last.ensures.all_below
