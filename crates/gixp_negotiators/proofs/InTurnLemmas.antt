-- Steps of `consecutive` that take no commit.
use Rattle.gixp_graph.specs.GraphData.{GraphData}
use Rattle.gixp_negotiators.specs.declared.consecutive.Consecutive.{Consecutive}
use Rattle.gixp_negotiators.specs.AddedMarks.{Grows, SeesNone, MarksNoCommon, ListsNone, PopsNone}
use Rattle.gixp_negotiators.specs.Calls.{QueuesInTurn}
use Rattle.gixp_negotiators.proofs.FitLemmas.{timed_none, timed_on, timed_grown}

-- no step
pub steps_none : (n : Consecutive) (g : GraphData) → QueuesInTurn n g n g
steps_none n g = record { keeps = timed_none _ _ _; lists = λ q m. m; pops = λ q m. m }

-- two steps in a row
pub steps_on : {n m k : Consecutive} {g h i : GraphData} → Grows g h → QueuesInTurn n g m h → QueuesInTurn m h k i → QueuesInTurn n g k i
steps_on w a b = record {
  keeps = timed_on _ _ _ _ _ _ _ _ _ w a.keeps b.keeps;
  lists = λ q m. a.lists q (b.lists q m);
  pops = λ q m. a.pops q (b.pops q m);
}

-- a step that adds no mark
pub steps_unmarked : {n : Consecutive} {g h : GraphData} → Grows g h → SeesNone g h → MarksNoCommon g h → ListsNone g h → PopsNone g h
    → QueuesInTurn n g n h
steps_unmarked {n} {g} {h} w sees settles lists pops = record {
  keeps = timed_grown _ _ _ _ w sees settles pops;
  lists = lists;
  pops = pops;
}
