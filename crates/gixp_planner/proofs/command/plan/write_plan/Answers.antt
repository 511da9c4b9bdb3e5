use Rattle.gixp_planner.proofs.command.plan.write_plan.Goals as goal

pub returns : goal.returns
returns g c = (_, c.new-graph.result, c.new-graph.ensures.empty, rw c.new-negotiator.ensures at c.plan.ensures.text)
