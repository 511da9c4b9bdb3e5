use Rattle.gixp_planner.proofs.print.write_mapped.Goals as goal

pub returns-in-Some : goal.returns-in-Some
returns-in-Some g c = rw c.in-Some.is c.write_map.ensures
