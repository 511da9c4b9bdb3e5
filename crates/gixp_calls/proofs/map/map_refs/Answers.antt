use Rattle.gixp_calls.specs.Exports.{maps, maps_not}
use Rattle.gixp_calls.proofs.map.map_refs.Goals as goal

pub returns-in-Ok : goal.returns-in-Ok
returns-in-Ok c = maps c.in-Ok.end c.in-Ok.ensures c.end_code.ensures

pub returns-in-Err : goal.returns-in-Err
returns-in-Err c = maps_not c.in-Err.e c.in-Err.ensures c.refused_code.ensures
