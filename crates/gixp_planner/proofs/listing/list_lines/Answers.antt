use Rattle.std.proofs.Common.{rules}
use Rattle.gixp_planner.proofs.listing.list_lines.Goals as goal

pub returns-in-Err-clause-refused : goal.returns-in-Err-clause-refused
returns-in-Err-clause-refused g c = search rules

pub returns-in-Err-clause-nothing : goal.returns-in-Err-clause-nothing
returns-in-Err-clause-nothing g c = search rules

pub returns-in-Ok-write_text-clause-listed : goal.returns-in-Ok-write_text-clause-listed
returns-in-Ok-write_text-clause-listed g c = search rules

pub returns-clause-refused : goal.returns-clause-refused
returns-clause-refused g c = search rules
