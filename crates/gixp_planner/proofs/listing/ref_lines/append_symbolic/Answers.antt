use Rattle.gixp_planner.proofs.listing.ref_lines.append_symbolic.Goals as goal

pub returns-in-Some : goal.returns-in-Some
returns-in-Some c = rw (c.in-Some.is, ← c.to_hex.ensures, ← c.to_hex-object.ensures) c.append-in-Some.ensures.all
