use Rattle.std.proofs.Common.{◌≡◌, drop}
use Rattle.gixp_fetch_cli.specs.Missing.{first_single}
use Rattle.gixp_fetch_cli.proofs.missing.first_single.Given as goal

abbrev pub invariant-loop-note : goal.invariant-loop-note
invariant-loop-note l = first_single l.notes ≡ first_single (drop l.note-index l.notes)
