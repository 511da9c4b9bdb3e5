use Rattle.std.proofs.Common.{◌≡◌, take}
use Rattle.std.specs.List.{list_all}
use Rattle.gixp_refs.specs.WrittenLine.{is_lower}
use Rattle.gixp_refs.proofs.handshake.refs.written.are_lower.Given as goal

abbrev pub invariant-loop-digit : goal.invariant-loop-digit
invariant-loop-digit l = l.all ≡ list_all is_lower (take l.digit-index l.digits)
