-- Whether the pack follows the server's `ready` (gitprotocol-v2, "fetch": a delimiter packet ends
-- the acknowledgments after `ready`, and the pack follows).
use Rattle.std.specs.Prelude.{◌||◌, ℕ, if◌then◌else◌, List, codes, Option, Some}
use Rattle.std.specs.Str.{bytes_eq}
use Rattle.gix_protocol.specs.MessageKindType.{MessageKind}
use Rattle.gix_protocol.specs.MessageKindType.TheVariants.{Delimiter}
use Rattle.gixp_remote_session.specs.declared.readiness.Readiness.{Readiness}
use Rattle.gixp_remote_session.specs.declared.readiness.Readiness.TheVariants.{Unready, Ready, PackMissing}

abbrev pub after_line : Readiness → List ℕ → Readiness
after_line Unready line = if bytes_eq line (codes "ready") || bytes_eq line (codes "ready\n") then Ready else Unready
after_line readiness line = readiness

-- a packet ends the lines, or the stream ends
abbrev pub after_end : Readiness → Option MessageKind → Readiness
after_end Ready (Some Delimiter) = Unready
after_end Ready stop = PackMissing
after_end readiness stop = readiness
