-- The order of commands.
use Rattle.std.specs.Prelude.{ℕ}
use Rattle.gixp_requests.specs.declared.command.Command.{Command}
use Rattle.gixp_requests.specs.declared.command.Command.TheVariants.{LsRefs, Fetch}

-- the rank of a command
abbrev pub command_place : Command → ℕ
command_place LsRefs = 0
command_place Fetch = 1
