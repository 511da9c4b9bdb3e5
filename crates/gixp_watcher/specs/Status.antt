-- The exit status for each class of error.
use Rattle.std.specs.Prelude.{ℕ}
use Rattle.gix_protocol.specs.ErrorClassType.{ErrorClass}
use Rattle.gix_protocol.specs.ErrorClassType.TheVariants.{Server, Connection, Memory}

abbrev pub status_of : ErrorClass → ℕ
status_of Server = 2
status_of Connection = 3
status_of Memory = 3
status_of _ = 1
