-- Errors after which a retry may succeed.
use Rattle.std.specs.Prelude.{Bool, true, false}
use Rattle.std.specs.declared.io.ErrorKind.{ErrorKind}
use Rattle.std.specs.declared.io.ErrorKind.TheVariants.{Interrupted, UnexpectedEof, TimedOut, BrokenPipe, AddrInUse, ConnectionAborted, ConnectionReset, ConnectionRefused}
use Rattle.gixp_packetline.specs.declared.read.Error.{Error as ReadError}
use Rattle.gixp_packetline.specs.declared.read.Error.TheVariants as reader
use Rattle.gixp_capabilities.specs.declared.client.Error.{Error as ClientError}
use Rattle.gixp_capabilities.specs.declared.client.Error.TheVariants as client

-- the I/O errors of a connection that may work again later
abbrev pub is_spurious_kind : ErrorKind → Bool
is_spurious_kind Interrupted = true
is_spurious_kind UnexpectedEof = true
is_spurious_kind TimedOut = true
is_spurious_kind BrokenPipe = true
is_spurious_kind AddrInUse = true
is_spurious_kind ConnectionAborted = true
is_spurious_kind ConnectionReset = true
is_spurious_kind ConnectionRefused = true
is_spurious_kind _ = false

-- a reader's error is one of these if its I/O error is
abbrev pub is_spurious_read : ReadError → Bool
is_spurious_read (reader.Io kind) = is_spurious_kind kind
is_spurious_read _ = false

-- an error of a call to a server is one of these if its I/O error or reader's error is
abbrev pub is_spurious_client : ClientError → Bool
is_spurious_client (client.Io kind) = is_spurious_kind kind
is_spurious_client (client.Read e) = is_spurious_read e
is_spurious_client _ = false
