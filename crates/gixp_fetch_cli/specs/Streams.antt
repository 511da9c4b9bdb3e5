-- The streams of a server: what is still to be read, and what was written, where that is known.
use Rattle.std.specs.Prelude.{ℕ, List, Option}
use Rattle.gixp_fetch_cli.specs.declared.streams.ServerStream.{ServerStream}
use Rattle.gixp_fetch_cli.specs.declared.streams.ServerStream.TheVariants as output
use Rattle.gixp_fetch_cli.specs.declared.streams.ClientStream.{ClientStream}
use Rattle.gixp_fetch_cli.specs.declared.streams.ClientStream.TheVariants as input

abbrev pub server_remaining : {F S : Type 0} → (F → Option (List ℕ)) → (S → Option (List ℕ)) → ServerStream F S → Option (List ℕ)
server_remaining in_file in_stream (output.File file) = in_file file
server_remaining in_file in_stream (output.Standard stream) = in_stream stream

abbrev pub client_contents : {F S : Type 0} → (F → Option (List ℕ)) → (S → Option (List ℕ)) → ClientStream F S → Option (List ℕ)
client_contents in_file in_stream (input.File file) = in_file file
client_contents in_file in_stream (input.Standard stream) = in_stream stream
