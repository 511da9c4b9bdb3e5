-- The text of a session's error, as far as its parts define what they print.
use Rattle.std.specs.Prelude.{◌++◌, ℕ, List, codes, Option, Some, None, string_bytes}
use Rattle.std.specs.Fmt.{decimal}
use Rattle.std.specs.declared.io.ErrorKind.{ErrorKind}
use Rattle.std.specs.declared.io.ErrorKind.TheVariants.{UnexpectedEof}
use Rattle.gixp_hash.specs.Hex.{encode_lower}
use Rattle.gixp_client.specs.ClientError.{message_in, place_of, kind_in}
use Rattle.gixp_client.specs.Reasons.{reason}
use Rattle.gixp_client.specs.declared.consumer.PackError.TheVariants as pack
use Rattle.gixp_client.specs.declared.error.Error.{Error}
use Rattle.gixp_client.specs.declared.error.Error.TheVariants.{UnsupportedListing, UnsupportedRefName, Unnegotiated, MissingFeature, ShallowServer, UnknownUnshallow, Pack, Reported, Over, Memory}

-- the text of an error without a server message, a failed read or write, or a violation of the protocol
abbrev pub rest_sentence : Error → Option (List ℕ)
rest_sentence UnsupportedListing = Some (codes "the server doesn't list refs as it is asked to")
rest_sentence UnsupportedRefName = Some (codes "the server lists a ref whose name ends in white space outside ASCII")
rest_sentence (Unnegotiated rounds) = Some (codes "the negotiation ended without a pack after " ++ decimal rounds ++ codes " round(s)")
rest_sentence (MissingFeature feature) = Some (codes "the server doesn't offer " ++ string_bytes feature)
rest_sentence ShallowServer = Some (codes "the server's repository is shallow")
rest_sentence (UnknownUnshallow id) = Some (codes "the server takes " ++ encode_lower id.bytes
    ++ codes " out of the shallow boundary, which doesn't have it")
rest_sentence (Reported message) = Some (codes "the server reported an error")
rest_sentence Over = Some (codes "the session is over")
rest_sentence Memory = Some (codes "out of memory")
rest_sentence _ = None

-- the reason is the text, if there is one
abbrev pub reason_sentence : Error → Option (List ℕ) → Option (List ℕ)
reason_sentence e (Some why) = Some why
reason_sentence e None = rest_sentence e

-- the text for a failed read or write of this kind, if one failed
abbrev pub kind_sentence : Error → Option ErrorKind → Option (List ℕ)
kind_sentence e (Some UnexpectedEof) = Some (codes "the connection ended within " ++ place_of e)
kind_sentence e (Some _) = None
kind_sentence e None = reason_sentence e (reason e)

-- the text of a failed write of the pack is undefined
abbrev pub unsaid_sentence : Error → Option (List ℕ)
unsaid_sentence (Pack (pack.Write kind)) = None
unsaid_sentence e = kind_sentence e (kind_in e)

-- the text that has a server message is undefined
abbrev pub message_sentence : Error → Option (List ℕ) → Option (List ℕ)
message_sentence e (Some words) = None
message_sentence e None = unsaid_sentence e

abbrev pub sentence_of : Error → Option (List ℕ)
sentence_of e = message_sentence e (message_in e)
