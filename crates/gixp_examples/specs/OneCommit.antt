-- A fetch of one commit, up to the start of the pack (gitprotocol-v2, "fetch"; gitprotocol-pack, "Packfile Negotiation").
use Rattle.std.specs.Prelude.{◌≡◌, Bool, true, false, [], Ok}
use Rattle.gix_protocol.specs.AnswerReading.{answer_of, Answered}
use Rattle.gix_protocol.specs.Answer.{AnswerValue}
use Rattle.gix_protocol.specs.Arguments.{ArgumentsValue, asks_nothing, asks_want, id_text}
use Rattle.gix_protocol.specs.Beginnings.{expected}
use Rattle.gix_protocol.specs.Command.{git_table}
use Rattle.gix_protocol.specs.CommandType.TheVariants.{Fetch}
use Rattle.gix_protocol.specs.FrameText.{texts_of}
use Rattle.gix_protocol.specs.Handshake.{Handshakes}
use Rattle.gix_protocol.specs.ObjectIdType.{ObjectId}
use Rattle.gix_protocol.specs.Offers.{default_features}
use Rattle.gix_protocol.specs.Reading.{Reading}
use Rattle.gix_protocol.specs.Request.{request, request_fits}
use Rattle.gix_protocol.specs.ServiceType.TheVariants.{UploadPack}
use Rattle.gix_protocol.specs.SetServiceResponseType.{SetServiceResponse}
use Rattle.gix_protocol.specs.Transport.{Sends}

-- the arguments that ask this server for one object
abbrev pub asks_for : ObjectId → SetServiceResponse → ArgumentsValue
asks_for id found = asks_want (id_text id)
    (asks_nothing git_table found.actual_protocol (default_features git_table Fetch found.actual_protocol found.capabilities))

-- the handshake, one request with one want and `done`, and the response, which may end with a pack
pub record FetchesOne (id : ObjectId) (old new : Reading) (has_pack : Bool) : Type 0 where
  pub found : SetServiceResponse
  pub greeted : Reading
  pub asked : Reading
  pub answer : AnswerValue
  pub handshakes : Handshakes UploadPack [] old greeted (Ok found)
  pub sends : Sends greeted asked (request_fits (asks_for id found) true) (texts_of (request (asks_for id found) true)) (Ok tt)
  pub answered : Answered (answer_of found.actual_protocol (expected true false)) found.actual_protocol asked new answer
  pub pack : has_pack ≡ answer.pack
