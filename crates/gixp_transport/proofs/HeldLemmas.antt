-- A reading call does the same whatever the state of the transport is.
use Rattle.std.proofs.Common.{◌≡◌, ℕ, List, Bool, true, false, ◌⊎◌, inl, inr, refl, Option, Some, None, IfSome, Result, Ok, Err}
use Rattle.gixp_packetline.specs.declared.read.Error.{Error}
use Rattle.gixp_packetline.specs.declared.protocol.Protocol.{Protocol}
use Rattle.gixp_packetline.specs.declared.protocol.MessageKind.{MessageKind}
use Rattle.gixp_packetline.specs.Pieces.{Refusal, io, decode, server, unexpected_frame, not_utf8, bad_band, interrupted, memory, Pieces}
use Rattle.gixp_capabilities.specs.declared.client.Error.{Error as ClientError}
use Rattle.gixp_capabilities.specs.declared.client.Error.TheVariants.{Io as ClientIo, Read as ClientRead, LineTooLong, AuthenticationUnsupported, UnsupportedProtocolVersion, MissingDelimitingNullByte, Memory as ClientMemory}
use Rattle.gixp_transport.specs.declared.service.SetServiceResponse.{SetServiceResponse}
use Rattle.gixp_capabilities.specs.Client.{ClientRefusal, client_refusal}
use Rattle.gixp_transport.specs.CapabilityAdvertisement.{Advertised, Answers, IsFromDevice, IsCaused, IsAdvertised, LeavesStreamIo, LeavesStream, Advertises}
use Rattle.std.specs.declared.io.ErrorKind.{ErrorKind}
use Rattle.gixp_packetline.specs.TransportState.{TransportState}
use Rattle.gixp_packetline.specs.Reading.{Reading, refusal_of, is_end, Stays, TakesLine, ShowsLine, TakesStop, AtStop, Refuses, IsFault, Fails, IsPlain, PlainIf, Reads, Peeks}

module _ (h : TransportState) (a b : Reading) where
  abbrev A : Reading
  A = record a { held = h }

  abbrev B : Reading
  B = record b { held = h }

  stays : Stays a b → Stays A B
  stays k = record {
    to_come = k.to_come;
    refused = k.refused;
    stopped = k.stopped;
    version = k.version;
    unpeeked = k.unpeeked;
    peeked = k.peeked;
    left = k.left;
    held = refl;
  }

  takes_line : TakesLine a b → TakesLine A B
  takes_line k = record {
    running = k.running;
    sound = k.sound;
    again = k.again;
    next = k.next;
    stopped = k.stopped;
    version = k.version;
    peeked = k.peeked;
    failures = k.failures;
    left = k.left;
    held = refl;
  }

  shows_line : ShowsLine a b → ShowsLine A B
  shows_line k = record {
    running = k.running;
    sound = k.sound;
    again = k.again;
    next = k.next;
    refused = k.refused;
    stopped = k.stopped;
    version = k.version;
    peeked = k.peeked;
    failures = k.failures;
    left = k.left;
    room = k.room;
    held = refl;
  }

  takes_stop : (kind : MessageKind) → TakesStop a b kind → TakesStop A B kind
  takes_stop kind k = record {
    running = k.running;
    sound = k.sound;
    unpeeked = k.unpeeked;
    is_stop = k.is_stop;
    next = k.next;
    stopped = k.stopped;
    version = k.version;
    peeked = k.peeked;
    failures = k.failures;
    left = k.left;
    held = refl;
  }

  at_stop : AtStop a b → AtStop A B
  at_stop (inl k) = inl (record { was = k.was; stays = stays k.stays; failures = k.failures })
  at_stop (inr (kind, k)) = inr (kind, takes_stop kind k)

  refuses : (e : Refusal) → Refuses a b e → Refuses A B e
  refuses e k = record {
    running = k.running;
    lasting = k.lasting;
    unpeeked = k.unpeeked;
    same = k.same;
    next = k.next;
    refused =
        k.refused;
    stopped = k.stopped;
    version = k.version;
    peeked = k.peeked;
    failures = k.failures;
    left = k.left;
    held = refl;
  }

  is_fault : (e : Refusal) → IsFault a b e → IsFault A B e
  is_fault (io kind) k = k
  is_fault (decode e) k = k
  is_fault (server m) k = k
  is_fault unexpected_frame k = k
  is_fault not_utf8 k = k
  is_fault (bad_band n) k = k
  is_fault interrupted k = k
  is_fault memory k = k

  fails : (e : Refusal) → Fails a b e → Fails A B e
  fails e (inl k) = inl (refuses e k)
  fails e (inr (inl k)) = inr (inl (record { running = k.running; fault = is_fault e k.fault; stays = stays k.stays }))
  fails e (inr (inr k)) =
      inr (inr (record {
        running = k.running;
        sound = k.sound;
        unpeeked = k.unpeeked;
        refusal = k.refusal;
        to_come = k.to_come;
        refused = k.refused;
        stopped = k.stopped;
        version = k.version;
        peeked = k.peeked;
        failures = k.failures;
        left = k.left;
        held = refl;
      }))

  pub reads : (r : Result Bool Error) → Reads a b r → Reads A B r
  reads (Ok true) k = takes_line k
  reads (Ok false) k = at_stop k
  reads (Err e) k = fails (refusal_of e) k

  pub peeks : (r : Result Bool Error) → Peeks a b r → Peeks A B r
  peeks (Ok true) k = shows_line k
  peeks (Ok false) k = at_stop k
  peeks (Err e) k = fails (refusal_of e) k

  is_plain : (e : Refusal) → IsPlain b e → IsPlain B e
  is_plain (io kind) k = k
  is_plain (decode e) k = k
  is_plain (server m) k = k
  is_plain unexpected_frame k = k
  is_plain not_utf8 k = k
  is_plain (bad_band n) k = k
  is_plain interrupted k = k
  is_plain memory k = k

  pub plain : (r : Result Bool Error) → PlainIf true b r → PlainIf true B r
  plain (Ok x) k = k
  plain (Err e) k = λ t. is_plain (refusal_of e) (k t)

  from_device : (e : ClientError) → IsFromDevice a b e → IsFromDevice A B e
  from_device (ClientIo kind) k = k
  from_device (ClientRead e) k = k
  from_device LineTooLong k = k
  from_device AuthenticationUnsupported k = k
  from_device (UnsupportedProtocolVersion t) k = k
  from_device MissingDelimitingNullByte k = k
  from_device ClientMemory k = k

  stands_io : (ends : Bool) (texts : List (List ℕ)) (kind : ErrorKind) → LeavesStreamIo ends texts a b kind → LeavesStreamIo ends texts A B kind
  stands_io true texts kind k = k
  stands_io false texts kind k = k

  stands_held : (texts : List (List ℕ)) (e : ClientError) → LeavesStream texts a b e → LeavesStream texts A B e
  stands_held texts (ClientIo kind) k = stands_io (is_end kind) texts kind k
  stands_held texts (ClientRead e) k = k
  stands_held texts LineTooLong k = k
  stands_held texts AuthenticationUnsupported k = k
  stands_held texts (UnsupportedProtocolVersion t) k = k
  stands_held texts MissingDelimitingNullByte k = k
  stands_held texts ClientMemory k = k

  answers_held : (x : Advertised) (found : SetServiceResponse) → Answers x b found → Answers x B found
  answers_held x found k =
      record { version = k.version; capabilities = k.capabilities; has_refs = k.has_refs; rest = k.rest; stopped = k.stopped }

  value_held : (advertised : Pieces → Result Advertised ClientRefusal) (found : SetServiceResponse) (o : Option Pieces)
      → IfSome o (λ p. (x : Advertised) × (advertised p ≡ Ok x) × Answers x b found)
      → IfSome o (λ p. (x : Advertised) × (advertised p ≡ Ok x) × Answers x B found)
  value_held advertised found None k = tt
  value_held advertised found (Some p) k = (k.0, k.1, answers_held k.0 found k.2)

  says_held : (found : SetServiceResponse) → IsAdvertised b found → IsAdvertised B found
  says_held found (inl k) = inl (record { texts = k.texts; capabilities = k.capabilities; has_refs = k.has_refs; stopped = k.stopped })
  says_held found (inr (inl k)) = inr (inl (record { capabilities = k.capabilities; has_refs = k.has_refs; stopped = k.stopped }))
  says_held found (inr (inr k)) =
      inr (inr (record {
        text = k.text;
        place = k.place;
        capabilities = k.capabilities;
        has_refs = k.has_refs;
        line = k.line;
        peeked = k.peeked;
        stopped = k.stopped;
      }))

  pub advertises : (advertised : Pieces → Result Advertised ClientRefusal) (takes : Protocol → List (List ℕ) → Type 0)
      (r : Result SetServiceResponse ClientError) → Advertises advertised takes a b r → Advertises advertised takes A B r
  advertises advertised takes (Ok found) k = record {
    value = value_held advertised found a.to_come k.value;
    says = says_held found k.says;
    version = k.version;
    failures = k.failures;
    left = k.left;
    held = refl;
  }
  advertises advertised takes (Err e) k = record {
    why = why k.why;
    caused = caused k.caused;
    taken = k.taken;
    by_version = k.by_version;
    stands = stands_held k.taken e k.stands;
    stopped = k.stopped;
    left = k.left;
    held = refl;
  }
    where
      why : (IfSome a.to_come (λ p. advertised p ≡ Err (client_refusal e)) × (b.failures ≡ a.failures)) ⊎ IsFromDevice a b e
          → (IfSome a.to_come (λ p. advertised p ≡ Err (client_refusal e)) × (b.failures ≡ a.failures)) ⊎ IsFromDevice A B e
      why (inl k) = inl k
      why (inr k) = inr (from_device e k)

      caused : IsCaused a b e → IsCaused A B e
      caused (inl k) = inl k
      caused (inr k) = inr (from_device e k)
