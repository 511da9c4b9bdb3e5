-- The state of a sideband reader, its listener and its interrupt (gitprotocol-pack, "Packfile Data").
use Rattle.std.specs.Prelude.{◌≡◌, ℕ, Bool, List, Option, Result}
use Rattle.std.specs.Borrow.{Bor}
use Rattle.std.specs.Option.{option_map}
use Rattle.std.specs.declared.io.Error.{Error as io_error}
use Rattle.gixp_packetline.specs.declared.read.Error.{Error}
use Rattle.gixp_sidebands.specs.declared.sidebands.WithSidebands.{WithSidebands}
use Rattle.gixp_packetline.specs.Reading.{Reading, PeeksLent, ReadsLent, refusal_of}
use Rattle.gixp_sidebands.specs.Bands.{Side, FillsLent, side_reading}
use Rattle.gixp_sidebands.specs.Reporting.{Listener, Reported, refusal_in}
use Rattle.gixp_sidebands.specs.Questions.{AskedBelow}

module _ {T P I : Type 0} {b : _} where
  abbrev pub side : (T → Reading) → WithSidebands T P I b → Side
  side reading s = record {
    place = s.front.place;
    name = s.front.at.ghost_name;
    asks = s.interrupt.ghost_name;
    reading = reading s.front.at.now;
    fault = option_map refusal_of s.fault;
  }

  -- the state of the sideband reader, as a reader of lines
  abbrev pub sidebands_reading : (T → Reading) → WithSidebands T P I b → Reading
  sidebands_reading reading s = side_reading (side reading s)

  abbrev pub listener : WithSidebands T P I b → Listener P I
  listener s = record { progress = s.progress; interrupt = s.interrupt.now }

  -- the interrupt was called after each packet of bands 2 and 3, and is still borrowed
  abbrev pub sidebands_asks : (T → Reading) → Bool → (I → Bool → I → Type 0) → WithSidebands T P I b → Bool → WithSidebands T P I b
      → Type 0
  sidebands_asks reading plain polls old stops new =
      AskedBelow polls plain stops (side reading old).reading (side reading new).reading (listener old).interrupt (listener new).interrupt
      × (new.interrupt.ghost_name ≡ old.interrupt.ghost_name)

  -- the reader below
  abbrev pub transport_of : WithSidebands T P I b → T
  transport_of s = s.front.at.now

  module _ (reading : T → Reading) (receives spares : P → Bool → List ℕ → P → Type 0) (polls : I → Bool → I → Type 0) (plain : Bool) where
    -- a call that lends content: the state after it, and the messages it reported
    pub record Lends (old : WithSidebands T P I b) (result : Result (Bor (List ℕ)) io_error) (new : WithSidebands T P I b) : Type 0 where
      pub fills : FillsLent (side reading old) (side reading new) result
      pub reported : Reported receives spares polls plain (side reading new).fault (side reading old).reading (side reading new).reading
          (listener old) (listener new)
      pub interrupt : new.interrupt.ghost_name ≡ old.interrupt.ghost_name

    -- the same, while the content is lent
    abbrev pub LendsFrom : WithSidebands T P I b → Result (Bor (List ℕ)) io_error → Type 0
    LendsFrom old result = (new : WithSidebands T P I b) × Lends old result new

    -- the messages that a call reported which lends a line
    abbrev pub ReportedLent : WithSidebands T P I b → Side → Listener P I → Result (Option (Bor (List ℕ))) Error → Type 0
    ReportedLent old new received_messages result = Reported receives spares polls plain (refusal_in result) (side reading old).reading new.reading
        (listener old) received_messages

    -- a call that lends the next line, and the messages it reported
    abbrev pub PeeksAndReports : WithSidebands T P I b → Result (Option (Bor (List ℕ))) Error → Type 0
    PeeksAndReports old result = (new : Side) × (received_messages : Listener P I)
        × PeeksLent (sidebands_reading reading old) (side_reading new) result × ReportedLent old new received_messages result

    -- a call that takes the next line and lends it, and the messages it reported
    abbrev pub ReadsAndReports : WithSidebands T P I b → Result (Option (Bor (List ℕ))) Error → Type 0
    ReadsAndReports old result = (new : Side) × (received_messages : Listener P I)
        × ReadsLent (sidebands_reading reading old) (side_reading new) result × ReportedLent old new received_messages result
