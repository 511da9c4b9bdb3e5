-- The listener that bands 2 and 3 are reported to, and the interrupt that is called after each of their packets
-- (gitprotocol-pack, "Packfile Data").
use Rattle.std.specs.Prelude.{◌≡◌, ℕ, ◌⊎◌, Bool, true, false, List, [], ◌∷◌, ◌++◌, Option, Some, None, IfSome, Result, Ok, Err}
use Rattle.gixp_packetline.specs.declared.read.Error.{Error}
use Rattle.gixp_packetline.specs.declared.read.Error.TheVariants.{Interrupted, Memory}
use Rattle.gixp_packetline.specs.Pieces.{Refusal, io, memory, interrupted, Pieces}
use Rattle.gixp_packetline.specs.Reading.{Reading, TakesLine, Rose, refusal_of, is_end}
use Rattle.gixp_sidebands.specs.Bands.{Message, messages_left}

-- the states of the listener and the interrupt
pub record Listener (P I : Type 0) : Type 0 where
  pub progress : P
  pub interrupt : I

module _ {P I : Type 0} (receives spares : P → Bool → List ℕ → P → Type 0) (polls : I → Bool → I → Type 0) where
  -- a text is reported unless it is empty
  abbrev pub ReportsText : Bool → List ℕ → P → P → Type 0
  ReportsText is_error [] p q = q ≡ p
  ReportsText is_error (x ∷ xs) p q = receives p is_error (x ∷ xs) q

  -- an allocation failed for a text; the text is not empty
  abbrev pub SparesText : Bool → List ℕ → P → P → Type 0
  SparesText is_error [] p q = ⊥
  SparesText is_error (x ∷ xs) p q = spares p is_error (x ∷ xs) q

  -- an allocation failed for a message, and the interrupt was not called
  abbrev pub SparesThen : Message → Listener P I → Listener P I → Type 0
  SparesThen m a b = SparesText m.is_error m.text a.progress b.progress × (b.interrupt ≡ a.interrupt)

  -- a message was reported, and then the interrupt returned this
  abbrev pub ReportsThen : Message → Bool → Listener P I → Listener P I → Type 0
  ReportsThen m answer a b = ReportsText m.is_error m.text a.progress b.progress × polls a.interrupt answer b.interrupt

  -- these messages were reported in order, and after each the interrupt returned false
  abbrev pub Reports : List Message → Listener P I → Listener P I → Type 0
  Reports [] a b = b ≡ a
  Reports (m ∷ ms) a c = (b : Listener P I) × ReportsThen m false a b × Reports ms b c

  -- the messages that are not left were reported
  pub record ReportedTo (old new : Reading) (a b : Listener P I) (p q : Pieces) : Type 0 where
    pub to_come : new.to_come ≡ Some q
    pub reported : List Message
    pub messages : messages_left old.stopped p ≡ reported ++ messages_left new.stopped q
    pub reports : Reports reported a b

  -- the same; then the next one was reported, and the interrupt returned true
  pub record ReportedUntil (old new : Reading) (a c : Listener P I) (p q : Pieces) : Type 0 where
    pub to_come : new.to_come ≡ Some q
    pub reported : List Message
    pub last : Message
    pub messages : messages_left old.stopped p ≡ reported ++ last ∷ messages_left new.stopped q
    pub before : Listener P I
    pub reports : Reports reported a before
    pub stops : ReportsThen last true before c

  -- the messages that are not left were reported; if an allocation failed for the next one, it is still to come, and
  -- nothing else was reported in its place
  pub record ReportedBut (old new : Reading) (a c : Listener P I) (p q : Pieces) : Type 0 where
    pub before : Listener P I
    pub reported : ReportedTo old new a before p q
    pub spared : (c ≡ before) ⊎ ((m : Message) × (rest : List Message) × (messages_left new.stopped q ≡ m ∷ rest) × SparesThen m before c)

  -- some of the first messages were reported
  pub record ReportedSome (old : Reading) (a b : Listener P I) (p : Pieces) : Type 0 where
    pub reported : List Message
    pub rest : List Message
    pub messages : messages_left old.stopped p ≡ reported ++ rest
    pub reports : Reports reported a b

  -- the messages that are not left were reported; or only the first ones, if a read failed with `UnexpectedEof`, which counts as a failure
  abbrev pub ReportedUnless : Bool → Reading → Reading → Listener P I → Listener P I → Pieces → Type 0
  ReportedUnless true old new a b p = ((q : Pieces) × ReportedTo old new a b p q) ⊎ (ReportedSome old a b p × Rose old.failures new.failures)
  ReportedUnless false old new a b p = (q : Pieces) × ReportedTo old new a b p q

  -- the messages that a call reported, by its error; the reader below may itself be interrupted if it isn't plain
  abbrev pub ReportedBy : Bool → Option Refusal → Reading → Reading → Listener P I → Listener P I → Pieces → Type 0
  ReportedBy plain None old new a b p = (q : Pieces) × ReportedTo old new a b p q
  ReportedBy plain (Some interrupted) old new a b p = (q : Pieces) × (ReportedUntil old new a b p q ⊎ ((plain ≡ false) × ReportedTo old new a b p q))
  ReportedBy plain (Some memory) old new a b p = (q : Pieces) × ReportedBut old new a b p q
  ReportedBy plain (Some (io kind)) old new a b p = ReportedUnless (is_end kind) old new a b p
  ReportedBy plain (Some e) old new a b p = (q : Pieces) × ReportedTo old new a b p q

  -- the same, where the packet lines to come are known
  abbrev pub Reported : Bool → Option Refusal → Reading → Reading → Listener P I → Listener P I → Type 0
  Reported plain refusal old new a b = IfSome old.to_come (ReportedBy plain refusal old new a b)

  -- the packet that was peeked at was reported and taken, or it is still to come
  abbrev pub ReportsPacket : {X : Type 0} → Message → Reading → Reading → Listener P I → Listener P I → Result X Error → Type 0
  ReportsPacket m old new a b (Ok x) = TakesLine old new × ReportsThen m false a b
  ReportsPacket m old new a b (Err Interrupted) = TakesLine old new × ReportsThen m true a b
  ReportsPacket m old new a b (Err Memory) = (new ≡ old) × SparesThen m a b
  ReportsPacket m old new a b (Err e) = ⊥

abbrev pub refusal_in : {X : Type 0} → Result X Error → Option Refusal
refusal_in (Ok x) = None
refusal_in (Err e) = Some (refusal_of e)
