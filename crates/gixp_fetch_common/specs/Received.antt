-- The receiver of a pack: a whole pack is held until it is kept, and any other is removed.
use Rattle.std.specs.Prelude.{◌≡◌, ℕ, Bool, true, List, [], ◌++◌, Option, Some, None, IfSome, String, Result, Ok, Err, refl, ◌⊎◌}
use Rattle.std.specs.declared.alloc.Global.{Global}
use Rattle.std.specs.declared.io.ErrorKind.{ErrorKind}
use Rattle.std.proofs.Common.{subst, sym, inl, inr}
use Rattle.gix_protocol.specs.Pieces.{Pieces}
use Rattle.gix_protocol.specs.Bands.{Side, IsFirstOf, side_content, side_reading, Passes}
use Rattle.gix_protocol.specs.Ends.{end-stays}
use Rattle.gix_protocol.specs.Receive.{ReadsOn}
use Rattle.gix_protocol.specs.PackErrorType.TheVariants.{Refused}
use Rattle.gix_protocol.specs.SessionErrorType.{Error}
use Rattle.gix_protocol.specs.SessionErrorType.TheVariants.{Pack, Memory}
use Rattle.gixp_pack.specs.declared.check.PackSummary.{PackSummary}
use Rattle.gixp_fetch_common.specs.declared.receive.Whole.{Whole}
use Rattle.gixp_fetch_common.specs.declared.receive_error.ReceiveError.{ReceiveError}
use Rattle.gixp_fetch_common.specs.declared.receive_error.ReceiveError.TheVariants.{Begin}
use Rattle.gixp_fetch_common.specs.declared.receive_error.ReceiveError.TheVariants as receive
use Rattle.gixp_fetch_common.specs.PackCopied.{ReceivesNext, ChecksPack, copies_pack_reads}

-- what is still to come is an end of what was to come
abbrev pub LeavesEnd : Side → Side → Type 0
LeavesEnd start end = (read : List ℕ) × ReadsOn start end read × ((side_reading end).held ≡ (side_reading start).held)

pub came_leaves : (start end : Side) → (read : List ℕ) × ReceivesNext start read end → LeavesEnd start end
came_leaves start end h = (h.0, record { content = h.1.content; ending = h.1.ending }, h.1.held)

nothing_passes : (s : Side) → Passes s s []
nothing_passes s = at s.reading.to_come
  where
    at : (o : Option Pieces) → IfSome o (λ p. IsFirstOf s p → (q : Pieces) × (o ≡ Some q) × IsFirstOf s q
        × (side_content s p ≡ [] ++ side_content s q))
    at None = tt
    at (Some p) = λ f. (p, refl, f, refl)

module _ {P W : Type 0} (begins : P → W → P → Type 0) (gives_up : P → W → P → Type 0) (contents : W → Option (List ℕ)) where
  -- no place could be opened, and nothing was read
  pub record NotBegun (p : P) (start : Side) (e : ReceiveError) (q : P) (end : Side) : Type 0 where
    pub alloc : Global
    pub kind : ErrorKind
    pub reported : e ≡ Begin alloc kind
    pub place : q ≡ p
    pub unread : end ≡ start

  -- a pack was written as far as it came, and then removed
  pub record TakenAway (p : P) (start : Side) (e : ReceiveError) (q : P) (end : Side) : Type 0 where
    pub first : W
    pub last : W
    pub mid : P
    pub begun : begins p first mid
    pub copied : ChecksPack (contents first) start (Err e) (contents last) end
    pub given_up : gives_up mid last q

  -- a whole pack was written
  pub record HeldWhole (p : P) (start : Side) (whole : Whole W) (q : P) (end : Side) : Type 0 where
    pub first : W
    pub begun : begins p first q
    pub copied : ChecksPack (contents first) start (Ok whole.summary) (contents whole.writer) end

  -- what a call of the consumer does: it holds a whole pack, or it removes what was written, if it wrote anything
  abbrev pub ReceivesPack : P → Side → Result Bool ReceiveError → Option (Whole W) → P → Side → Type 0
  ReceivesPack p start (Ok finished) (Some whole) q end = (finished ≡ true) × HeldWhole p start whole q end
  ReceivesPack p start (Ok finished) None q end = ⊥
  ReceivesPack p start (Err e) whole q end = (whole ≡ None) × (NotBegun p start e q end ⊎ TakenAway p start e q end)

  pub receives_owes : (p q : P) (start end : Side) (r : Result Bool ReceiveError) (whole : Option (Whole W))
      → ReceivesPack p start r whole q end → LeavesEnd start end
  receives_owes p q start end (Ok finished) (Some whole) h =
      came_leaves start end (copies_pack_reads (contents h.1.first) (contents whole.writer) start end (Ok whole.summary) h.1.copied)
  receives_owes p q start end (Ok finished) None h = absurd h
  receives_owes p q start end (Err e) whole (none, inl h) =
      subst (λ (s : Side). LeavesEnd start s) (sym h.unread)
      ([], record { content = nothing_passes start; ending = λ _. end-stays start.reading }, refl)
  receives_owes p q start end (Err e) whole (none, inr h) =
      came_leaves start end (copies_pack_reads (contents h.first) (contents h.last) start end (Err e) h.copied)

-- the client's error for a pack that wasn't received
abbrev pub IsUnreceived : ReceiveError → Error → Type 0
IsUnreceived receive.Memory e = e ≡ Memory
IsUnreceived why e = ((text : String Global) × (e ≡ Pack (Refused text))) ⊎ (e ≡ Memory)

-- a pack that was held is kept, and its summary is returned; without one nothing changes
abbrev pub KeepsHeld : {P W : Type 0} → (P → W → P → Type 0) → Option (Whole W) → P → Option PackSummary → P → Type 0
KeepsHeld keeps (Some whole) p summary q = (summary ≡ Some whole.summary) × keeps p whole.writer q
KeepsHeld keeps None p summary q = (summary ≡ None) × (q ≡ p)

-- a pack that was held is removed; without one nothing changes
abbrev pub DropsHeld : {P W : Type 0} → (P → W → P → Type 0) → Option (Whole W) → P → P → Type 0
DropsHeld gives_up (Some whole) p q = gives_up p whole.writer q
DropsHeld gives_up None p q = q ≡ p
