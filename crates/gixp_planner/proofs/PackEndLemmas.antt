-- How a session ends with a pack: it is taken where it ends at a stop, and refused where it ends in a refusal.
use Rattle.std.proofs.Common.{◌≡◌, ◌⊎◌, arith, Bool, true, false, codes, Option, Some, None, Result, Ok, Err, IfSome, IsSome, inl, inr, refl, sym, ap, ◌∙◌, subst}
use Rattle.std.specs.Prelude.{if◌then◌else◌}
use Rattle.std.specs.Borrow.{GName}
use Rattle.std.specs.Option.{option_map}
use Rattle.gixp_packetline.specs.declared.protocol.Protocol.{Protocol}
use Rattle.gixp_packetline.specs.declared.protocol.MessageKind.{MessageKind}
use Rattle.gixp_packetline.specs.declared.read.Error.{Error as read_error}
use Rattle.gixp_packetline.specs.declared.read.Error.TheVariants as read
use Rattle.gixp_packetline.specs.Lines.{Ending, lines_of}
use Rattle.gixp_packetline.specs.Lines as lines
use Rattle.gixp_packetline.specs.Pieces.{Refusal, io, decode, server, unexpected_frame, not_utf8, bad_band, interrupted, memory, Pieces, no_pieces}
use Rattle.gixp_packetline.specs.Lines.{next_of, refuses}
use Rattle.gixp_packetline.specs.Reading.{Reading, Refuses, Fails, IsFault, refusal_of, lines_ahead, lines_from_stop}
use Rattle.gixp_sidebands.specs.Bands.{Side, side_reading, banded_reading, unband, unband_after, is_begun, end_left, KeepsEnd}
use Rattle.gixp_sidebands.proofs.EndLemmas.{ends_refused}
use Rattle.gixp_response.specs.Answer.{AnswerValue, Found, whole}
use Rattle.gixp_response.specs.AnswerReading.{Answered}
use Rattle.gixp_fetch.specs.declared.consume.copy.CopyError.{CopyError}
use Rattle.gixp_fetch.specs.declared.consume.copy.CopyError.TheVariants.{Read, Write}
use Rattle.gixp_fetch.specs.declared.error.Error.{Error as FetchError}
use Rattle.gixp_fetch.specs.declared.error.Error.TheVariants as fetch
use Rattle.gixp_fetch.specs.Consume.{PassesOver}
use Rattle.gixp_fetch.specs.FetchError.{of_read}
use Rattle.gixp_fetch.specs.Receive.{Consumed, DrainFails, PassedLines, fresh_side}
use Rattle.gixp_fetch.specs.Received.{PackRefused, Received}
use Rattle.gixp_fetch.specs.View.{view}
use Rattle.gixp_planner.specs.Refusal.{PlanRefusal, refusal}
use Rattle.gixp_planner.specs.Session.{end_of}
use Rattle.gixp_planner.specs.Alike.{IsInterrupted, IsPackDisturbed, IsDisturbed}
use Rattle.gixp_planner.proofs.MappedLemmas.{if-known}
use Rattle.gixp_planner.proofs.AnswerLemmas.{never-none, view-failures}
use Rattle.gixp_planner.proofs.CountLemmas.{back-failures}

-- ---- what ends a pack

-- what ends the pack in the pieces after an answer, which were read as they are or through the bands
abbrev pub pack_end : Bool → Protocol → Pieces → Ending
pack_end false version rest = (lines_of version (unband rest)).ending
pack_end true version rest = (lines_of version rest).ending

-- how a session ends with such a pack
abbrev pub pack_ended : Ending → Result Bool PlanRefusal
pack_ended (lines.stop kind rest) = Ok true
pack_ended (lines.refusal e) = Err (refusal (codes "fetch") (codes "ConsumePack"))

-- this ends the content to come
abbrev pub EndIs : Reading → Ending → Type 0
EndIs r end = (p : Pieces) × (r.to_come ≡ Some p) × (end_left r p ≡ end)

-- this is how a session ends whose pack is to come
abbrev pub EndsWithPack : Reading → Result Bool PlanRefusal → Type 0
EndsWithPack r ended = IfSome r.to_come (λ p. ended ≡ pack_ended (end_left r p))

pub pack-ended : (r : Reading) (end : Ending) (ended : Result Bool PlanRefusal) → EndIs r end → EndsWithPack r ended
    → ended ≡ pack_ended end
pack-ended r end ended i w = if-known (λ p. ended ≡ pack_ended (end_left r p)) r.to_come i.0 i.1 w ∙ ap pack_ended i.2

-- of a reader that is at no stop
running : (r : Reading) (v : Protocol) (p : Pieces) → r.stopped ≡ None → r.version ≡ v → (lines_ahead r p).ending ≡ (lines_of v p).ending
running r v p s e = ap (λ x. (lines_from_stop x r.version p).ending) s ∙ ap (λ x. (lines_of x p).ending) e

-- the pieces after an answer are those to come
end-after : (banded : Bool) (r : Reading) (v : Protocol) (q : Pieces) → (view banded r).to_come ≡ Some q
    → (view banded r).stopped ≡ None → (view banded r).version ≡ v → EndIs r (pack_end banded v q)
unfolding view
end-after false r v q c s e = (q, c, running r v (unband q) s e)
end-after true r v q c s e = at r.to_come refl c
  where
    at : (o : Option Pieces) → r.to_come ≡ o → option_map unband o ≡ Some q → EndIs r (pack_end true v q)
    at None f h = absurd (let x = h in cc)
    at (Some p) f h =
        let u : unband p ≡ q = let x = h in cc in
        (p, f, running r v (unband p) s e ∙ ap (λ x. (lines_of v x).ending) u)

-- an answer that was read, and what ends its pack, if it has one
pub found-end : (found : Pieces → Found) (under : Protocol) (banded : Bool) (old new : Reading) (p : Pieces) (x : AnswerValue)
    → old.to_come ≡ Some p → new.failures ≡ 0 → Answered found under old (view banded new) x
    → (q : Pieces) × (found p ≡ whole x q) × (x.pack ≡ true → EndIs new (pack_end banded under q))
found-end found under banded old new p x e z (inl r) =
    let a = if-known _ old.to_come p e r.answer in
    (a.0, a.2, λ has. end-after banded new under a.0 a.1 (r.running has) r.version)
found-end found under banded old new p x e z (inr b) =
    absurd (never-none old.failures (view banded new).failures b.failures (view-failures banded new ∙ z))

-- ---- who reads to the end of a pack

-- what ends the content to come is a refusal
abbrev pub EndsRefused : Reading → Type 0
EndsRefused r = IfSome r.to_come (λ p. (e : Refusal) × (end_left r p ≡ lines.refusal e))

-- a consumer that goes by the stream: it reads up to the stop; it is refused by the refusal that ends the content, unless an interrupt
-- or an allocation failure came, or a failure was counted
pub record FollowsPack {C P : Type 0} (consumes : C → Side → P → Result Bool CopyError → C → Side → P → Type 0) : Type 0 where
  pub counts : (c : C) (s : Side) (p : P) (x : CopyError) (d : C) (t : Side) (q : P) → consumes c s p (Err x) d t q
      → t.reading.failures ≡ 0 → s.reading.failures ≡ 0
  pub takes : (c : C) (s : Side) (p : P) (finished : Bool) (d : C) (t : Side) (q : P) → consumes c s p (Ok finished) d t q
      → IsSome t.reading.stopped × KeepsEnd s.reading t.reading
  pub refuses : (c : C) (s : Side) (p : P) (x : CopyError) (d : C) (t : Side) (q : P) → consumes c s p (Err x) d t q
      → t.reading.failures ≡ 0 → IsPackDisturbed x ⊎ EndsRefused s.reading

-- a fault that isn't counted
fault-none : (old new : Reading) (e : Refusal) → IsFault old new e → new.failures ≡ 0
    → ((e ≡ interrupted) ⊎ (e ≡ memory)) × (old.failures ≡ 0)
fault-none old new (io kind) f z = absurd (never-none old.failures new.failures f.2 z)
fault-none old new (decode x) f z = absurd f
fault-none old new (server m) f z = absurd f
fault-none old new unexpected_frame f z = absurd f
fault-none old new not_utf8 f z = absurd f
fault-none old new (bad_band b) f z = absurd f
fault-none old new interrupted f z = (inl refl, sym f.1 ∙ z)
fault-none old new memory f z = (inr refl, sym f ∙ z)

-- a refusal that isn't counted
pub fails-none : (old new : Reading) (e : Refusal) → Fails old new e → new.failures ≡ 0
    → (Refuses old new e ⊎ ((e ≡ interrupted) ⊎ (e ≡ memory))) × (old.failures ≡ 0)
fails-none old new e (inl r) z = (inl r, sym r.failures ∙ z)
fails-none old new e (inr (inl f)) z = let h = fault-none old new e f.fault z in (inr h.0, h.1)
fails-none old new e (inr (inr b)) z = absurd (never-none old.failures new.failures b.failures z)

read-interrupted : (e : read_error) → refusal_of e ≡ interrupted → IsInterrupted e
read-interrupted (read.Io kind) h = cc
read-interrupted (read.Decode x) h = cc
read-interrupted (read.Server m) h = cc
read-interrupted read.UnexpectedFrame h = cc
read-interrupted read.NotUtf8 h = cc
read-interrupted (read.BadBand b) h = cc
read-interrupted read.Interrupted h = tt
read-interrupted read.Memory h = cc

read-memory : (e : read_error) → refusal_of e ≡ memory → e ≡ read.Memory
read-memory (read.Io kind) h = cc
read-memory (read.Decode x) h = cc
read-memory (read.Server m) h = cc
read-memory read.UnexpectedFrame h = cc
read-memory read.NotUtf8 h = cc
read-memory (read.BadBand b) h = cc
read-memory read.Interrupted h = cc
read-memory read.Memory h = refl

copy-disturbed : (e : read_error) → (refusal_of e ≡ interrupted) ⊎ (refusal_of e ≡ memory) → IsPackDisturbed (Read e)
copy-disturbed (read.Io kind) (inl h) = cc
copy-disturbed (read.Io kind) (inr h) = cc
copy-disturbed (read.Decode x) (inl h) = cc
copy-disturbed (read.Decode x) (inr h) = cc
copy-disturbed (read.Server m) (inl h) = cc
copy-disturbed (read.Server m) (inr h) = cc
copy-disturbed read.UnexpectedFrame (inl h) = cc
copy-disturbed read.UnexpectedFrame (inr h) = cc
copy-disturbed read.NotUtf8 (inl h) = cc
copy-disturbed read.NotUtf8 (inr h) = cc
copy-disturbed (read.BadBand b) (inl h) = cc
copy-disturbed (read.BadBand b) (inr h) = cc
copy-disturbed read.Interrupted h = tt
copy-disturbed read.Memory h = tt

-- lines that a refusal comes next in end in it
refused-ahead : (r : Reading) (e : Refusal) (p : Pieces) → r.stopped ≡ None → next_of r.version p ≡ refuses e
    → (lines_ahead r p).ending ≡ lines.refusal e
refused-ahead r e p s n = running r r.version p s refl ∙ ends_refused r.version p.list p.end e n

-- content that a reader of bands finds a refusal in ends in it
refused-end : (now failed : Side) (e : Refusal) → now.place ≡ None → Refuses (side_reading now) (side_reading failed) e
    → EndsRefused now.reading
refused-end now failed e o r =
    let g : Refuses (banded_reading false now.name now.reading) (side_reading failed) e = rw o at r in at now.reading.to_come g.next
  where
    at : (o : Option Pieces) → IfSome (option_map unband o) (λ p. ((side_reading failed).to_come ≡ Some (no_pieces e))
        × (next_of now.reading.version p ≡ refuses e))
        → IfSome o (λ p. (x : Refusal) × (end_left now.reading p ≡ lines.refusal x))
    at None h = tt
    at (Some p) h = (e, refused-ahead now.reading e (unband p) r.running h.1)

-- what ends it was that before
refused-before : (old new : Reading) → KeepsEnd old new → EndsRefused new → EndsRefused old
refused-before old new k h = at old.to_come new.to_come k h
  where
    at : (a b : Option Pieces) → IfSome a (λ p. (q : Pieces) × (b ≡ Some q) × (end_left new q ≡ end_left old p))
        → IfSome b (λ q. (e : Refusal) × (end_left new q ≡ lines.refusal e))
        → IfSome a (λ p. (e : Refusal) × (end_left old p ≡ lines.refusal e))
    at None b k h = tt
    at (Some p) b k h = let x = if-known (λ q. (e : Refusal) × (end_left new q ≡ lines.refusal e)) b k.0 k.1 h in (x.0, sym k.2 ∙ x.1)

-- a reader to the end of a pack goes by the stream
pub refused-by-stream : (start end : Side) (x : CopyError) → PassesOver start (Err x) end → end.reading.failures ≡ 0
    → (IsPackDisturbed x ⊎ EndsRefused start.reading) × (start.reading.failures ≡ 0)
refused-by-stream start end (Write kind) h z = absurd h
refused-by-stream start end (Read e) h z =
    let r = h.5 in
    let f = fails-none (side_reading r.now) (side_reading r.failed) r.refused.refusal r.refused.fails
    (ap (λ (s : Side). s.reading.failures) (sym r.taken) ∙ z) in
    (at f.0, sym r.copied.failures ∙ f.1)
  where
    at : (Refuses (side_reading h.5.now) (side_reading h.5.failed) h.5.refused.refusal
        ⊎ ((h.5.refused.refusal ≡ interrupted) ⊎ (h.5.refused.refusal ≡ memory))) → IsPackDisturbed (Read e) ⊎ EndsRefused start.reading
    at (inl r) = inr (refused-before start.reading h.5.now.reading h.5.copied.ending
        (refused-end h.5.now h.5.failed h.5.refused.refusal h.5.refused.unopened r))
    at (inr (inl d)) = inl (copy-disturbed e (inl (h.5.gives ∙ d)))
    at (inr (inr d)) = inl (copy-disturbed e (inr (h.5.gives ∙ d)))

-- ---- a fetch that came to a pack

-- a reader that is at a stop
stop-here : (r : Reading) (p : Pieces) → IsSome r.stopped → (kind : MessageKind) × ((lines_ahead r p).ending ≡ lines.stop kind p)
stop-here r p i = at r.stopped i
  where
    at : (o : Option MessageKind) → IsSome o → (kind : MessageKind) × ((lines_from_stop o r.version p).ending ≡ lines.stop kind p)
    at None i = absurd (let x = i in cc)
    at (Some kind) i = (kind, refl)

stop-or-not : (end : Ending) (kind : MessageKind) (p : Pieces) (e : Refusal) → end ≡ lines.stop kind p → end ≡ lines.refusal e → ⊥
stop-or-not end kind p e h k = let q : lines.stop kind p ≡ lines.refusal e = sym h ∙ k in cc q

module _ {C P : Type 0} (consumes : C → Side → P → Result Bool CopyError → C → Side → P → Type 0) (follows : FollowsPack consumes)
    (c : C) (from : Reading) (d : C) (new : Reading) (q : P) where
  -- it was taken
  pub taken-ends : Received consumes c from d new q → EndsWithPack from (Ok true)
  taken-ends r = at from.to_come r.mid.reading.to_come t.1
    where
      t : IsSome r.mid.reading.stopped × KeepsEnd from r.mid.reading
      t = follows.takes c (fresh_side r.name r.asks from) r.p r.finished d r.mid q r.consumed.took

      at : (a b : Option Pieces) → IfSome a (λ p. (x : Pieces) × (b ≡ Some x) × (end_left r.mid.reading x ≡ end_left from p))
          → IfSome a (λ p. Ok true ≡ pack_ended (end_left from p))
      at None b k = tt
      at (Some p) b k =
          let s = stop-here r.mid.reading (unband k.0) t.0 in
          ap pack_ended (sym s.1 ∙ k.2)

  module _ {A : Type 0} (e : FetchError A CopyError) (z : new.failures ≡ 0) (undisturbed : IsDisturbed e → ⊥) where
    abbrev Ended : Result Bool PlanRefusal
    Ended = end_of {A = A} {X = CopyError} (Err e)

    -- its consumer was refused
    refused-so : (x : CopyError) → e ≡ fetch.ConsumePack x → IsPackDisturbed x ⊎ EndsRefused from → EndsWithPack from Ended
    refused-so x g (inl b) = absurd (undisturbed (subst (λ w. IsDisturbed w) (sym g) b))
    refused-so x g (inr r) = at from.to_come r
      where
        at : (o : Option Pieces) → IfSome o (λ p. (y : Refusal) × (end_left from p ≡ lines.refusal y))
            → IfSome o (λ p. Ended ≡ pack_ended (end_left from p))
        at None h = tt
        at (Some p) h = ap (λ (w : FetchError A CopyError). end_of {A = A} {X = CopyError} (Err w)) g ∙ ap pack_ended (sym h.1)

    rest-interrupted : (x : read_error) → refusal_of x ≡ interrupted → IsDisturbed {A = A} (of_read x)
    rest-interrupted (read.Io kind) h = cc
    rest-interrupted (read.Decode x) h = cc
    rest-interrupted (read.Server m) h = cc
    rest-interrupted read.UnexpectedFrame h = cc
    rest-interrupted read.NotUtf8 h = cc
    rest-interrupted (read.BadBand b) h = cc
    rest-interrupted read.Interrupted h = tt
    rest-interrupted read.Memory h = cc

    -- after a stop no refusal of the stream comes before the next
    none-refuses : (mid now end : Reading) (x : Refusal) → IsSome mid.stopped → PassedLines mid now → Refuses now end x → (p : Pieces)
        → mid.to_come ≡ Some p → ⊥
    none-refuses mid now end x i t r p k =
        let y = if-known (λ p. (q : Pieces) × (now.to_come ≡ Some q) × ((lines_ahead mid p).ending ≡ (lines_ahead now q).ending))
        mid.to_come p k t.rest in
        let n = if-known (λ p. (end.to_come ≡ Some (no_pieces x)) × (next_of now.version p ≡ refuses x)) now.to_come y.0 y.1 r.next in
        let s = stop-here mid p i in
        stop-or-not (lines_ahead mid p).ending s.0 p x s.1 (y.2 ∙ refused-ahead now x y.0 r.running n.1)

    -- what comes after it was refused
    rest-so : (mid end : Side) (x : read_error) → e ≡ of_read x → IsSome mid.reading.stopped × KeepsEnd from mid.reading
        → DrainFails (side_reading mid) (side_reading end) x → end.reading.failures ≡ 0 → EndsWithPack from Ended ⊎ (e ≡ fetch.Memory)
    rest-so mid end x g t f v = by (fails-none f.now (side_reading end) (refusal_of x) f.refused v).0
      where
        known : (q : Pieces) → mid.reading.to_come ≡ Some q → Refuses f.now (side_reading end) (refusal_of x) → ⊥
        known q k r =
            none-refuses (side_reading mid) f.now (side_reading end) (refusal_of x) t.0 f.passed r
            ((if is_begun mid.place then unband_after else unband) q)
            (ap (option_map (if is_begun mid.place then unband_after else unband)) k)

        never : (o : Option Pieces) → IfSome o (λ p. (q : Pieces) × (mid.reading.to_come ≡ Some q)
            × (end_left mid.reading q ≡ end_left from p)) → Refuses f.now (side_reading end) (refusal_of x)
            → IfSome o (λ p. Ended ≡ pack_ended (end_left from p))
        never None h r = tt
        never (Some p) h r = absurd (known h.0 h.1 r)

        by : Refuses f.now (side_reading end) (refusal_of x) ⊎ ((refusal_of x ≡ interrupted) ⊎ (refusal_of x ≡ memory))
            → EndsWithPack from Ended ⊎ (e ≡ fetch.Memory)
        by (inl r) = inl (never from.to_come t.1 r)
        by (inr (inl i)) = absurd (undisturbed (subst (λ w. IsDisturbed w) (sym g) (rest-interrupted x i)))
        by (inr (inr m)) = inr (g ∙ ap of_read (read-memory x m))

    -- of known pieces, unless it was for memory
    module _ (is_other : e ≡ fetch.Memory → ⊥) (pieces : Pieces) (known : from.to_come ≡ Some pieces) where
      by-consumer : (name asks : GName) (p : P) (x : CopyError) (end : Side)
          → Consumed consumes c (fresh_side name asks from) p (Err x) d end q
          → e ≡ fetch.ConsumePack x → end.reading.failures ≡ 0 → Ended ≡ pack_ended (end_left from pieces)
      by-consumer name asks p x end f g v =
          if-known (λ p. Ended ≡ pack_ended (end_left from p)) from.to_come pieces known
          (refused-so x g (follows.refuses c (fresh_side name asks from) p x d end q f.took v))

      by-rest : (name asks : GName) (p : P) (x : read_error) (mid end : Side)
          → Consumed consumes c (fresh_side name asks from) p (Ok true) d mid q
          → DrainFails (side_reading mid) (side_reading end) x → e ≡ of_read x → end.reading.failures ≡ 0
          → Ended ≡ pack_ended (end_left from pieces)
      by-rest name asks p x mid end f h g v =
          at (rest-so mid end x g (follows.takes c (fresh_side name asks from) p true d mid q f.took) h v)
        where
          at : EndsWithPack from Ended ⊎ (e ≡ fetch.Memory) → Ended ≡ pack_ended (end_left from pieces)
          at (inl w) = if-known (λ p. Ended ≡ pack_ended (end_left from p)) from.to_come pieces known w
          at (inr m) = absurd (is_other m)

      by-either : (r : PackRefused consumes c from e d new q) → r.end.reading.failures ≡ 0 → Ended ≡ pack_ended (end_left from pieces)
      by-either r v = let h = r.fails in let g = r.gives in grind (arith, by-consumer, by-rest)

    memory-or-other : (x : FetchError A CopyError) → (x ≡ fetch.Memory) ⊎ (x ≡ fetch.Memory → ⊥)
    memory-or-other (fetch.Negotiate n) = inr (λ h. cc)
    memory-or-other (fetch.FetchResponse n) = inr (λ h. cc)
    memory-or-other (fetch.WriteShallowFile n) = inr (λ h. cc)
    memory-or-other (fetch.ReadShallowFile n) = inr (λ h. cc)
    memory-or-other (fetch.LockShallowFile n) = inr (λ h. cc)
    memory-or-other (fetch.Client n) = inr (λ h. cc)
    memory-or-other (fetch.MissingServerFeature f n) = inr (λ h. cc)
    memory-or-other fetch.RejectShallowRemote = inr (λ h. cc)
    memory-or-other (fetch.ConsumePack n) = inr (λ h. cc)
    memory-or-other (fetch.ReadRemainingBytes n) = inr (λ h. cc)
    memory-or-other fetch.Memory = inl refl

    -- it was refused, by its consumer or by what comes after it
    pub refused-ends : PackRefused consumes c from e d new q → EndsWithPack from Ended ⊎ (e ≡ fetch.Memory)
    refused-ends r = by (memory-or-other e)
      where
        known : (e ≡ fetch.Memory → ⊥) → (o : Option Pieces) → from.to_come ≡ o → IfSome o (λ p. Ended ≡ pack_ended (end_left from p))
        known n None k = tt
        known n (Some p) k = by-either n p k r (sym (back-failures r.end new r.back) ∙ z)

        by : (e ≡ fetch.Memory) ⊎ (e ≡ fetch.Memory → ⊥) → EndsWithPack from Ended ⊎ (e ≡ fetch.Memory)
        by (inl m) = inr m
        by (inr n) = inl (known n from.to_come refl)
