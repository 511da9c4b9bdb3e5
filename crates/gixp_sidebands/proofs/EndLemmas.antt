-- How the content ends, call by call.
use Rattle.std.proofs.Common.{◌≡◌, ◌^◌, ◌-◌, ◌<◌, inl, inr, Bool, true, false, cond, List, [], ◌∷◌, refl, sym, ap, ◌∙◌, arith, Option, Some, None, IfSome}
use Rattle.std.specs.Option.{option_map}
use Rattle.gixp_packetline.specs.declared.protocol.Protocol.{Protocol}
use Rattle.gixp_packetline.specs.declared.protocol.MessageKind.{MessageKind}
use Rattle.gixp_sidebands.specs.declared.sidebands.band.Band.TheVariants.{Content}
use Rattle.gixp_packetline.specs.Items.{is_stop}
use Rattle.gixp_packetline.specs.Pieces.{Refusal, unexpected_frame, Piece, line, mark, Pieces, no_pieces}
use Rattle.gixp_packetline.specs.Lines.{stop, no_lines, refusal, gives, stops, refuses, next_from, next_of, lines_from, lines_of}
use Rattle.gixp_packetline.specs.Reading.{Reading, TakesLine, ShowsLine, AtStop, Refuses, BreaksOff, Fails, lines_ahead, lines_from_stop}
use Rattle.std.specs.Borrow.{GName}
use Rattle.gixp_sidebands.specs.Bands.{band_of, unband_line, unband, side_reading, Side, end_left, KeepsEnd, KeepsEndUncounted}
use Rattle.gixp_sidebands.proofs.BandLemmas.{unband_gives, seen}

-- the end of the lines to come is unchanged
abbrev KeepsLines : Reading → Reading → Type 0
KeepsLines old new =
    IfSome old.to_come (λ p. (q : Pieces) × (new.to_come ≡ Some q) × ((lines_ahead new q).ending ≡ (lines_ahead old p).ending))

-- the lines of a sideband reader without an open packet are the content
above : (name name' : GName) (old new : Reading) → KeepsLines (seen name old) (seen name' new) → KeepsEnd old new
above name name' old new k = at old.to_come new.to_come k
  where
    at : (a b : Option Pieces) → IfSome (option_map unband a) (λ p. (q : Pieces) × (option_map unband b ≡ Some q)
        × ((lines_ahead new q).ending ≡ (lines_ahead old p).ending))
        → IfSome a (λ p. (q : Pieces) × (b ≡ Some q) × (end_left new q ≡ end_left old p))
    at None b k = tt
    at (Some p) None k = absurd (let x = k.1 in cc)
    at (Some p) (Some q) k =
        let u : unband q ≡ k.0 = let x = k.1 in cc in
        (q, refl, ap (λ y. (lines_ahead new y).ending) u ∙ k.2)

-- for readers that are not at a stop
running : (old new : Reading) → old.stopped ≡ None → new.stopped ≡ None → new.version ≡ old.version
    → IfSome old.to_come (λ p. (q : Pieces) × (new.to_come ≡ Some q)
    × ((lines_of old.version q).ending ≡ (lines_of old.version p).ending)) → KeepsLines old new
running old new o n v k = at old.to_come k
  where
    ahead : (r : Reading) (w : Protocol) (p : Pieces) → r.stopped ≡ None → r.version ≡ w
        → (lines_ahead r p).ending ≡ (lines_of w p).ending
    ahead r w p e f = ap (λ s. (lines_from_stop s r.version p).ending) e ∙ ap (λ x. (lines_of x p).ending) f

    at : (a : Option Pieces) → IfSome a (λ p. (q : Pieces) × (new.to_come ≡ Some q)
        × ((lines_of old.version q).ending ≡ (lines_of old.version p).ending))
        → IfSome a (λ p. (q : Pieces) × (new.to_come ≡ Some q) × ((lines_ahead new q).ending ≡ (lines_ahead old p).ending))
    at None k = tt
    at (Some p) k = (k.0, k.1, ahead new old.version k.0 n v ∙ k.2 ∙ sym (ahead old old.version p o refl))

shown_keeps : (old new : Reading) → ShowsLine old new → KeepsLines old new
shown_keeps old new h = running old new h.running h.stopped h.version (at old.to_come h.next)
  where
    at : (a : Option Pieces) → IfSome a (λ p. (q : Pieces) × (new.to_come ≡ Some p) × (next_of old.version p ≡ gives new.line q))
        → IfSome a (λ p. (q : Pieces) × (new.to_come ≡ Some q) × ((lines_of old.version q).ending ≡ (lines_of old.version p).ending))
    at None k = tt
    at (Some p) k = (p, k.1, refl)

-- a stop that is next ends the lines
pub ends_stop : (v : Protocol) (list : List Piece) (end : Refusal) (kind : MessageKind) (q : Pieces) → next_from v list end ≡ stops kind q
    → (lines_from v list end).ending ≡ stop kind q
ends_stop v [] end kind q h = cc
ends_stop v (line t ∷ ps) end kind q h = cc
ends_stop v (mark k ∷ ps) end kind q h = at (is_stop v k) h
  where
    rest : Pieces
    rest = record { list = ps; end = end }

    at : (b : Bool) → cond b (stops k rest) (refuses unexpected_frame) ≡ stops kind q
        → (cond b (no_lines (stop k rest)) (no_lines (refusal unexpected_frame))).ending ≡ stop kind q
    at true e =
        let e1 : k ≡ kind = cc in
        let e2 : rest ≡ q = cc in
        ap (λ x. stop x rest) e1 ∙ ap (stop kind) e2
    at false e = cc

-- an error that is next ends the lines
pub ends_refused : (v : Protocol) (list : List Piece) (end x : Refusal) → next_from v list end ≡ refuses x
    → (lines_from v list end).ending ≡ refusal x
ends_refused v [] end x h = let e : end ≡ x = cc in ap refusal e
ends_refused v (line t ∷ ps) end x h = cc
ends_refused v (mark k ∷ ps) end x h = at (is_stop v k) h
  where
    rest : Pieces
    rest = record { list = ps; end = end }

    at : (b : Bool) → cond b (stops k rest) (refuses unexpected_frame) ≡ refuses x
        → (cond b (no_lines (stop k rest)) (no_lines (refusal unexpected_frame))).ending ≡ refusal x
    at true e = cc
    at false e = let f : unexpected_frame ≡ x = cc in ap refusal f

-- nothing was read
stayed_keeps : (old new : Reading) → new.stopped ≡ old.stopped → new.version ≡ old.version
    → IfSome old.to_come (λ p. new.to_come ≡ Some p) → KeepsLines old new
stayed_keeps old new s v k = at old.to_come k
  where
    at : (a : Option Pieces) → IfSome a (λ p. new.to_come ≡ Some p)
        → IfSome a (λ p. (q : Pieces) × (new.to_come ≡ Some q) × ((lines_ahead new q).ending ≡ (lines_ahead old p).ending))
    at None k = tt
    at (Some p) k = (p, k, ap (λ x. (lines_from_stop x new.version p).ending) s ∙ ap (λ x. (lines_from_stop old.stopped x p).ending) v)

stopped_keeps : (old new : Reading) → AtStop old new → KeepsLines old new
stopped_keeps old new (inl h) = stayed_keeps old new h.stays.stopped h.stays.version h.stays.to_come
stopped_keeps old new (inr h) = at old.to_come h.1.next
  where
    at : (a : Option Pieces) → IfSome a (λ p. (q : Pieces) × (new.to_come ≡ Some q) × (next_of old.version p ≡ stops h.0 q))
        → IfSome a (λ p. (q : Pieces) × (new.to_come ≡ Some q) × ((lines_ahead new q).ending ≡ (lines_ahead old p).ending))
    at None k = tt
    at (Some p) k = (
      k.0,
      k.1,
      ap (λ x. (lines_from_stop x new.version k.0).ending) h.1.stopped ∙ sym (ends_stop old.version p.list p.end h.0 k.0 k.2)
          ∙ sym (ap (λ x. (lines_from_stop x old.version p).ending) h.1.running),
    )

refused_keeps : (old new : Reading) (x : Refusal) → Refuses old new x → KeepsLines old new
refused_keeps old new x h = running old new h.running h.stopped h.version (at old.to_come h.next)
  where
    at : (a : Option Pieces) → IfSome a (λ p. (new.to_come ≡ Some (no_pieces x)) × (next_of old.version p ≡ refuses x))
        → IfSome a (λ p. (q : Pieces) × (new.to_come ≡ Some q) × ((lines_of old.version q).ending ≡ (lines_of old.version p).ending))
    at None k = tt
    at (Some p) k = (no_pieces x, k.0, sym (ends_refused old.version p.list p.end x k.1))

-- a read that failed with `UnexpectedEof` was counted
broken_counts : (old new : Reading) (x : Refusal) → BreaksOff old new x → new.failures ≡ old.failures → new.failures < 2 ^ 64 - 1 → ⊥
broken_counts old new x h e f = let r = h.failures in omega arith

module _ (old new : Side) (o : old.place ≡ None) (n : new.place ≡ None) where
  abbrev before : Reading
  before = seen old.name old.reading

  abbrev after : Reading
  after = seen new.name new.reading

  pub stop_keeps_end : AtStop (side_reading old) (side_reading new) → KeepsEnd old.reading new.reading
  stop_keeps_end h = above old.name new.name old.reading new.reading (stopped_keeps before after (rw (o, n) at h))

  pub refusal_keeps_end : (x : Refusal) → Fails (side_reading old) (side_reading new) x → KeepsEndUncounted old.reading new.reading
  refusal_keeps_end x h = by (rw (o, n) at h)
    where
      by : Fails before after x → KeepsEndUncounted old.reading new.reading
      by (inl r) = λ u. above old.name new.name old.reading new.reading (refused_keeps before after x r)
      by (inr (inl f)) = λ u. above old.name new.name old.reading new.reading
          (stayed_keeps before after f.stays.stopped f.stays.version f.stays.to_come)
      by (inr (inr b)) = λ u. absurd (broken_counts before after x b u.0 u.1)

pub shown_keeps_end : (name name' : GName) (old new : Reading) → ShowsLine (seen name old) (seen name' new) → KeepsEnd old new
shown_keeps_end name name' old new h = above name name' old new (shown_keeps (seen name old) (seen name' new) h)

pub taken_keeps_end : (old new : Reading) → band_of old.line ≡ Content → old.peeked ≡ true → TakesLine old new → KeepsEnd old new
taken_keeps_end old new k p' t = at old.to_come t.next
  where
    ends : (r : Reading) (w : Protocol) (q : Pieces) → r.stopped ≡ None → r.version ≡ w → end_left r q ≡ (lines_of w (unband q)).ending
    ends r w q e f = ap (λ s. (lines_from_stop s r.version (unband q)).ending) e ∙ ap (λ x. (lines_of x (unband q)).ending) f

    at : (a : Option Pieces) → IfSome a (λ p. (q : Pieces) × (new.to_come ≡ Some q) × (next_of old.version p ≡ gives new.line q))
        → IfSome a (λ p. (q : Pieces) × (new.to_come ≡ Some q) × (end_left new q ≡ end_left old p))
    at None m = tt
    at (Some p) m =
        let c : unband p ≡ unband_line (band_of new.line) new.line (unband m.0) =
        unband_gives old.version p.list p.end new.line m.0 m.2 in
        let d : unband p ≡ unband_line Content new.line (unband m.0) =
        c ∙ ap (λ b. unband_line b new.line (unband m.0)) (ap band_of (t.again p') ∙ k) in (
          m.0,
          m.1,
          ends new old.version m.0 t.stopped t.version ∙ sym (ap (λ u. (lines_of old.version u).ending) d)
              ∙ sym (ends old old.version p t.running refl),
        )
