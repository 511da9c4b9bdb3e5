-- A sideband reader over a reader of banded lines. `o` is the state of the sideband reader at the start of the call,
-- `now` the present state of the reader below.
use Rattle.std.proofs.Common.{◌≡◌, ℕ, ◌≤◌, ◌⊎◌, inl, inr, Bool, true, false, cond, List, [], ◌∷◌, drop, refl, sym, ap, subst, ◌∙◌, arith, Option, Some, None, IfSome, IsSome, length-drop}
use Rattle.std.specs.Prelude.{◌&&◌}
use Rattle.std.specs.Option.{option_map}
use Rattle.std.specs.Borrow.{GName}
use Rattle.gixp_packetline.specs.declared.protocol.Protocol.{Protocol}
use Rattle.gixp_packetline.specs.declared.protocol.MessageKind.{MessageKind}
use Rattle.gixp_sidebands.specs.declared.sidebands.band.Band.{Band}
use Rattle.gixp_sidebands.specs.declared.sidebands.band.Band.TheVariants.{Empty, Content, Text, Unknown}
use Rattle.gixp_packetline.specs.Pieces.{Refusal, io, decode, server, unexpected_frame, not_utf8, bad_band, interrupted, memory, Piece, line, mark, Pieces, no_pieces, with_piece}
use Rattle.gixp_packetline.specs.Items.{is_stop}
use Rattle.gixp_packetline.specs.Lines.{gives, stops, refuses, next_from, next_of}
use Rattle.gixp_packetline.specs.TransportState.{TransportState}
use Rattle.gixp_packetline.specs.Reading.{Reading, TakesLine, ShowsLine, AtStop, Refuses, Faults, Fails, Stays, IsFault, Rose}
use Rattle.gixp_sidebands.specs.Bands.{band_of, is_content, band_refusal, IsPassed, unband_line, unband_from, unband, unband_after, banded_reading, is_begun}
use Rattle.gixp_sidebands.proofs.PieceLemmas.{mark_not_gives}

-- the content of banded packet lines, by the next line
pub unband_gives : (v : Protocol) (list : List Piece) (end : Refusal) (text : List ℕ) (q : Pieces) → next_from v list end ≡ gives text q
    → unband_from list end ≡ unband_line (band_of text) text (unband q)
unband_gives v [] end text q h = cc
unband_gives v (line t ∷ ps) end text q h =
    let p : Pieces = record { list = ps; end = end } in
    let e1 : t ≡ text = cc in
    let e2 : p ≡ q = cc in
    rw (← e1, ← e2) refl
unband_gives v (mark kind ∷ ps) end text q h =
    absurd (mark_not_gives (is_stop v kind) kind (record { list = ps; end = end }) q unexpected_frame text h)

following_gives : (v : Protocol) (list : List Piece) (end : Refusal) (text : List ℕ) (q : Pieces) → next_from v list end ≡ gives text q
    → unband_after (record { list = list; end = end }) ≡ unband q
following_gives v [] end text q h = cc
following_gives v (line t ∷ ps) end text q h =
    let p : Pieces = record { list = ps; end = end } in
    let e2 : p ≡ q = cc in
    rw (← e2) refl
following_gives v (mark kind ∷ ps) end text q h =
    absurd (mark_not_gives (is_stop v kind) kind (record { list = ps; end = end }) q unexpected_frame text h)

unband_stops : (v : Protocol) (list : List Piece) (end : Refusal) (kind : MessageKind) (q : Pieces) → next_from v list end ≡ stops kind q
    → next_of v (unband_from list end) ≡ stops kind (unband q)
unband_stops v [] end kind q h = cc
unband_stops v (line t ∷ ps) end kind q h = cc
unband_stops v (mark k ∷ ps) end kind q h = at (is_stop v k) h
  where
    at : (b : Bool) → cond b (stops k (record { list = ps; end = end })) (refuses unexpected_frame) ≡ stops kind q
        → cond b (stops k (unband_from ps end)) (refuses unexpected_frame) ≡ stops kind (unband q)
    at true e =
        let p : Pieces = record { list = ps; end = end } in
        let e1 : k ≡ kind = cc in
        let e2 : p ≡ q = cc in
        rw (← e1, ← e2) refl
    at false e = cc

unband_refuses : (v : Protocol) (list : List Piece) (end : Refusal) (x : Refusal) → next_from v list end ≡ refuses x
    → next_of v (unband_from list end) ≡ refuses x
unband_refuses v [] end x h = h
unband_refuses v (line t ∷ ps) end x h = cc
unband_refuses v (mark k ∷ ps) end x h = at (is_stop v k) h
  where
    at : (b : Bool) → cond b (stops k (record { list = ps; end = end })) (refuses unexpected_frame) ≡ refuses x
        → cond b (stops k (unband_from ps end)) (refuses unexpected_frame) ≡ refuses x
    at true e = cc
    at false e = e

-- the state of a sideband reader without an open packet
abbrev pub seen : GName → Reading → Reading
seen name r = banded_reading false name r

-- lines that are not content were taken; no error was sticky before
pub record Moved (o now : Reading) : Type 0 where
  pub refused : o.refused ≡ None
  pub unpeeked : o.peeked ≡ false
  pub peeked : now.peeked ≡ false
  pub running : o.stopped ≡ None

-- the content to come is the same as at the start
pub record Skipping (o : Reading) (name : GName) (now : Reading) : Type 0 where
  pub to_come : IfSome o.to_come (λ p. option_map unband now.to_come ≡ Some p)
  pub stopped : now.stopped ≡ o.stopped
  pub version : now.version ≡ o.version
  pub failures : now.failures ≡ o.failures
  pub left : now.left ≤ o.left
  pub held : (seen name now).held ≡ o.held
  pub moved : (seen name now ≡ o) ⊎ Moved o now

pub skipping-start : (name : GName) (r : Reading) → Skipping (seen name r) name r
skipping-start name r = record {
  to_come = same (option_map unband r.to_come);
  stopped = refl;
  version = refl;
  failures = refl;
  left = omega arith;
  held = refl;
  moved = inl refl;
}
  where
    same : (o : Option Pieces) → IfSome o (λ p. o ≡ Some p)
    same None = tt
    same (Some p) = refl

following_next : (a b : Option Pieces) (v : Protocol) (text : List ℕ)
    → IfSome a (λ p. (q : Pieces) × (b ≡ Some q) × (next_of v p ≡ gives text q))
    → IfSome (option_map unband_after a) (λ p. option_map unband b ≡ Some p)
following_next None b v text n = tt
following_next (Some p) b v text n = ap (option_map unband) n.1 ∙ ap Some (sym (following_gives v p.list p.end text n.0 n.2))

-- after a packet that was begun
pub skipping-following : (name : GName) (r now : Reading) → TakesLine r now → Skipping (banded_reading true name r) name now
skipping-following name r now t = record {
  to_come = following_next r.to_come now.to_come r.version now.line t.next;
  stopped = t.stopped ∙ sym t.running;
  version = t.version;
  failures = t.failures;
  left = let a = t.left in omega arith;
  held = ap (λ (h : TransportState). record h { names = name ∷ h.names }) t.held;
  moved = inr (record { refused = refl; unpeeked = refl; peeked = t.peeked; running = t.running });
}

-- content that was peeked at below is peeked at above
content_next : (o a b : Option Pieces) (v w : Protocol) (text : List ℕ) → w ≡ v → band_of text ≡ Content
    → IfSome o (λ p. option_map unband a ≡ Some p)
    → IfSome a (λ p. (q : Pieces) × (b ≡ Some p) × (next_of w p ≡ gives text q))
    → IfSome o (λ p. (q : Pieces) × (option_map unband b ≡ Some p) × (next_of v p ≡ gives (drop 1 text) q))
content_next None a b v w text e k h n = tt
content_next (Some p) None b v w text e k h n = absurd (let x = h in cc)
content_next (Some p) (Some r) b v w text e k h n =
    let same : unband r ≡ p = let x = h in cc in
    let c : unband r ≡ unband_line (band_of text) text (unband n.0) = unband_gives w r.list r.end text n.0 n.2 in
    let d : p ≡ with_piece (line (drop 1 text)) (unband n.0) = sym same ∙ c ∙ ap (λ x. unband_line x text (unband n.0)) k in
    (unband n.0, ap (option_map unband) n.1 ∙ ap Some same, ap (next_of v) d)

-- content that is taken below is taken above
taken_next : (o a b : Option Pieces) (v w : Protocol) (shown text : List ℕ) → w ≡ v → band_of text ≡ Content
    → IfSome o (λ p. (q : Pieces) × (option_map unband a ≡ Some p) × (next_of v p ≡ gives shown q))
    → IfSome a (λ p. (q : Pieces) × (b ≡ Some q) × (next_of w p ≡ gives text q))
    → IfSome o (λ p. (q : Pieces) × (option_map unband b ≡ Some q) × (next_of v p ≡ gives (drop 1 text) q))
taken_next None a b v w shown text e k h n = tt
taken_next (Some p) None b v w shown text e k h n = absurd (let x = h.1 in cc)
taken_next (Some p) (Some r) b v w shown text e k h n =
    let same : unband r ≡ p = let x = h.1 in cc in
    let c : unband r ≡ unband_line (band_of text) text (unband n.0) = unband_gives w r.list r.end text n.0 n.2 in
    let d : p ≡ with_piece (line (drop 1 text)) (unband n.0) = sym same ∙ c ∙ ap (λ x. unband_line x text (unband n.0)) k in
    (unband n.0, ap (option_map unband) n.1, ap (next_of v) d)

unknown_next : (o a b : Option Pieces) (v w : Protocol) (text : List ℕ) (band : ℕ) → w ≡ v → band_of text ≡ Unknown band
    → IfSome o (λ p. option_map unband a ≡ Some p)
    → IfSome a (λ p. (q : Pieces) × (b ≡ Some p) × (next_of w p ≡ gives text q))
    → IfSome o (λ p. (option_map unband b ≡ Some (no_pieces (bad_band band))) × (next_of v p ≡ refuses (bad_band band)))
unknown_next None a b v w text band e k h n = tt
unknown_next (Some p) None b v w text band e k h n = absurd (let x = h in cc)
unknown_next (Some p) (Some r) b v w text band e k h n =
    let same : unband r ≡ p = let x = h in cc in
    let c : unband r ≡ unband_line (band_of text) text (unband n.0) = unband_gives w r.list r.end text n.0 n.2 in
    let d : unband r ≡ no_pieces (bad_band band) = c ∙ ap (λ x. unband_line x text (unband n.0)) k in
    (ap (option_map unband) n.1 ∙ ap Some d, ap (next_of v) (sym same ∙ d))

stop_next : (o a b : Option Pieces) (v w : Protocol) (kind : MessageKind) → w ≡ v
    → IfSome o (λ p. option_map unband a ≡ Some p)
    → IfSome a (λ p. (q : Pieces) × (b ≡ Some q) × (next_of w p ≡ stops kind q))
    → IfSome o (λ p. (q : Pieces) × (option_map unband b ≡ Some q) × (next_of v p ≡ stops kind q))
stop_next None a b v w kind e h n = tt
stop_next (Some p) None b v w kind e h n = absurd (let x = h in cc)
stop_next (Some p) (Some r) b v w kind e h n =
    let same : unband r ≡ p = let x = h in cc in
    let c : next_of v r ≡ stops kind n.0 = rw e at n.2 in
    (unband n.0, ap (option_map unband) n.1, ap (next_of v) (sym same) ∙ unband_stops v r.list r.end kind n.0 c)

refusal_next : (o a b : Option Pieces) (v w : Protocol) (x : Refusal) → w ≡ v
    → IfSome o (λ p. option_map unband a ≡ Some p)
    → IfSome a (λ p. (b ≡ Some (no_pieces x)) × (next_of w p ≡ refuses x))
    → IfSome o (λ p. (option_map unband b ≡ Some (no_pieces x)) × (next_of v p ≡ refuses x))
refusal_next None a b v w x e h n = tt
refusal_next (Some p) None b v w x e h n = absurd (let y = h in cc)
refusal_next (Some p) (Some r) b v w x e h n =
    let same : unband r ≡ p = let y = h in cc in
    let c : next_of v r ≡ refuses x = rw e at n.1 in
    (ap (option_map unband) n.0, ap (next_of v) (sym same) ∙ unband_refuses v r.list r.end x c)

stay_next : (o a b : Option Pieces) → IfSome o (λ p. option_map unband a ≡ Some p) → IfSome a (λ p. b ≡ Some p)
    → IfSome o (λ p. option_map unband b ≡ Some p)
stay_next None a b h n = tt
stay_next (Some p) None b h n = absurd (let y = h in cc)
stay_next (Some p) (Some r) b h n = ap (option_map unband) n ∙ h

skip_next : (o a b c : Option Pieces) (v w : Protocol) (s t : List ℕ) → IsPassed (band_of s) → t ≡ s → w ≡ v
    → IfSome o (λ p. option_map unband a ≡ Some p)
    → IfSome a (λ p. (q : Pieces) × (b ≡ Some p) × (next_of v p ≡ gives s q))
    → IfSome b (λ p. (q : Pieces) × (c ≡ Some q) × (next_of w p ≡ gives t q))
    → IfSome o (λ p. option_map unband c ≡ Some p)
skip_next None a b c v w s t k e f h n m = tt
skip_next (Some p) None b c v w s t k e f h n m = absurd (let y = h in cc)
skip_next (Some p) (Some r) None c v w s t k e f h n m = absurd (let y = n.1 in cc)
skip_next (Some p) (Some r) (Some r2) c v w s t k e f h n m =
    let same : unband r ≡ p = let y = h in cc in
    let r2r : r2 ≡ r = let y = n.1 in cc in
    let g : next_of v r ≡ gives s m.0 = rw (f, e, r2r) at m.2 in
    ap (option_map unband) m.1 ∙ ap Some (sym (passed (band_of s) s (unband m.0) k) ∙ sym (unband_gives v r.list r.end s m.0 g) ∙ same)
  where
    passed : (x : Band) (s : List ℕ) (rest : Pieces) → IsPassed x → unband_line x s rest ≡ rest
    passed Content s rest z = absurd z
    passed (Unknown b) s rest z = absurd z
    passed Empty s rest z = refl
    passed (Text b) s rest z = refl

refused_above : (name : GName) (r : Reading) (x : Option Refusal) → (r.peeked ≡ true → band_refusal (band_of r.line) ≡ x)
    → (r.peeked ≡ false → r.refused ≡ x) → (seen name r).refused ≡ x
refused_above name r x f g = at r.peeked refl
  where
    at : (b : Bool) → r.peeked ≡ b → (seen name r).refused ≡ x
    at true e = rw e (f e)
    at false e = rw e (g e)

peeked_above : (name : GName) (r : Reading) → (r.peeked ≡ true → is_content (band_of r.line) ≡ false) → (seen name r).peeked ≡ false
peeked_above name r f = at r.peeked refl
  where
    at : (b : Bool) → r.peeked ≡ b → (seen name r).peeked ≡ false
    at true e = rw e (f e)
    at false e = rw e refl

same_band : {A : Type 0} (f : Band → A) (now new : Reading) (k : Band) → ShowsLine now new → band_of new.line ≡ k → now.peeked ≡ true
    → f (band_of now.line) ≡ f k
same_band f now new k h e p = ap (λ l. f (band_of l)) (sym (h.again p)) ∙ ap f e

passed_none : (k : Band) → IsPassed k → band_refusal k ≡ None
passed_none Content z = absurd z
passed_none (Unknown b) z = absurd z
passed_none Empty z = refl
passed_none (Text b) z = refl

passed_false : (k : Band) → IsPassed k → is_content k ≡ false
passed_false Content z = absurd z
passed_false (Unknown b) z = absurd z
passed_false Empty z = refl
passed_false (Text b) z = refl

-- if no error is sticky now, none was at the start
calm_before : (o now : Reading) (name : GName) → Skipping o name now → (seen name now).refused ≡ None → o.refused ≡ None
calm_before o now name s n = at s.moved
  where
    at : (seen name now ≡ o) ⊎ Moved o now → o.refused ≡ None
    at (inl e) = ap (λ (r : Reading). r.refused) (sym e) ∙ n
    at (inr e) = e.refused

unpeeked_before : (o now : Reading) (name : GName) → Skipping o name now → (seen name now).peeked ≡ false → o.peeked ≡ false
unpeeked_before o now name s n = at s.moved
  where
    at : (seen name now ≡ o) ⊎ Moved o now → o.peeked ≡ false
    at (inl e) = ap (λ (r : Reading). r.peeked) (sym e) ∙ n
    at (inr e) = e.unpeeked

same_before : (o now : Reading) (name : GName) (x : Refusal) → Skipping o name now → IfSome (seen name now).refused (λ y. y ≡ x)
    → IfSome o.refused (λ y. y ≡ x)
same_before o now name x s n = at s.moved
  where
    P : Option Refusal → Type 0
    P r = IfSome r (λ y. y ≡ x)

    at : (seen name now ≡ o) ⊎ Moved o now → IfSome o.refused (λ y. y ≡ x)
    at (inl e) = subst (λ (r : Reading). IfSome r.refused (λ y. y ≡ x)) e n
    at (inr e) = let Q : Option Refusal → Type 0 = λ r. IfSome r (λ y. y ≡ x) in subst Q (sym e.refused) tt

both_true : (a b : Bool) → (a && b) ≡ true → (a ≡ true) × (b ≡ true)
both_true true b h = (refl, h)
both_true false b h = absurd (let x = h in cc)

again_before : (o now new : Reading) (name : GName) → Skipping o name now → ShowsLine now new → o.peeked ≡ true → drop 1 new.line ≡ o.line
again_before o now new name s h p = at s.moved
  where
    at : (seen name now ≡ o) ⊎ Moved o now → drop 1 new.line ≡ o.line
    at (inl e) =
        let q : now.peeked ≡ true = (both_true now.peeked (is_content (band_of now.line)) (ap (λ (r : Reading). r.peeked) e ∙ p)).0 in
        ap (drop 1) (h.again q) ∙ ap (λ (r : Reading). r.line) e
    at (inr e) = absurd (let x = e.unpeeked in cc)

held_above : (name : GName) (a b : Reading) → b.held ≡ a.held → (seen name b).held ≡ (seen name a).held
held_above name a b e = ap (λ (h : TransportState). record h { names = name ∷ h.names }) e

pub shows_content : (o now new : Reading) (name : GName) → Skipping o name now → ShowsLine now new → band_of new.line ≡ Content
    → ShowsLine o (seen name new)
shows_content o now new name s h k =
    let none : (seen name now).refused ≡ None = refused_above name now None (λ p. same_band band_refusal now new Content h k p)
    (λ _. h.sound) in
    record {
      running = sym s.stopped ∙ h.running;
      sound = calm_before o now name s none;
      again = again_before o now new name s h;
      next = content_next o.to_come now.to_come new.to_come o.version now.version new.line s.version k s.to_come h.next;
      refused = refused_above name new None (λ _. ap band_refusal k) (λ p. absurd (let q = h.peeked in cc));
      stopped = h.stopped;
      version = h.version ∙ s.version;
      peeked = rw (h.peeked, k) refl;
      failures = h.failures ∙ s.failures;
      left = let a = s.left in let b = h.left in omega arith;
      room = let a = h.room in omega (arith, length-drop 1 new.line);
      held = held_above name now new h.held ∙ s.held;
    }

pub takes_content : (o now new : Reading) (name : GName) → ShowsLine o (seen name now) → band_of now.line ≡ Content → now.peeked ≡ true
    → TakesLine now new → TakesLine o (seen name new)
takes_content o now new name s k p t =
    let line : new.line ≡ now.line = t.again p in
    record {
      running = s.running;
      sound = s.sound;
      again = λ q. ap (drop 1) line ∙ s.again q;
      next = taken_next o.to_come now.to_come new.to_come o.version now.version (drop 1 now.line) new.line s.version
          (ap band_of line ∙ k) s.next t.next;
      stopped = t.stopped;
      version = t.version ∙ s.version;
      peeked = ap (λ b. b && is_content (band_of new.line)) t.peeked;
      failures = t.failures ∙ s.failures;
      left = let a = t.left in let b = s.left in omega (arith, length-drop 1 new.line);
      held = held_above name now new t.held ∙ s.held;
    }

pub refuses_band : (o now new : Reading) (name : GName) (band : ℕ) → Skipping o name now → ShowsLine now new
    → band_of new.line ≡ Unknown band → Refuses o (seen name new) (bad_band band)
refuses_band o now new name band s h k =
    record {
      running = sym s.stopped ∙ h.running;
      lasting = tt;
      unpeeked = unpeeked_before o now name s (peeked_above name now (λ p. same_band is_content now new (Unknown band) h k p));
      same = same_before o now name (bad_band band) s (at now.peeked refl);
      next = unknown_next o.to_come now.to_come new.to_come o.version now.version new.line band s.version k s.to_come h.next;
      refused = refused_above name new (Some (bad_band band)) (λ _. ap band_refusal k) (λ p. absurd (let q = h.peeked in cc));
      stopped = h.stopped;
      version = h.version ∙ s.version;
      peeked = peeked_above name new (λ _. ap is_content k);
      failures = h.failures ∙ s.failures;
      left = let a = s.left in let b = h.left in omega arith;
      held = held_above name now new h.held ∙ s.held;
    }
  where
    at : (b : Bool) → now.peeked ≡ b → IfSome (seen name now).refused (λ y. y ≡ bad_band band)
    at true e = let P : Option Refusal → Type 0 = λ o. IfSome o (λ y. y ≡ bad_band band) in
        subst P (sym (refused_above name now (Some (bad_band band)) (λ p. same_band band_refusal now new (Unknown band) h k p)
        (λ p. absurd (let q = e in cc)))) refl
    at false e = let P : Option Refusal → Type 0 = λ o. IfSome o (λ y. y ≡ bad_band band) in
        subst P (sym (refused_above name now None (λ p. absurd (let q = e in cc)) (λ _. h.sound))) tt

-- no error was sticky at the start
pub calm : (o now mid : Reading) (name : GName) → Skipping o name now → ShowsLine now mid → IsPassed (band_of mid.line) → o.refused ≡ None
calm o now mid name s h k = calm_before o now name s (refused_above name now None
    (λ p. same_band band_refusal now mid (band_of mid.line) h refl p ∙ passed_none (band_of mid.line) k) (λ _. h.sound))

pub unseen : (o now mid : Reading) (name : GName) → Skipping o name now → ShowsLine now mid → IsPassed (band_of mid.line) → o.peeked ≡ false
unseen o now mid name s h k = unpeeked_before o now name s
    (peeked_above name now (λ p. same_band is_content now mid (band_of mid.line) h refl p ∙ passed_false (band_of mid.line) k))

pub skips_line : (o now mid new : Reading) (name : GName) → Skipping o name now → ShowsLine now mid → IsPassed (band_of mid.line)
    → TakesLine mid new → Skipping o name new
skips_line o now mid new name s h k t = record {
  to_come = skip_next o.to_come now.to_come mid.to_come new.to_come now.version mid.version mid.line new.line k
      (t.again h.peeked) h.version s.to_come h.next t.next;
  stopped = t.stopped ∙ sym h.running ∙ s.stopped;
  version = t.version ∙ h.version ∙ s.version;
  failures = t.failures ∙ h.failures ∙ s.failures;
  left = let a = s.left in let b = h.left in let c = t.left in omega arith;
  held = held_above name mid new t.held ∙ held_above name now mid h.held ∙ s.held;
  moved = inr (record {
    refused = calm o now mid name s h k;
    unpeeked = unseen o now mid name s h k;
    peeked = t.peeked;
    running = sym s.stopped ∙ h.running;
  });
}

-- a text was reported, its packet taken, and the interrupt returned true
pub interrupt_faults : (o now mid new : Reading) (name : GName) → Skipping o name now → ShowsLine now mid → IsPassed (band_of mid.line)
    → TakesLine mid new → Faults o (seen name new) interrupted
interrupt_faults o now mid new name s h k t =
    let z = skips_line o now mid new name s h k t in
    let none = calm o now mid name s h k in
    let P : Option Refusal → Type 0 = λ x. IfSome x (λ e. (seen name new).refused ≡ Some e) in
    record {
      running = sym s.stopped ∙ h.running;
      fault = (none, z.failures);
      stays = record {
        to_come = z.to_come;
        refused = subst P (sym none) tt;
        stopped = z.stopped;
        version = z.version;
        unpeeked = unseen o now mid name s h k;
        peeked = rw t.peeked refl;
        left = z.left;
        held = z.held;
      };
    }

-- an allocation failed for a text; its line is still to come below
pub text_faults : (o now new : Reading) (name : GName) → Skipping o name now → ShowsLine now new → IsPassed (band_of new.line)
    → Faults o (seen name new) memory
text_faults o now new name s h k =
    let none = calm o now new name s h k in
    let P : Option Refusal → Type 0 = λ x. IfSome x (λ e. (seen name new).refused ≡ Some e) in
    record {
      running = sym s.stopped ∙ h.running;
      fault = h.failures ∙ s.failures;
      stays = record {
        to_come = stay_next o.to_come now.to_come new.to_come s.to_come (kept now.to_come new.to_come h.next);
        refused = subst P (sym none) tt;
        stopped = h.stopped ∙ sym h.running ∙ s.stopped;
        version = h.version ∙ s.version;
        unpeeked = unseen o now new name s h k;
        peeked = peeked_above name new (λ _. passed_false (band_of new.line) k);
        left = let a = s.left in let b = h.left in omega arith;
        held = held_above name now new h.held ∙ s.held;
      };
    }
  where
    kept : (a b : Option Pieces) → IfSome a (λ p. (q : Pieces) × (b ≡ Some p) × (next_of now.version p ≡ gives new.line q))
        → IfSome a (λ p. b ≡ Some p)
    kept None b n = tt
    kept (Some p) b n = n.1

stays_above : (o now new : Reading) (name : GName) → Skipping o name now → Stays now new → Stays o (seen name new)
stays_above o now new name s h =
    let nr : (seen name now).refused ≡ now.refused = rw h.unpeeked refl in
    let nw : (seen name new).refused ≡ new.refused = rw h.peeked refl in
    record {
      to_come = stay_next o.to_come now.to_come new.to_come s.to_come h.to_come;
      refused = at s.moved nr nw;
      stopped = h.stopped ∙ s.stopped;
      version = h.version ∙ s.version;
      unpeeked = unpeeked_before o now name s (rw h.unpeeked refl);
      peeked = rw h.peeked refl;
      left = let a = s.left in let b = h.left in omega arith;
      held = held_above name now new h.held ∙ s.held;
    }
  where
    at : (seen name now ≡ o) ⊎ Moved o now
        → (seen name now).refused ≡ now.refused → (seen name new).refused ≡ new.refused
        → IfSome o.refused (λ e. (seen name new).refused ≡ Some e)
    at (inl e) nr nw =
        let P : Option Refusal → Type 0 = λ x. IfSome x (λ y. (seen name new).refused ≡ Some y) in
        let Q : Option Refusal → Type 0 = λ c. IfSome now.refused (λ x. c ≡ Some x) in
        subst P (sym nr ∙ ap (λ (r : Reading). r.refused) e) (subst Q (sym nw) h.refused)
    at (inr e) nr nw = let P : Option Refusal → Type 0 = λ x. IfSome x (λ y. (seen name new).refused ≡ Some y) in subst P (sym e.refused) tt

pub stop_above : (o now new : Reading) (name : GName) → Skipping o name now → AtStop now new → AtStop o (seen name new)
stop_above o now new name s (inl h) =
    inl (record {
      was = let P : Option MessageKind → Type 0 = IsSome in subst P s.stopped h.was;
      stays = stays_above o now new name s h.stays;
      failures = h.failures ∙ s.failures;
    })
stop_above o now new name s (inr h) =
    let t = h.1 in
    let none : (seen name now).refused ≡ None = refused_above name now None (λ p. absurd (let q = t.unpeeked in cc)) (λ _. t.sound) in
    inr (
      h.0,
      record {
        running = sym s.stopped ∙ t.running;
        sound = calm_before o now name s none;
        unpeeked = unpeeked_before o now name s (rw t.unpeeked refl);
        is_stop = ap (λ v. is_stop v h.0) (sym s.version) ∙ t.is_stop;
        next = stop_next o.to_come now.to_come new.to_come o.version now.version h.0 s.version s.to_come t.next;
        stopped = t.stopped;
        version = t.version ∙ s.version;
        peeked = rw t.peeked refl;
        failures = t.failures ∙ s.failures;
        left = let a = s.left in let b = t.left in omega arith;
        held = held_above name now new t.held ∙ s.held;
      },
    )

fault_above : (o now new : Reading) (name : GName) (e : Refusal) → Skipping o name now → now.peeked ≡ false → IsFault now new e
    → IsFault o (seen name new) e
fault_above o now new name (io kind) s p h = (h.0, calm_before o now name s (rw p h.1), subst (λ n. Rose n new.failures) s.failures h.2)
fault_above o now new name memory s p h = h ∙ s.failures
fault_above o now new name interrupted s p h = (calm_before o now name s (rw p h.0), h.1 ∙ s.failures)
fault_above o now new name (decode x) s p h = absurd h
fault_above o now new name (server m) s p h = absurd h
fault_above o now new name unexpected_frame s p h = absurd h
fault_above o now new name not_utf8 s p h = absurd h
fault_above o now new name (bad_band b) s p h = absurd h

pub fails_above : (o now new : Reading) (name : GName) (e : Refusal) → Skipping o name now → Fails now new e → Fails o (seen name new) e
fails_above o now new name e s (inl h) =
    let P : Option Refusal → Type 0 = λ x. IfSome x (λ y. y ≡ e) in
    let same : IfSome (seen name now).refused (λ y. y ≡ e) =
    (let nr : (seen name now).refused ≡ now.refused = rw h.unpeeked refl in subst P (sym nr) h.same) in
    inl (record {
      running = sym s.stopped ∙ h.running;
      lasting = h.lasting;
      unpeeked = unpeeked_before o now name s (rw h.unpeeked refl);
      same = same_before o now name e s same;
      next = refusal_next o.to_come now.to_come new.to_come o.version now.version e s.version s.to_come h.next;
      refused = rw h.peeked h.refused;
      stopped = h.stopped;
      version = h.version ∙ s.version;
      peeked = rw h.peeked refl;
      failures = h.failures ∙ s.failures;
      left = let a = s.left in let b = h.left in omega arith;
      held = held_above name now new h.held ∙ s.held;
    })
fails_above o now new name e s (inr (inl h)) =
    inr (inl (record {
      running = sym s.stopped ∙ h.running;
      fault = fault_above o now new name e s h.stays.unpeeked h.fault;
      stays = stays_above o now new name s h.stays;
    }))
fails_above o now new name e s (inr (inr h)) =
    inr (inr (record {
      running = sym s.stopped ∙ h.running;
      sound = calm_before o now name s (rw h.unpeeked h.sound);
      unpeeked = unpeeked_before o now name s (rw h.unpeeked refl);
      refusal = h.refusal;
      to_come = ap (option_map unband) h.to_come;
      refused = rw h.peeked h.refused;
      stopped = h.stopped;
      version = h.version ∙ s.version;
      peeked = rw h.peeked refl;
      failures = subst (λ n. Rose n new.failures) s.failures h.failures;
      left = let a = s.left in let b = h.left in omega arith;
      held = held_above name now new h.held ∙ s.held;
    }))

-- at the start of a call
pub skipping-init : (begun : Bool) (name name' : GName) (r new : Reading) → name' ≡ name → (begun ≡ true → TakesLine r new)
    → (begun ≡ false → new ≡ r)
    → Skipping (banded_reading begun name r) name' new
skipping-init true name name' r new e t f = rw e (skipping-following name r new (t refl))
skipping-init false name name' r new e t f =
    rw e (subst (λ (x : Reading). Skipping (seen name r) name x) (sym (f refl)) (skipping-start name r))

-- the state without an open packet doesn't depend on the reference to the reader below
pub seen_by : (place x : Option ℕ) (name name' : GName) (r : Reading) → place ≡ x → is_begun x ≡ false → name' ≡ name
    → banded_reading (is_begun place) name' r ≡ seen name r
seen_by place x name name' r e z n = ap (λ y. banded_reading (is_begun y) name' r) e ∙ ap (λ b. banded_reading b name' r) z
    ∙ ap (λ m. seen m r) n
