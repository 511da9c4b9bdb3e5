-- The bytes of band 1 that calls return.
use Rattle.std.proofs.Common.{◌≡◌, ℕ, ◌+◌, ◌-◌, ◌<◌, ◌≤◌, ◌⊎◌, Bool, true, false, List, [], ◌∷◌, ◌++◌, length, drop, take, refl, sym, ap, ◌∙◌, arith, Option, Some, None, IfSome, Ok, min, inl, inr, subst, length-append, take-append-drop, take_all, length-drop, append-nil, IsSome}
use Rattle.std.specs.Prelude.{◌&&◌, nat_lt, is_some}
use Rattle.std.proofs.lemmas.List.{drop-drop, take-append-le, drop-append-le, length-take-le}
use Rattle.std.specs.Option.{option_map}
use Rattle.gixp_packetline.specs.TransportState.{TransportState}
use Rattle.std.proofs.lemmas.Bool.{ltb-true}
use Rattle.gixp_packetline.specs.declared.protocol.Protocol.{Protocol}
use Rattle.gixp_packetline.specs.declared.protocol.MessageKind.{MessageKind}
use Rattle.gixp_sidebands.specs.declared.sidebands.band.Band.{Band}
use Rattle.gixp_sidebands.specs.declared.sidebands.band.Band.TheVariants.{Empty, Content, Text, Unknown}
use Rattle.gixp_packetline.specs.Pieces.{Refusal, io, unexpected_frame, Piece, line, mark, Pieces, no_pieces}
use Rattle.gixp_packetline.specs.Items.{is_stop}
use Rattle.gixp_packetline.specs.Lines.{gives, stops, refuses, next_from, next_of}
use Rattle.gixp_packetline.specs.Reading.{Reading, TakesLine, ShowsLine, AtStop, Refuses, Faults, IsFault, BreaksOff, Fails, Peeks, is_end}
use Rattle.std.specs.IoError.{error_kind}
use Rattle.std.specs.declared.io.ErrorKind.TheVariants.{UnexpectedEof}
use Rattle.std.specs.declared.io.Error.{Error as io_error}
use Rattle.gixp_sidebands.specs.Bands.{band_of, is_content, unband_line, unband_from, unband, content_from, content_of, Message, messages_line, messages_from, messages_of, is_held, front_line, shown, content_left, messages_left, HandsOut, Side, side_reading, banded_reading, side_content, IsFirstOf, ShowsContent, EndsContent, ShowsFirst, ReadsBytes, RefusesContent, Passes, IsFirst, FillsContent, io_kind, place_after}
use Rattle.gixp_sidebands.specs.Ends.{end-stays, end-joins}
use Rattle.gixp_sidebands.proofs.EndLemmas.{stop_keeps_end, refusal_keeps_end, shown_keeps_end, taken_keeps_end}
use Rattle.gixp_sidebands.proofs.PieceLemmas.{mark_not_gives}

pub both_true : (a b : Bool) → (a && b) ≡ true → (a ≡ true) × (b ≡ true)
both_true true b h = (refl, h)
both_true false b h = absurd (let x = h in cc)

pub content_is : (k : Band) → is_content k ≡ true → k ≡ Content
content_is Content h = refl
content_is (Unknown b) h = cc
content_is Empty h = cc
content_is (Text b) h = cc

-- the facts about an open packet
pub record HoldsLine (n : ℕ) (r : Reading) : Type 0 where
  pub peeked : r.peeked ≡ true
  pub content : band_of r.line ≡ Content
  pub more : n + 1 < length r.line
  pub room : length r.line < r.left

pub holds_line : (n : ℕ) (r : Reading) → is_held (Some n) r ≡ true → HoldsLine n r
holds_line n r h =
    let a = both_true r.peeked (is_content (band_of r.line) && (nat_lt (n + 1) (length r.line) && nat_lt (length r.line) r.left)) h in
    let b = both_true (is_content (band_of r.line)) (nat_lt (n + 1) (length r.line) && nat_lt (length r.line) r.left) a.1 in
    let c = both_true (nat_lt (n + 1) (length r.line)) (nat_lt (length r.line) r.left) b.1 in
    record {
      peeked = a.0;
      content = content_is (band_of r.line) b.0;
      more = ltb-true (n + 1) (length r.line) c.0;
      room = ltb-true (length r.line) r.left c.1;
    }

content_line : (k : Band) (text : List ℕ) (rest : Pieces) → k ≡ Content → content_from (unband_line k text rest).list ≡ drop 1 text
    ++ content_from rest.list
content_line k text rest e = ap (λ x. content_from (unband_line x text rest).list) e

messages_skip : (k : Band) (text : List ℕ) (rest : List Message) → k ≡ Content → messages_line k text rest ≡ rest
messages_skip k text rest e = ap (λ x. messages_line x text rest) e

-- content begins with the first line, if that is content
content_front : (list : List Piece) (end : Refusal) (text : List ℕ) → front_line list ≡ text → band_of text ≡ Content
    → (rest : List ℕ) × (content_from (unband_from list end).list ≡ drop 1 text ++ rest)
content_front [] end text f k = absurd (let e : Empty ≡ Content = ap band_of f ∙ k in cc)
content_front (mark kind ∷ ps) end text f k = absurd (let e : Empty ≡ Content = ap band_of f ∙ k in cc)
content_front (line t ∷ ps) end text f k = (
  content_from (unband_from ps end).list,
  content_line (band_of t) t (unband_from ps end) (ap band_of f ∙ k)
      ∙ ap (λ x. drop 1 x ++ content_from (unband_from ps end).list) f,
)

-- the same for the next line
pub content_gives : (v : Protocol) (list : List Piece) (end : Refusal) (text : List ℕ) (q : Pieces)
    → next_from v list end ≡ gives text q → band_of text ≡ Content
    → (content_from (unband_from list end).list ≡ drop 1 text ++ content_of q) × (messages_from list ≡ messages_of q)
content_gives v [] end text q h k = cc
content_gives v (mark kind ∷ ps) end text q h k =
    absurd (mark_not_gives (is_stop v kind) kind (record { list = ps; end = end }) q unexpected_frame text h)
content_gives v (line t ∷ ps) end text q h k =
    let p : Pieces = record { list = ps; end = end } in
    let e1 : t ≡ text = cc in
    let e2 : p ≡ q = cc in (
      content_line (band_of t) t (unband_from ps end) (ap band_of e1 ∙ k) ∙ ap (λ x. drop 1 x ++ content_of p) e1
          ∙ ap (λ x. drop 1 text ++ content_of x) e2,
      messages_skip (band_of t) t (messages_from ps) (ap band_of e1 ∙ k) ∙ ap messages_of e2,
    )

-- part of the first bytes is returned
split_front : (all xs rest : List ℕ) (n k : ℕ) → all ≡ xs ++ rest → n + k ≤ length xs → drop n all ≡ take k (drop n xs) ++ drop (n + k) all
split_front all xs rest n k e h =
    let a : drop n all ≡ drop n xs ++ rest = ap (drop n) e ∙ drop-append-le n xs rest (omega arith) in
    let b : take k (drop n all) ≡ take k (drop n xs) = ap (take k) a
    ∙ take-append-le k (drop n xs) rest (omega (arith, length-drop n xs)) in
    sym (take-append-drop k (drop n all)) ∙ ap (λ x. x ++ drop k (drop n all)) b ∙ ap (λ x. take k (drop n xs) ++ x) (drop-drop k n all)

-- all of the first bytes are returned
whole_front : (all xs rest : List ℕ) (n k : ℕ) → all ≡ xs ++ rest → n ≤ length xs → length xs ≤ n + k → drop n all ≡ take k (drop n xs)
    ++ rest
whole_front all xs rest n k e h more =
    ap (drop n) e ∙ drop-append-le n xs rest h ∙ ap (λ x. x ++ rest) (sym (take_all k (drop n xs) (omega (arith, length-drop n xs))))

tail_of : (n : ℕ) (text : List ℕ) → drop n (drop 1 text) ≡ drop (n + 1) text
tail_of n text = drop-drop n 1 text ∙ ap (λ i. drop i text) (omega arith)

-- not all bytes of the open packet are returned
pub hands_part : (n k : ℕ) (r : Reading) → is_held (Some n) r ≡ true → k < length r.line - n - 1
    → HandsOut (Some n) r (take k (shown (Some n) r)) (Some (n + k)) r
hands_part n k r held less =
    record {
      content = at r.to_come;
      messages = same r.to_come;
      ending = end-stays r;
      stopped = refl;
      version = refl;
      failures = refl;
      left = omega arith;
      bound =
          let h = holds_line n r held in
          omega (
            arith,
            h.room,
            length-drop (n + 1) r.line,
            length-take-le k (shown (Some n) r) (omega (arith, length-drop (n + 1) r.line)),
          );
      held = refl;
    }
  where
    same : (o : Option Pieces) → IfSome o (λ p. (q : Pieces) × (o ≡ Some q) × (messages_left r.stopped q ≡ messages_left r.stopped p))
    same None = tt
    same (Some p) = (p, refl, refl)

    at : (o : Option Pieces) → IfSome o (λ p. front_line p.list ≡ r.line
        → (q : Pieces) × (o ≡ Some q) × (front_line q.list ≡ r.line)
        × (drop n (content_of p) ≡ take k (drop (n + 1) r.line) ++ drop (n + k) (content_of q)))
    at None = tt
    at (Some p) = λ f.
        let h = holds_line n r held in
        let c = content_front p.list p.end r.line f h.content in (
          p,
          refl,
          f,
          split_front (content_of p) (drop 1 r.line) c.0 n k c.1 (omega (arith, length-drop 1 r.line, h.more))
              ∙ ap (λ x. take k x ++ drop (n + k) (content_of p)) (tail_of n r.line),
        )

-- all bytes of the open packet are returned
pub hands_all : (n k : ℕ) (r new : Reading) → is_held (Some n) r ≡ true → length r.line - n - 1 ≤ k → TakesLine r new
    → HandsOut (Some n) r (take k (shown (Some n) r)) None new
hands_all n k r new held more t =
    record {
      content = content r.to_come new.to_come new.stopped t.stopped t.next;
      messages = messages r.to_come new.to_come r.stopped new.stopped t.running t.stopped t.next;
      ending = let h = holds_line n r held in taken_keeps_end r new h.content h.peeked t;
      stopped = t.stopped ∙ sym t.running;
      version = t.version;
      failures = t.failures;
      left = let a = t.left in omega arith;
      bound =
          let h = holds_line n r held in
          let a = t.left in
          let same = ap length (t.again h.peeked) in
          let all = ap length (take_all k (shown (Some n) r) (omega (arith, length-drop (n + 1) r.line))) in
          omega (arith, h.more, length-drop (n + 1) r.line);
      held = t.held;
    }
  where
    content : (a b : Option Pieces) (s : Option MessageKind) → s ≡ None
        → IfSome a (λ p. (q : Pieces) × (b ≡ Some q) × (next_of r.version p ≡ gives new.line q))
        → IfSome a (λ p. front_line p.list ≡ r.line → (q : Pieces) × (b ≡ Some q) × Unit {0}
        × (drop n (content_of p) ≡ take k (drop (n + 1) r.line) ++ content_left None s q))
    content None b s e m = tt
    content (Some p) b s e m = λ f.
        let h = holds_line n r held in
        let same : new.line ≡ r.line = t.again h.peeked in
        let c = content_gives r.version p.list p.end new.line m.0 m.2 (ap band_of same ∙ h.content) in
        let d : content_of p ≡ drop 1 r.line ++ content_of m.0 = c.0 ∙ ap (λ x. drop 1 x ++ content_of m.0) same in
        rw e (
          m.0,
          m.1,
          tt,
          whole_front (content_of p) (drop 1 r.line) (content_of m.0) n k d (omega (arith, length-drop 1 r.line, h.more))
              (omega (arith, length-drop 1 r.line, h.more))
              ∙ ap (λ x. take k x ++ content_of m.0) (tail_of n r.line),
        )

    messages : (a b : Option Pieces) (s s' : Option MessageKind) → s ≡ None → s' ≡ None
        → IfSome a (λ p. (q : Pieces) × (b ≡ Some q) × (next_of r.version p ≡ gives new.line q))
        → IfSome a (λ p. (q : Pieces) × (b ≡ Some q) × (messages_left s' q ≡ messages_left s p))
    messages None b s s' e e' m = tt
    messages (Some p) b s s' e e' m =
        let h = holds_line n r held in
        let c = content_gives r.version p.list p.end new.line m.0 m.2 (ap band_of (t.again h.peeked) ∙ h.content) in
        rw (e, e') (m.0, m.1, sym c.1)

pub hands_part_at : (place : Option ℕ) (n k len : ℕ) (r : Reading) → place ≡ Some n → is_held place r ≡ true → len ≡ length r.line
    → k < len - n - 1
    → HandsOut place r (take k (shown place r)) (Some (n + k)) r
hands_part_at place n k len r e held l less = rw e (hands_part n k r (rw e at held) (omega arith))

pub hands_all_at : (place : Option ℕ) (n k len : ℕ) (r new : Reading) → place ≡ Some n → is_held place r ≡ true → len ≡ length r.line
    → len - n - 1 ≤ k → TakesLine r new
    → HandsOut place r (take k (shown place r)) None new
hands_all_at place n k len r new e held l more t = rw e (hands_all n k r new (rw e at held) (omega arith) t)

first_gives : (v : Protocol) (list : List Piece) (end : Refusal) (text : List ℕ) (q : Pieces) → next_from v list end ≡ gives text q
    → front_line list ≡ text
first_gives v [] end text q h = cc
first_gives v (line t ∷ ps) end text q h = cc
first_gives v (mark kind ∷ ps) end text q h =
    absurd (mark_not_gives (is_stop v kind) kind (record { list = ps; end = end }) q unexpected_frame text h)

-- a line that was peeked at is the first packet line to come
pub shows_first : (o : Option Pieces) (now new : Reading) → IfSome o (λ p. (q : Pieces) × (now.to_come ≡ Some q)) → ShowsLine now new
    → IfSome o (λ p. (q : Pieces) × (new.to_come ≡ Some q) × (front_line q.list ≡ new.line))
shows_first None now new h s = tt
shows_first (Some p) now new h s = at now.to_come h.1 s.next
  where
    at : (x : Option Pieces) → x ≡ Some h.0 → IfSome x (λ p. (q : Pieces) × (new.to_come ≡ Some p)
        × (next_of now.version p ≡ gives new.line q))
        → (q : Pieces) × (new.to_come ≡ Some q) × (front_line q.list ≡ new.line)
    at None e n = absurd (let x = e in cc)
    at (Some y) e n = (y, n.1, first_gives now.version y.list y.end new.line n.0 n.2)

stops_empty : (v : Protocol) (list : List Piece) (end : Refusal) (kind : MessageKind) (q : Pieces) → next_from v list end ≡ stops kind q
    → content_from list ≡ []
stops_empty v [] end kind q h = refl
stops_empty v (line t ∷ ps) end kind q h = cc
stops_empty v (mark k ∷ ps) end kind q h = refl

-- a content line that was peeked at becomes the open packet
shows_content_at : (old new : Side) → old.place ≡ None → new.place ≡ Some 0 → new.fault ≡ None → is_held new.place new.reading ≡ true
    → ShowsFirst old.reading new.reading (Ok true)
    → ShowsLine (banded_reading false old.name old.reading) (banded_reading false new.name new.reading) → ShowsContent old new
shows_content_at old new o n f held first h =
    record {
      content = rw (o, n) (content old.reading.to_come new.reading.to_come old.reading.stopped h.running first h.next);
      ending = shown_keeps_end old.name new.name old.reading new.reading h;
      bound = rw (o, n) (let a = h.left in omega arith);
      some = rw n (let l = holds_line 0 new.reading (rw n at held) in omega (arith, length-drop 1 new.reading.line, l.more));
      version = h.version;
      failures = h.failures;
      left = h.left;
      held = h.held;
      fault = f;
    }
  where
    content : (a b : Option Pieces) (s : Option MessageKind) → s ≡ None
        → IfSome a (λ p. (q : Pieces) × (b ≡ Some q) × (front_line q.list ≡ new.reading.line))
        → IfSome (option_map unband a) (λ p. (q : Pieces) × (option_map unband b ≡ Some p)
        × (next_of old.reading.version p ≡ gives (drop 1 new.reading.line) q))
        → IfSome a (λ p. Unit {0} → (q : Pieces) × (b ≡ Some q) × (front_line q.list ≡ new.reading.line)
        × (content_left None s p ≡ drop 0 (content_of q)))
    content None b s e k m = tt
    content (Some p) b s e k m = λ _.
        let u : unband k.0 ≡ unband p = let x : Some (unband k.0) ≡ Some (unband p) = sym (ap (option_map unband) k.1) ∙ m.1 in cc in
        rw e (k.0, k.1, k.2, sym (ap (λ x. content_from x.list) u))

-- without an open packet, any packet line may be the first
unopened_passes : (old new : Side) (bytes : List ℕ) → new.place ≡ None
    → IfSome old.reading.to_come (λ p. (q : Pieces) × (new.reading.to_come ≡ Some q)
    × (side_content old p ≡ bytes ++ side_content new q)) → Passes old new bytes
unopened_passes old new bytes n = at old.reading.to_come
  where
    at : (o : Option Pieces) → IfSome o (λ p. (q : Pieces) × (new.reading.to_come ≡ Some q)
        × (side_content old p ≡ bytes ++ side_content new q))
        → IfSome o (λ p. IsFirstOf old p → (q : Pieces) × (new.reading.to_come ≡ Some q) × IsFirstOf new q
        × (side_content old p ≡ bytes ++ side_content new q))
    at None k = tt
    at (Some p) k = λ _. (k.0, k.1, (let P : Option ℕ → Type 0 = λ x. IsFirst x new.reading k.0 in subst P (sym n) tt), k.2)

known_below : (o : Option Pieces) (y : Pieces) → option_map unband o ≡ Some y → (q : Pieces) × (o ≡ Some q) × (unband q ≡ y)
known_below None y h = absurd (let x = h in cc)
known_below (Some q) y h = (q, refl, let x = h in cc)

-- no content is left, and there was none before
empty_passes : (old new : Side) → old.place ≡ None → new.place ≡ None → IfSome old.reading.to_come (λ p. side_content old p ≡ [])
    → IfSome (option_map unband old.reading.to_come) (λ p. (y : Pieces) × (option_map unband new.reading.to_come ≡ Some y)
    × ((q : Pieces) → unband q ≡ y → content_left None new.reading.stopped q ≡ []))
    → Passes old new []
empty_passes old new o n c k = unopened_passes old new [] n (rw n (at old.reading.to_come new.reading.to_come c k))
  where
    at : (a b : Option Pieces) → IfSome a (λ p. side_content old p ≡ [])
        → IfSome (option_map unband a) (λ p. (y : Pieces) × (option_map unband b ≡ Some y)
        × ((q : Pieces) → unband q ≡ y → content_left None new.reading.stopped q ≡ []))
        → IfSome a (λ p. (q : Pieces) × (b ≡ Some q) × (side_content old p ≡ content_left None new.reading.stopped q))
    at None b c k = tt
    at (Some p) b c k = let f = known_below b k.0 k.1 in (f.0, f.1, c ∙ sym (k.2 f.0 f.2))

at_stop : (s : Option MessageKind) (q : Pieces) → IsSome s → content_left None s q ≡ []
at_stop None q h = absurd (let x = h in cc)
at_stop (Some kind) q h = refl

stop_after : (old new : Reading) → AtStop old new → IfSome old.to_come (λ p. (y : Pieces) × (new.to_come ≡ Some y)
    × ((q : Pieces) → unband q ≡ y → content_left None new.stopped q ≡ []))
stop_after old new (inl h) = at old.to_come h.stays.to_come
  where
    at : (o : Option Pieces) → IfSome o (λ p. new.to_come ≡ Some p)
        → IfSome o (λ p. (y : Pieces) × (new.to_come ≡ Some y) × ((q : Pieces) → unband q ≡ y → content_left None new.stopped q ≡ []))
    at None k = tt
    at (Some p) k =
        (p, k, λ q _. at_stop new.stopped q (let P : Option MessageKind → Type 0 = IsSome in subst P (sym h.stays.stopped) h.was))
stop_after old new (inr h) = at old.to_come h.1.next
  where
    at : (o : Option Pieces) → IfSome o (λ p. (q : Pieces) × (new.to_come ≡ Some q) × (next_of old.version p ≡ stops h.0 q))
        → IfSome o (λ p. (y : Pieces) × (new.to_come ≡ Some y) × ((q : Pieces) → unband q ≡ y → content_left None new.stopped q ≡ []))
    at None k = tt
    at (Some p) k =
        (k.0, k.1, λ q _. at_stop new.stopped q (let P : Option MessageKind → Type 0 = IsSome in subst P (sym h.1.stopped) refl))

stop_left : (old new : Reading) → AtStop old new → new.left ≤ old.left
stop_left old new (inl h) = h.stays.left
stop_left old new (inr h) = h.1.left

ends_content_at : (old new : Side) → old.place ≡ None → new.place ≡ None → new.fault ≡ None
    → AtStop (side_reading old) (side_reading new) → EndsContent old new
ends_content_at old new o n f h =
    let none : IfSome old.reading.to_come (λ p. side_content old p ≡ []) =
    rw o (content old.reading.to_come old.reading.stopped (rw o at h)) in
    let k : AtStop (banded_reading false old.name old.reading) (banded_reading false new.name new.reading) = rw (o, n) at h in
    record {
      at_stop = h;
      content = none;
      rest = empty_passes old new o n none (stop_after (banded_reading false old.name old.reading)
          (banded_reading false new.name new.reading) k);
      ending = stop_keeps_end old new o n h;
      bound = rw (o, n) (let a = stop_left (banded_reading false old.name old.reading) (banded_reading false new.name new.reading) k in
          omega arith);
      place = n;
      fault = f;
    }
  where
    content : (a : Option Pieces) (s : Option MessageKind) → AtStop (record (banded_reading false old.name old.reading) {
      to_come =
          option_map unband a;
      stopped = s;
    }) (side_reading new) → IfSome a (λ p. content_left None s p ≡ [])
    content None s h = tt
    content (Some p) None (inl h) = absurd (let x = h.was in cc)
    content (Some p) None (inr h) = let n = h.1.next in stops_empty old.reading.version (unband p).list (unband p).end h.0 n.0 n.2
    content (Some p) (Some k) h = refl

-- a call for lines opens the next packet of content
pub fills_by : (old new : Side) (more : Bool) → old.place ≡ None → new.place ≡ place_after (Ok more) → new.fault ≡ None
    → is_held new.place new.reading ≡ true
    → ShowsFirst old.reading new.reading (Ok more) → Peeks (side_reading old) (side_reading new) (Ok more) → FillsContent old new (Ok more)
fills_by old new true o n f held first h = shows_content_at old new o n f held first (rw (o, n) at h)
fills_by old new false o n f held first h = ends_content_at old new o n f h

-- bytes of the open packet are returned
pub reads_bytes : (old mid new : Side) (n : ℕ) (rest buf buf' : List ℕ) → ShowsContent old mid
    → HandsOut mid.place mid.reading (take n (shown mid.place mid.reading)) new.place new.reading
    → new.name ≡ mid.name → new.fault ≡ mid.fault → rest ≡ shown mid.place mid.reading → n ≡ min (length rest) (length buf)
    → buf' ≡ take n rest ++ drop n buf
    → ReadsBytes old new (take n buf') × (n ≡ 0 → length buf' ≡ 0)
reads_bytes old mid new n rest buf buf' s h name fault r m b =
    let part : length (take n rest) ≡ n = length-take-le n rest (omega arith) in
    let got : take n buf' ≡ take n (shown mid.place mid.reading) =
    ap (take n) b ∙ take-append-le n (take n rest) (drop n buf) (omega arith) ∙ take_all n (take n rest) (omega arith) ∙ ap (take n) r in (
      record {
        content = rw got (content old.reading.to_come mid.reading.to_come s.content h.content);
        ending = end-joins old.reading mid.reading new.reading s.ending h.ending;
        bound = let a = h.bound in let c = s.bound in let l = ap length got in omega arith;
        version = h.version ∙ s.version;
        failures = h.failures ∙ s.failures;
        left = let a = h.left in let c = s.left in omega arith;
        held = ap (λ (x : TransportState). record x { names = new.name ∷ x.names }) h.held
            ∙ ap (λ k. record mid.reading.held { names = k ∷ mid.reading.held.names }) name ∙ s.held;
        fault = fault ∙ s.fault;
      },
      λ z. let some = s.some in let l = ap length r in
          omega (arith, ap length b, length-append (take n rest) (drop n buf), length-drop n buf),
    )
  where
    content : (a b : Option Pieces)
        → IfSome a (λ p. IsFirstOf old p → (q : Pieces) × (b ≡ Some q) × IsFirstOf mid q × (side_content old p ≡ side_content mid q))
        → IfSome b (λ p. IsFirstOf mid p → (q : Pieces) × (new.reading.to_come ≡ Some q) × IsFirstOf new q
        × (side_content mid p ≡ take n (shown mid.place mid.reading) ++ side_content new q))
        → IfSome a (λ p. IsFirstOf old p → (q : Pieces) × (new.reading.to_come ≡ Some q) × IsFirstOf new q
        × (side_content old p ≡ take n (shown mid.place mid.reading) ++ side_content new q))
    content None b f k = tt
    content (Some p) None f k = λ z. absurd (let x = (f z).1 in cc)
    content (Some p) (Some y) f k = λ z.
        let m = f z in
        let e : y ≡ m.0 = let x = m.1 in cc in
        let w = k (subst (IsFirstOf mid) (sym e) m.2) in
        (w.0, w.1, w.2, m.3 ∙ ap (side_content mid) (sym e) ∙ w.3)

pub none_of : (o : Option ℕ) → is_some o ≡ false → o ≡ None
none_of None e = refl
none_of (Some n) e = absurd (let x = e in cc)

pub fills_either : (old new : Side) (more : Bool) → FillsContent old new (Ok more) → ShowsContent old new ⊎ EndsContent old new
fills_either old new true h = inl h
fills_either old new false h = inr h

refuses_empty : (v : Protocol) (list : List Piece) (end : Refusal) (e : Refusal) → next_from v list end ≡ refuses e → content_from list ≡ []
refuses_empty v [] end e h = refl
refuses_empty v (line t ∷ ps) end e h = cc
refuses_empty v (mark k ∷ ps) end e h = refl

-- a transient error leaves the content to come as it is
fault_passes : (old new : Side) (x : Refusal) → old.place ≡ None → new.place ≡ None
    → Faults (banded_reading false old.name old.reading) (banded_reading false new.name new.reading) x → Passes old new []
fault_passes old new x o n h =
    unopened_passes old new [] n
    (rw (o, n) (at old.reading.to_come new.reading.to_come old.reading.stopped new.reading.stopped h.running
    (h.stays.stopped ∙ h.running) h.stays.to_come))
  where
    at : (a b : Option Pieces) (s s' : Option MessageKind) → s ≡ None → s' ≡ None
        → IfSome (option_map unband a) (λ p. option_map unband b ≡ Some p)
        → IfSome a (λ p. (q : Pieces) × (b ≡ Some q) × (content_left None s p ≡ content_left None s' q))
    at None b s s' e g k = tt
    at (Some p) None s s' e g k = absurd (let y = k in cc)
    at (Some p) (Some q) s s' e g k =
        let u : unband q ≡ unband p = let y : Some (unband q) ≡ Some (unband p) = k in cc in
        rw (e, g) (q, refl, sym (ap (λ y. content_from y.list) u))

-- nothing is left after a sticky error
refused_empty : (s : Option MessageKind) (x : Refusal) (q : Pieces) → s ≡ None → unband q ≡ no_pieces x → content_left None s q ≡ []
refused_empty s x q e u = rw e (ap (λ y. content_from y.list) u)

refusal_after : (old new : Reading) (x : Refusal) → Refuses old new x → IfSome old.to_come (λ p. (y : Pieces) × (new.to_come ≡ Some y)
    × ((q : Pieces) → unband q ≡ y → content_left None new.stopped q ≡ []))
refusal_after old new x h = at old.to_come h.next
  where
    at : (o : Option Pieces) → IfSome o (λ p. (new.to_come ≡ Some (no_pieces x)) × (next_of old.version p ≡ refuses x))
        → IfSome o (λ p. (y : Pieces) × (new.to_come ≡ Some y) × ((q : Pieces) → unband q ≡ y → content_left None new.stopped q ≡ []))
    at None k = tt
    at (Some p) k = (no_pieces x, k.0, λ q u. refused_empty new.stopped x q h.stopped u)

-- all content was lost
abbrev lost_of : Side → Option Pieces → List ℕ
lost_of s None = []
lost_of s (Some p) = side_content s p

broken_passes : (old new : Side) (x : Refusal) → new.place ≡ None
    → BreaksOff (side_reading old) (banded_reading false new.name new.reading) x → Passes old new (lost_of old old.reading.to_come)
broken_passes old new x n h = unopened_passes old new (lost_of old old.reading.to_come) n (rw n (at old.reading.to_come))
  where
    at : (a : Option Pieces) → IfSome a (λ p. (q : Pieces) × (new.reading.to_come ≡ Some q)
        × (side_content old p ≡ lost_of old a ++ content_left None new.reading.stopped q))
    at None = tt
    at (Some p) =
        let f = known_below new.reading.to_come (no_pieces x) h.to_come in (
          f.0,
          f.1,
          sym (append-nil (side_content old p))
              ∙ ap (λ y. side_content old p ++ y) (sym (refused_empty new.reading.stopped x f.0 h.stopped f.2)),
        )

-- an error of the stream comes after all content
ends_at : (old new : Side) (x : Refusal) → old.place ≡ None → Refuses (side_reading old) (side_reading new) x
    → IfSome old.reading.to_come (λ p. side_content old p ≡ [])
ends_at old new x o r = rw o (by (rw o at r))
  where
    at : (a : Option Pieces) (b : Option Pieces) (s : Option MessageKind) → s ≡ None
        → IfSome (option_map unband a) (λ p. (b ≡ Some (no_pieces x)) × (next_of old.reading.version p ≡ refuses x))
        → IfSome a (λ p. content_left None s p ≡ [])
    at None b s e k = tt
    at (Some p) b s e k = rw e (refuses_empty old.reading.version (unband p).list (unband p).end x k.1)

    by : Refuses (banded_reading false old.name old.reading) (side_reading new) x
        → IfSome old.reading.to_come (λ p. content_left None old.reading.stopped p ≡ [])
    by h = at old.reading.to_come (side_reading new).to_come old.reading.stopped h.running h.next

-- a read that failed with `UnexpectedEof` is not a transient error
not_both : (old new : Reading) (x : Refusal) → x ≡ io UnexpectedEof → Faults old new x → ⊥
not_both old new x e h = absurd (let y : is_end UnexpectedEof ≡ false = (subst (IsFault old new) e h.fault).0 in cc)

-- a failed call for lines is a failed call for content
pub refuses_by : (old new : Side) (x : Refusal) (e : io_error) → old.place ≡ None → new.place ≡ None → new.fault ≡ Some x
    → error_kind e ≡ io_kind x → Fails (side_reading old) (side_reading new) x
    → RefusesContent old new e
refuses_by old new x e o n f k (inl h) =
    let g : Refuses (banded_reading false old.name old.reading) (banded_reading false new.name new.reading) x = rw (o, n) at h in
    record {
      refusal = x;
      fault = f;
      kind = k;
      fails = inl h;
      unopened = o;
      place = n;
      lost = [];
      rest = empty_passes old new o n (ends_at old new x o h)
          (refusal_after (banded_reading false old.name old.reading) (banded_reading false new.name new.reading) x g);
      ending = refusal_keeps_end old new o n x (inl h);
      bound = rw (o, n) (let a = g.left in omega arith);
      keeps = λ _. refl;
      ends = ends_at old new x o;
    }
refuses_by old new x e o n f k (inr (inl h)) =
    let g : Faults (banded_reading false old.name old.reading) (banded_reading false new.name new.reading) x = rw (o, n) at h in
    record {
      refusal = x;
      fault = f;
      kind = k;
      fails = inr (inl h);
      unopened = o;
      place = n;
      lost = [];
      rest = fault_passes old new x o n g;
      ending = refusal_keeps_end old new o n x (inr (inl h));
      bound = rw (o, n) (let a = g.stays.left in omega arith);
      keeps = λ _. refl;
      ends = ends_at old new x o;
    }
refuses_by old new x e o n f k (inr (inr h)) =
    let g : BreaksOff (side_reading old) (banded_reading false new.name new.reading) x = rw n at h in
    record {
      refusal = x;
      fault = f;
      kind = k;
      fails = inr (inr h);
      unopened = o;
      place = n;
      lost = lost_of old old.reading.to_come;
      rest = broken_passes old new x n g;
      ending = refusal_keeps_end old new o n x (inr (inr h));
      bound = rw (o, n) (let a = g.left in omega arith);
      keeps = λ y. absurd (not_both (side_reading old) (side_reading new) x h.refusal y);
      ends = ends_at old new x o;
    }
