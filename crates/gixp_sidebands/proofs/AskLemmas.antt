-- The calls of the interrupt, call by call of the reader.
use Rattle.std.proofs.Common.{◌≡◌, ℕ, inl, inr, ◌⊎◌, Bool, true, false, cond, List, [], ◌∷◌, refl, sym, ap, subst, ◌∙◌, arith, Option, Some, None, IfSome, Err}
use Rattle.gixp_packetline.specs.declared.protocol.Protocol.{Protocol}
use Rattle.gixp_packetline.specs.declared.protocol.MessageKind.{MessageKind}
use Rattle.gixp_sidebands.specs.declared.sidebands.band.Band.TheVariants.{Empty, Content, Text}
use Rattle.gixp_packetline.specs.declared.read.Error.{Error}
use Rattle.gixp_packetline.specs.declared.read.Error.TheVariants.{Io, Decode, Server, UnexpectedFrame, NotUtf8, BadBand, Interrupted, Memory}
use Rattle.gixp_packetline.specs.Pieces.{Refusal, io, decode, server, unexpected_frame, not_utf8, bad_band, interrupted, memory, Piece, line, mark, Pieces, no_pieces, with_piece}
use Rattle.gixp_packetline.specs.Items.{is_stop}
use Rattle.gixp_packetline.specs.Lines.{gives, stops, refuses, next_from, next_of}
use Rattle.gixp_packetline.specs.Reading.{Reading, TakesLine, ShowsLine, AtStop, Fails, IsFault, IsPlain, Rose, refusal_of, reset_to, is_interrupted}
use Rattle.gixp_sidebands.specs.Bands.{band_of, is_held, is_begun, IsUncounted, Message}
use Rattle.gixp_sidebands.specs.Reporting.{Listener, ReportsPacket}
use Rattle.gixp_sidebands.specs.Questions.{one_if, is_text, IsLeft, TakesTexts, NoFewer, Asked, AskedBelow}
use Rattle.gixp_sidebands.specs.QuestionsAgain.{takes-nothing, asked-none, asked-joins}
use Rattle.gixp_sidebands.proofs.PieceLemmas.{mark_not_gives}
use Rattle.gixp_sidebands.proofs.ContentLemmas.{holds_line}

-- the next line is the first packet line
first-gives : (v : Protocol) (list : List Piece) (end : Refusal) (text : List ℕ) (q : Pieces) → next_from v list end ≡ gives text q
    → record { list = list; end = end } ≡ with_piece (line text) q
first-gives v [] end text q h = cc
first-gives v (line t ∷ ps) end text q h =
    let p : Pieces = record { list = ps; end = end } in
    let e1 : t ≡ text = cc in
    let e2 : p ≡ q = cc in
    rw (← e1, ← e2) refl
first-gives v (mark kind ∷ ps) end text q h =
    absurd (mark_not_gives (is_stop v kind) kind (record { list = ps; end = end }) q unexpected_frame text h)

first-stops : (v : Protocol) (list : List Piece) (end : Refusal) (kind : MessageKind) (q : Pieces)
    → next_from v list end ≡ stops kind q → record { list = list; end = end } ≡ with_piece (mark kind) q
first-stops v [] end kind q h = cc
first-stops v (line t ∷ ps) end kind q h = cc
first-stops v (mark k ∷ ps) end kind q h = by (is_stop v k) h
  where
    by : (b : Bool) → cond b (stops k (record { list = ps; end = end })) (refuses unexpected_frame) ≡ stops kind q
        → record { list = mark k ∷ ps; end = end } ≡ with_piece (mark kind) q
    by true h =
        let p : Pieces = record { list = ps; end = end } in
        let e1 : k ≡ kind = cc in
        let e2 : p ≡ q = cc in
        rw (← e1, ← e2) refl
    by false h = cc

-- an error comes after all packet lines, or it is that of an unexpected packet
first-refuses : (v : Protocol) (list : List Piece) (end : Refusal) (e : Refusal) → next_from v list end ≡ refuses e
    → (no_pieces e ≡ record { list = list; end = end }) ⊎ (e ≡ unexpected_frame)
first-refuses v [] end e h = let i : end ≡ e = cc in inl (ap no_pieces (sym i))
first-refuses v (line t ∷ ps) end e h = cc
first-refuses v (mark k ∷ ps) end e h = by (is_stop v k) h
  where
    by : (b : Bool) → cond b (stops k (record { list = ps; end = end })) (refuses unexpected_frame) ≡ refuses e
        → (no_pieces e ≡ record { list = mark k ∷ ps; end = end }) ⊎ (e ≡ unexpected_frame)
    by true h = cc
    by false h = let i : e ≡ unexpected_frame = cc in inr i

takes-line : (n : ℕ) (old new : Reading) → TakesLine old new → one_if (is_text (band_of new.line)) ≡ n
    → IfSome old.to_come (TakesTexts n old new)
takes-line n old new t e = at old.to_come t.next
  where
    at : (o : Option Pieces) → IfSome o (λ p. (q : Pieces) × (new.to_come ≡ Some q) × (next_of old.version p ≡ gives new.line q))
        → IfSome o (TakesTexts n old new)
    at None h = tt
    at (Some p) h = record {
      taken = line new.line ∷ [];
      rest = h.0;
      begins = first-gives old.version p.list p.end new.line h.0 h.2;
      texts = omega (arith, e);
      left = h.0;
      to_come = h.1;
      is_left = inl refl;
    }

takes-stop : (old new : Reading) → AtStop old new → IfSome old.to_come (TakesTexts 0 old new)
takes-stop old new (inl s) = takes-nothing old new s.stays.to_come
takes-stop old new (inr s) = at old.to_come s.1.next
  where
    at : (o : Option Pieces) → IfSome o (λ p. (q : Pieces) × (new.to_come ≡ Some q) × (next_of old.version p ≡ stops s.0 q))
        → IfSome o (TakesTexts 0 old new)
    at None h = tt
    at (Some p) h = record {
      taken = mark s.0 ∷ [];
      rest = h.0;
      begins = first-stops old.version p.list p.end s.0 h.0 h.2;
      texts = refl;
      left = h.0;
      to_come = h.1;
      is_left = inl refl;
    }

takes-shown : (old new : Reading) → ShowsLine old new → IfSome old.to_come (TakesTexts 0 old new)
takes-shown old new s = takes-nothing old new (at old.to_come s.next)
  where
    at : (o : Option Pieces) → IfSome o (λ p. (q : Pieces) × (new.to_come ≡ Some p) × (next_of old.version p ≡ gives new.line q))
        → IfSome o (λ p. new.to_come ≡ Some p)
    at None h = tt
    at (Some p) h = h.1

rose-counts : (old new : Reading) → Rose old.failures new.failures → IsUncounted old new → ⊥
rose-counts old new r u = let e = u.0 in let l = u.1 in omega (arith, r, e, l)

takes-fails : (old new : Reading) (e : Refusal) → Fails old new e → IfSome old.to_come (TakesTexts 0 old new)
takes-fails old new e (inr (inl f)) = takes-nothing old new f.stays.to_come
takes-fails old new e (inr (inr b)) = at old.to_come
  where
    at : (o : Option Pieces) → IfSome o (TakesTexts 0 old new)
    at None = tt
    at (Some p) = record {
      taken = [];
      rest = p;
      begins = refl;
      texts = refl;
      left = no_pieces e;
      to_come = b.to_come;
      is_left = inr (inr (ap no_pieces b.refusal, rose-counts old new b.failures));
    }
takes-fails old new e (inl r) = at old.to_come r.next
  where
    at : (o : Option Pieces) → IfSome o (λ p. (new.to_come ≡ Some (no_pieces e)) × (next_of old.version p ≡ refuses e))
        → IfSome o (TakesTexts 0 old new)
    at None h = tt
    at (Some p) h = record {
      taken = [];
      rest = p;
      begins = refl;
      texts = refl;
      left = no_pieces e;
      to_come = h.0;
      is_left = by (first-refuses old.version p.list p.end e h.1);
    }
      where
        by : (no_pieces e ≡ p) ⊎ (e ≡ unexpected_frame) → IsLeft old new p (no_pieces e)
        by (inl i) = inl i
        by (inr i) = inr (inl (ap no_pieces i))

-- a failed call doesn't lower the count of failures
fails-rise : (old new : Reading) (e : Refusal) → Fails old new e → NoFewer old new
fails-rise old new e (inl r) = let f = r.failures in omega (arith, f)
fails-rise old new e (inr (inr b)) = let f = b.failures in omega (arith, f)
fails-rise old new e (inr (inl f)) = by e f.fault
  where
    by : (e : Refusal) → IsFault old new e → NoFewer old new
    by (io kind) h = let f = h.2 in omega (arith, f)
    by memory h = omega (arith, h)
    by interrupted h = let f = h.1 in omega (arith, f)
    by (decode x) h = absurd h
    by (server m) h = absurd h
    by unexpected_frame h = absurd h
    by not_utf8 h = absurd h
    by (bad_band b) h = absurd h

-- the packet that was begun is taken
pub leave-takes : (place : Option ℕ) (r new : Reading) → is_held place r ≡ true → (is_begun place ≡ true → TakesLine r new)
    → (is_begun place ≡ false → new ≡ r) → NoFewer r new × IfSome r.to_come (TakesTexts 0 r new)
leave-takes place r new h t f = by (is_begun place) refl
  where
    held : (place : Option ℕ) → is_held place r ≡ true → is_begun place ≡ true → (band_of r.line ≡ Content) × (r.peeked ≡ true)
    held None h b = absurd (let x = b in cc)
    held (Some n) h b = let l = holds_line n r h in (l.content, l.peeked)

    by : (b : Bool) → is_begun place ≡ b → NoFewer r new × IfSome r.to_come (TakesTexts 0 r new)
    by false e = let s = f e in
        subst (λ (x : Reading). NoFewer r x × IfSome r.to_come (TakesTexts 0 r x)) (sym s)
        (omega arith, takes-nothing r r (same r.to_come))
      where
        same : (o : Option Pieces) → IfSome o (λ p. o ≡ Some p)
        same None = tt
        same (Some p) = refl
    by true e =
        let l = held place h e in
        let k = t e in
        let c : band_of new.line ≡ Content = ap band_of (k.again l.1) ∙ l.0 in
        (let x = k.failures in omega (arith, x), takes-line 0 r new k (ap (λ b. one_if (is_text b)) c))

module _ {I : Type 0} (polls : I → Bool → I → Type 0) where
  pub asked-leave : (place : Option ℕ) (r new : Reading) (x : I) → is_held place r ≡ true → (is_begun place ≡ true → TakesLine r new)
      → (is_begun place ≡ false → new ≡ r) → Asked polls false r new x x
  asked-leave place r new x h t f = let k = leave-takes place r new h t f in asked-none polls r new x k.0 k.1

  pub asked-shown : (o now new : Reading) (a b : I) → Asked polls false o now a b → ShowsLine now new → Asked polls false o new a b
  asked-shown o now new a b h s = let f = s.failures in
      asked-joins polls false o now new a b b h (asked-none polls now new b (omega (arith, f)) (takes-shown now new s))

  -- a packet without a message is taken
  pub asked-passed : (o now new : Reading) (a b : I) → Asked polls false o now a b → now.peeked ≡ true
      → is_text (band_of now.line) ≡ false → TakesLine now new → Asked polls false o new a b
  asked-passed o now new a b h p k t =
      let f = t.failures in
      let e : one_if (is_text (band_of new.line)) ≡ 0 = ap (λ l. one_if (is_text (band_of l))) (t.again p) ∙ ap one_if k in
      asked-joins polls false o now new a b b h (asked-none polls now new b (omega (arith, f)) (takes-line 0 now new t e))

  pub asked-empty : (o now mid new : Reading) (a b : I) → Asked polls false o now a b → ShowsLine now mid → band_of mid.line ≡ Empty
      → TakesLine mid new → Asked polls false o new a b
  asked-empty o now mid new a b h s k t =
      asked-passed o mid new a b (asked-shown o now mid a b h s) s.peeked (ap is_text k) t

  pub below-content : (plain : Bool) (o now new : Reading) (a b : I) → AskedBelow polls plain false o now a b
      → band_of now.line ≡ Content → now.peeked ≡ true → TakesLine now new → AskedBelow polls plain false o new a b
  below-content plain o now new a b (inl h) k p t = inl (asked-passed o now new a b h p (ap is_text k) t)
  below-content plain o now new a b (inr h) k p t = absurd (let e = h.1 in cc)

  -- the reader goes on after a stop
  pub asked-reset : (version : Protocol) (r new : Reading) (x : I) → new ≡ reset_to version r → Asked polls false r new x x
  asked-reset version r new x e = subst (λ (n : Reading). Asked polls false r n x x) (sym e)
      (asked-none polls r (reset_to version r) x (omega arith) (takes-nothing r (reset_to version r) (same r.to_come)))
    where
      same : (o : Option Pieces) → IfSome o (λ p. o ≡ Some p)
      same None = tt
      same (Some p) = refl

  pub asked-stop : (o now new : Reading) (a b : I) → Asked polls false o now a b → AtStop now new → Asked polls false o new a b
  asked-stop o now new a b h s =
      asked-joins polls false o now new a b b h (asked-none polls now new b (by s) (takes-stop now new s))
    where
      by : AtStop now new → NoFewer now new
      by (inl s) = let f = s.failures in omega (arith, f)
      by (inr s) = let f = s.1.failures in omega (arith, f)

  asked-fails : (o now new : Reading) (a b : I) (e : Refusal) → Asked polls false o now a b → Fails now new e → Asked polls false o new a b
  asked-fails o now new a b e h f =
      asked-joins polls false o now new a b b h (asked-none polls now new b (fails-rise now new e f) (takes-fails now new e f))

  -- a message is reported, and the interrupt is called
  asked-text : (answer : Bool) (o now mid new : Reading) (a b c : I) (is_error : Bool) → Asked polls false o now a b → ShowsLine now mid
      → band_of mid.line ≡ Text is_error → TakesLine mid new → polls b answer c → Asked polls answer o new a c
  asked-text answer o now mid new a b c is_error h s k t w =
      asked-joins polls answer o mid new a b c (asked-shown o now mid a b h s) (by answer w)
    where
      e : one_if (is_text (band_of new.line)) ≡ 1
      e = ap (λ l. one_if (is_text (band_of l))) (t.again s.peeked) ∙ ap (λ x. one_if (is_text x)) k

      by : (answer : Bool) → polls b answer c → Asked polls answer mid new b c
      by false w = record {
        after = c ∷ [];
        polled = (w, refl);
        failures = let f = t.failures in omega (arith, f);
        each = takes-line 1 mid new t e;
      }
      by true w = record {
        after = [];
        polled = w;
        failures = let f = t.failures in omega (arith, f);
        each = takes-line 1 mid new t e;
      }

  pub asked-more : (o now mid new : Reading) (a b c : I) (is_error : Bool) → Asked polls false o now a b → ShowsLine now mid
      → band_of mid.line ≡ Text is_error → TakesLine mid new → polls b false c → Asked polls false o new a c
  asked-more o now mid new a b c is_error = asked-text false o now mid new a b c is_error

  -- a packet is reported, or its report fails
  pub asked-tell : {P : Type 0} (receives spares : P → Bool → List ℕ → P → Type 0) (X Y : Type 0) (plain : Bool) (m : Message)
      (o now mid new : Reading) (a : I) (b c : Listener P I) (is_error : Bool) (e : Error) → Asked polls false o now a b.interrupt
      → ShowsLine now mid → band_of mid.line ≡ Text is_error → ReportsPacket receives spares polls {X = X} m mid new b c (Err e)
      → AskedBelow polls plain (is_interrupted {X = Y} (Err e)) o new a c.interrupt
  asked-tell receives spares X Y plain m o now mid new a b c is_error Interrupted h s k t =
      inl (asked-text true o now mid new a b.interrupt c.interrupt is_error h s k t.0 t.1.1)
  asked-tell receives spares X Y plain m o now mid new a b c is_error Memory h s k t =
      inl (subst (λ x. Asked polls false o new a x) (sym t.1.1)
      (subst (λ (r : Reading). Asked polls false o r a b.interrupt) (sym t.0) (asked-shown o now mid a b.interrupt h s)))
  asked-tell receives spares X Y plain m o now mid new a b c is_error (Io kind) h s k t = absurd t
  asked-tell receives spares X Y plain m o now mid new a b c is_error (Decode x) h s k t = absurd t
  asked-tell receives spares X Y plain m o now mid new a b c is_error (Server x) h s k t = absurd t
  asked-tell receives spares X Y plain m o now mid new a b c is_error UnexpectedFrame h s k t = absurd t
  asked-tell receives spares X Y plain m o now mid new a b c is_error NotUtf8 h s k t = absurd t
  asked-tell receives spares X Y plain m o now mid new a b c is_error (BadBand x) h s k t = absurd t

  not_plain : (plain : Bool) (new : Reading) → (plain ≡ true → IsPlain new interrupted) → plain ≡ false
  not_plain false new f = refl
  not_plain true new f = absurd (f refl)

  -- the reader below fails
  pub asked-below : (X : Type 0) (plain : Bool) (o now new : Reading) (a b : I) (e : Error) → Asked polls false o now a b
      → Fails now new (refusal_of e) → (plain ≡ true → IsPlain new (refusal_of e))
      → AskedBelow polls plain (is_interrupted {X = X} (Err e)) o new a b
  asked-below X plain o now new a b Interrupted h f p =
      inr (not_plain plain new p, refl, asked-fails o now new a b interrupted h f)
  asked-below X plain o now new a b Memory h f p = inl (asked-fails o now new a b memory h f)
  asked-below X plain o now new a b (Io kind) h f p = inl (asked-fails o now new a b (io kind) h f)
  asked-below X plain o now new a b (Decode x) h f p = inl (asked-fails o now new a b (decode x) h f)
  asked-below X plain o now new a b (Server x) h f p = inl (asked-fails o now new a b (refusal_of (Server x)) h f)
  asked-below X plain o now new a b UnexpectedFrame h f p = inl (asked-fails o now new a b unexpected_frame h f)
  asked-below X plain o now new a b NotUtf8 h f p = inl (asked-fails o now new a b not_utf8 h f)
  asked-below X plain o now new a b (BadBand x) h f p = inl (asked-fails o now new a b (bad_band x) h f)
