-- The messages of bands 2 and 3, call by call of the reader.
use Rattle.std.proofs.Common.{◌≡◌, ℕ, inl, inr, Bool, true, false, List, [], ◌∷◌, ◌++◌, refl, sym, ap, subst, ◌∙◌, Option, Some, None, IfSome, IsSome, Err, append_assoc}
use Rattle.std.specs.declared.io.ErrorKind.{ErrorKind}
use Rattle.std.specs.declared.io.ErrorKind.TheVariants.{UnexpectedEof}
use Rattle.gixp_packetline.specs.declared.protocol.Protocol.{Protocol}
use Rattle.gixp_packetline.specs.declared.protocol.MessageKind.{MessageKind}
use Rattle.gixp_sidebands.specs.declared.sidebands.band.Band.TheVariants.{Empty, Content, Text}
use Rattle.gixp_packetline.specs.declared.read.Error.{Error}
use Rattle.gixp_packetline.specs.declared.read.Error.TheVariants.{Io, Decode, Server, UnexpectedFrame, NotUtf8, BadBand, Interrupted, Memory}
use Rattle.gixp_packetline.specs.Pieces.{Refusal, io, decode, server, unexpected_frame, not_utf8, bad_band, interrupted, memory, Piece, line, mark, Pieces, no_pieces}
use Rattle.gixp_packetline.specs.Items.{is_stop}
use Rattle.gixp_packetline.specs.Lines.{gives, stops, refuses, next_from, next_of}
use Rattle.gixp_packetline.specs.Reading.{Reading, TakesLine, ShowsLine, AtStop, Refuses, Fails, Stays, IsPlain, Rose, refusal_of, is_end}
use Rattle.gixp_sidebands.specs.Bands.{band_of, Message, message_in, messages_line, messages_from, messages_of, messages_left, is_held, is_begun}
use Rattle.gixp_sidebands.specs.Reporting.{Listener, SparesThen, ReportsThen, Reports, ReportedTo, ReportedUnless, ReportedBy, Reported, ReportsPacket}
use Rattle.gixp_sidebands.proofs.PieceLemmas.{mark_not_gives}
use Rattle.gixp_sidebands.proofs.ContentLemmas.{holds_line, content_gives}

-- the messages, by the next line
messages_gives : (v : Protocol) (list : List Piece) (end : Refusal) (text : List ℕ) (q : Pieces) → next_from v list end ≡ gives text q
    → messages_from list ≡ messages_line (band_of text) text (messages_of q)
messages_gives v [] end text q h = cc
messages_gives v (line t ∷ ps) end text q h =
    let p : Pieces = record { list = ps; end = end } in
    let e1 : t ≡ text = cc in
    let e2 : p ≡ q = cc in
    rw (← e1, ← e2) refl
messages_gives v (mark kind ∷ ps) end text q h =
    absurd (mark_not_gives (is_stop v kind) kind (record { list = ps; end = end }) q unexpected_frame text h)

messages_stops : (v : Protocol) (list : List Piece) (end : Refusal) (kind : MessageKind) (q : Pieces)
    → next_from v list end ≡ stops kind q → messages_from list ≡ []
messages_stops v [] end kind q h = refl
messages_stops v (line t ∷ ps) end kind q h = cc
messages_stops v (mark k ∷ ps) end kind q h = refl

messages_refuses : (v : Protocol) (list : List Piece) (end : Refusal) (e : Refusal) → next_from v list end ≡ refuses e
    → messages_from list ≡ []
messages_refuses v [] end e h = refl
messages_refuses v (line t ∷ ps) end e h = cc
messages_refuses v (mark k ∷ ps) end e h = refl

at_none : (s : Option MessageKind) (p : Pieces) → s ≡ None → messages_left s p ≡ messages_of p
at_none s p e = ap (λ x. messages_left x p) e

at_some : (s : Option MessageKind) (kind : MessageKind) (p : Pieces) → s ≡ Some kind → messages_left s p ≡ []
at_some s kind p e = ap (λ x. messages_left x p) e

at_stop : (s : Option MessageKind) (p : Pieces) → IsSome s → messages_left s p ≡ []
at_stop None p h = absurd (let x = h in cc)
at_stop (Some kind) p h = refl

-- a property of a known value
known_at : (o : Option Pieces) (q : Pieces) (P : Pieces → Type 0) → o ≡ Some q → IfSome o P → P q
known_at None q P e h = absurd (let x = e in cc)
known_at (Some p) q P e h = let same : p ≡ q = cc in subst P same h

module _ {P I : Type 0} (receives spares : P → Bool → List ℕ → P → Type 0) (polls : I → Bool → I → Type 0) where
  reports-more : (ms : List Message) (m : Message) (a b c : Listener P I) → Reports receives spares polls ms a b
      → ReportsThen receives spares polls m false b c → Reports receives spares polls (ms ++ m ∷ []) a c
  reports-more [] m a b c h t = (c, subst (λ (x : Listener P I). ReportsThen receives spares polls m false x c) h t, refl)
  reports-more (n ∷ ms) m a b c h t = (h.0, h.1, reports-more ms m h.0 b c h.2 t)

  -- the messages reported so far and those to come, one step later
  step : (o now new : Reading) (a b c : Listener P I) → Reported receives spares polls true None o now a b
      → ((p q : Pieces) → ReportedTo receives spares polls o now a b p q → (r : Pieces) × ReportedTo receives spares polls o new a c p r)
      → Reported receives spares polls true None o new a c
  step o now new a b c h f = at o.to_come h
    where
      at : (x : Option Pieces) → IfSome x (ReportedBy receives spares polls true None o now a b)
          → IfSome x (ReportedBy receives spares polls true None o new a c)
      at None k = tt
      at (Some p) k = f p k.0 k.1

  pub reported-start : (r : Reading) (a : Listener P I) → Reported receives spares polls true None r r a a
  reported-start r a = at r.to_come refl
    where
      at : (x : Option Pieces) → r.to_come ≡ x → IfSome x (ReportedBy receives spares polls true None r r a a)
      at None e = tt
      at (Some p) e = (p, record { to_come = e; reported = []; messages = refl; reports = refl })

  pub reported-content : (o now new : Reading) (a b : Listener P I) → Reported receives spares polls true None o now a b
      → band_of now.line ≡ Content → now.peeked ≡ true → TakesLine now new
      → Reported receives spares polls true None o new a b
  reported-content o now new a b h k p t = step o now new a b b h (λ x q v.
      let n = known_at now.to_come q (λ y. (r : Pieces) × (new.to_come ≡ Some r)
      × (next_of now.version y ≡ gives new.line r)) v.to_come t.next in
      let c = content_gives now.version q.list q.end new.line n.0 n.2 (ap band_of (t.again p) ∙ k) in (
        n.0,
        record {
          to_come = n.1;
          reported = v.reported;
          messages = v.messages ∙ ap (λ x. v.reported ++ x) (at_none now.stopped q t.running ∙ c.1 ∙ sym (at_none new.stopped n.0 t.stopped));
          reports = v.reports;
        },
      ))

  pub reported-init : (place : Option ℕ) (r new : Reading) (a b : Listener P I) → b ≡ a → is_held place r ≡ true
      → (is_begun place ≡ true → TakesLine r new) → (is_begun place ≡ false → new ≡ r)
      → Reported receives spares polls true None r new a b
  reported-init place r new a b same held begun fresh = subst (λ (x : Listener P I). Reported receives spares polls true None r new a x) (sym same)
      (at place held begun fresh)
    where
      stays : new ≡ r → Reported receives spares polls true None r new a a
      stays e = subst (λ (x : Reading). Reported receives spares polls true None r x a a) (sym e) (reported-start r a)

      at : (place : Option ℕ) → is_held place r ≡ true → (is_begun place ≡ true → TakesLine r new) → (is_begun place ≡ false → new ≡ r)
          → Reported receives spares polls true None r new a a
      at None h t f = stays (f refl)
      at (Some n) h t f = by (is_begun (Some n)) refl
        where
          by : (b : Bool) → is_begun (Some n) ≡ b → Reported receives spares polls true None r new a a
          by false e = stays (f e)
          by true e = let l = holds_line n r h in reported-content r r new a a (reported-start r a) l.content l.peeked (t e)

  pub reported-shown : (o now new : Reading) (a b : Listener P I) → Reported receives spares polls true None o now a b → ShowsLine now new
      → Reported receives spares polls true None o new a b
  reported-shown o now new a b h s = step o now new a b b h (λ p q k. (
    q,
    record {
      to_come = (known_at now.to_come q (λ p. (r : Pieces) × (new.to_come ≡ Some p)
          × (next_of now.version p ≡ gives new.line r)) k.to_come s.next).1;
      reported = k.reported;
      messages = k.messages ∙ ap (λ x. k.reported ++ messages_left x q) (s.running ∙ sym s.stopped);
      reports = k.reports;
    },
  ))

  reported-taken : (o now mid new : Reading) (p q : Pieces) → now.to_come ≡ Some q → ShowsLine now mid → TakesLine mid new
      → (r : Pieces) × (new.to_come ≡ Some r) × (messages_left now.stopped q ≡ messages_line (band_of mid.line) mid.line
      (messages_left new.stopped r))
  reported-taken o now mid new p q e s t =
      let m = known_at now.to_come q (λ p. (r : Pieces) × (mid.to_come ≡ Some p) × (next_of now.version p ≡ gives mid.line r)) e s.next in
      let n = known_at mid.to_come q (λ p. (r : Pieces) × (new.to_come ≡ Some r) × (next_of mid.version p ≡ gives new.line r)) m.1 t.next in
      let same : new.line ≡ mid.line = t.again s.peeked in (
        n.0,
        n.1,
        at_none now.stopped q s.running ∙ messages_gives mid.version q.list q.end new.line n.0 n.2
            ∙ ap (λ l. messages_line (band_of l) l (messages_of n.0)) same
            ∙ ap (messages_line (band_of mid.line) mid.line) (sym (at_none new.stopped n.0 t.stopped)),
      )

  -- a line without a message is taken
  pub reported-empty : (o now mid new : Reading) (a b : Listener P I) → Reported receives spares polls true None o now a b → ShowsLine now mid
      → band_of mid.line ≡ Empty → TakesLine mid new
      → Reported receives spares polls true None o new a b
  reported-empty o now mid new a b h s k t = step o now new a b b h (λ p q w.
      let n = reported-taken o now mid new p q w.to_come s t in (
        n.0,
        record {
          to_come = n.1;
          reported = w.reported;
          messages = w.messages
              ∙ ap (λ x. w.reported ++ x) (n.2 ∙ ap (λ k. messages_line k mid.line (messages_left new.stopped n.0)) k);
          reports = w.reports;
        },
      ))

  -- a message is reported and its packet taken
  pub reported-text : (o now mid new : Reading) (a b c : Listener P I) (is_error : Bool) → Reported receives spares polls true None o now a b
      → ShowsLine now mid → band_of mid.line ≡ Text is_error → TakesLine mid new
      → ReportsThen receives spares polls (message_in is_error mid.line) false b c → Reported receives spares polls true None o new a c
  reported-text o now mid new a b c is_error h s k t w = step o now new a b c h (λ p q v.
      let n = reported-taken o now mid new p q v.to_come s t in
      let m = message_in is_error mid.line in
      let rest = messages_left new.stopped n.0 in (
        n.0,
        record {
          to_come = n.1;
          reported = v.reported ++ m ∷ [];
          messages = v.messages ∙ ap (λ x. v.reported ++ x) (n.2 ∙ ap (λ k. messages_line k mid.line rest) k)
              ∙ sym (append_assoc v.reported (m ∷ []) rest);
          reports = reports-more v.reported m a b c v.reports w;
        },
      ))

  -- a message is reported, its packet taken, and the interrupt returns true
  reported-until : (plain : Bool) (o now mid new : Reading) (a b c : Listener P I) (is_error : Bool)
      → Reported receives spares polls true None o now a b → ShowsLine now mid → band_of mid.line ≡ Text is_error → TakesLine mid new
      → ReportsThen receives spares polls (message_in is_error mid.line) true b c → Reported receives spares polls plain (Some interrupted) o new a c
  reported-until plain o now mid new a b c is_error h s k t w = at o.to_come h
    where
      at : (x : Option Pieces) → IfSome x (ReportedBy receives spares polls true None o now a b)
          → IfSome x (ReportedBy receives spares polls plain (Some interrupted) o new a c)
      at None h = tt
      at (Some p) h =
          let v = h.1 in
          let n = reported-taken o now mid new p h.0 v.to_come s t in
          let rest = messages_left new.stopped n.0 in (
            n.0,
            inl (record {
              to_come = n.1;
              reported = v.reported;
              last = message_in is_error mid.line;
              messages = v.messages ∙ ap (λ x. v.reported ++ x) (n.2 ∙ ap (λ k. messages_line k mid.line rest) k);
              before = b;
              reports = v.reports;
              stops = w;
            }),
          )

  -- an allocation failed for a text
  reported-but : (plain : Bool) (o now mid : Reading) (a b c : Listener P I) (is_error : Bool) → Reported receives spares polls true None o now a b
      → ShowsLine now mid → band_of mid.line ≡ Text is_error
      → SparesThen receives spares polls (message_in is_error mid.line) b c → Reported receives spares polls plain (Some memory) o mid a c
  reported-but plain o now mid a b c is_error h s k w = at o.to_come h
    where
      at : (x : Option Pieces) → IfSome x (ReportedBy receives spares polls true None o now a b)
          → IfSome x (ReportedBy receives spares polls plain (Some memory) o mid a c)
      at None h = tt
      at (Some p) h =
          let q = h.0 in
          let v = h.1 in
          let n = known_at now.to_come q (λ p. (r : Pieces) × (mid.to_come ≡ Some p)
          × (next_of now.version p ≡ gives mid.line r)) v.to_come s.next in
          let m = message_in is_error mid.line in
          let next = at_none mid.stopped q s.stopped ∙ messages_gives now.version q.list q.end mid.line n.0 n.2
          ∙ ap (λ k. messages_line k mid.line (messages_of n.0)) k in (
            q,
            record {
              before = b;
              reported = record {
                to_come = n.1;
                reported = v.reported;
                messages = v.messages
                    ∙ ap (λ x. v.reported ++ messages_left x q) (s.running ∙ sym s.stopped);
                reports = v.reports;
              };
              spared = inr (m, messages_of n.0, next, w);
            },
          )

  -- a packet is reported, or its report fails
  pub reported-tell : (X : Type 0) (plain : Bool) (o now mid new : Reading) (a b c : Listener P I) (is_error : Bool) (e : Error)
      → Reported receives spares polls true None o now a b → ShowsLine now mid → band_of mid.line ≡ Text is_error
      → ReportsPacket receives spares polls {X = X} (message_in is_error mid.line) mid new b c (Err e)
      → Reported receives spares polls plain (Some (refusal_of e)) o new a c
  reported-tell X plain o now mid new a b c is_error Interrupted h s k t = reported-until plain o now mid new a b c is_error h s k t.0 t.1
  reported-tell X plain o now mid new a b c is_error Memory h s k t =
      subst (λ (r : Reading). Reported receives spares polls plain (Some memory) o r a c) (sym t.0)
      (reported-but plain o now mid a b c is_error h s k t.1)
  reported-tell X plain o now mid new a b c is_error (Io kind) h s k t = absurd t
  reported-tell X plain o now mid new a b c is_error (Decode x) h s k t = absurd t
  reported-tell X plain o now mid new a b c is_error (Server x) h s k t = absurd t
  reported-tell X plain o now mid new a b c is_error UnexpectedFrame h s k t = absurd t
  reported-tell X plain o now mid new a b c is_error NotUtf8 h s k t = absurd t
  reported-tell X plain o now mid new a b c is_error (BadBand x) h s k t = absurd t

  reported-stays : (o now new : Reading) (a b : Listener P I) → Reported receives spares polls true None o now a b → Stays now new
      → Reported receives spares polls true None o new a b
  reported-stays o now new a b h s = step o now new a b b h (λ p q k. (
    q,
    record {
      to_come = known_at now.to_come q (λ p. new.to_come ≡ Some p) k.to_come s.to_come;
      reported = k.reported;
      messages = k.messages ∙ ap (λ x. k.reported ++ messages_left x q) (sym s.stopped);
      reports = k.reports;
    },
  ))

  pub reported-stop : (o now new : Reading) (a b : Listener P I) → Reported receives spares polls true None o now a b → AtStop now new
      → Reported receives spares polls true None o new a b
  reported-stop o now new a b h (inl s) = reported-stays o now new a b h s.stays
  reported-stop o now new a b h (inr s) = step o now new a b b h (λ p q k.
      let t = s.1 in
      let n = known_at now.to_come q (λ p. (r : Pieces) × (new.to_come ≡ Some r)
      × (next_of now.version p ≡ stops s.0 r)) k.to_come t.next in (
        n.0,
        record {
          to_come = n.1;
          reported = k.reported;
          messages = k.messages ∙ ap (λ x. k.reported ++ x) (at_none now.stopped q t.running
              ∙ messages_stops now.version q.list q.end s.0 n.0 n.2 ∙ sym (at_some new.stopped s.0 n.0 t.stopped));
          reports = k.reports;
        },
      ))

  reported-refuses : (o now new : Reading) (a b : Listener P I) (e : Refusal) → Reported receives spares polls true None o now a b
      → Refuses now new e → Reported receives spares polls true None o new a b
  reported-refuses o now new a b e h r = step o now new a b b h (λ p q k.
      let n = known_at now.to_come q (λ p. (new.to_come ≡ Some (no_pieces e)) × (next_of now.version p ≡ refuses e)) k.to_come r.next in (
        no_pieces e,
        record {
          to_come = n.0;
          reported = k.reported;
          messages = k.messages ∙ ap (λ x. k.reported ++ x) (at_none now.stopped q r.running
              ∙ messages_refuses now.version q.list q.end e n.1 ∙ sym (at_none new.stopped (no_pieces e) r.stopped));
          reports = k.reports;
        },
      ))

  -- an error that leaves the packet lines to come
  pub reported-kept : (plain : Bool) (e : Refusal) (o new : Reading) (a b : Listener P I) → (e ≡ interrupted → plain ≡ false)
      → Reported receives spares polls true None o new a b → Reported receives spares polls plain (Some e) o new a b
  reported-kept plain e o new a b f h = at o.to_come h
    where
      unless : (c : Bool) (p : Pieces) → (q : Pieces) × ReportedTo receives spares polls o new a b p q → ReportedUnless receives spares polls c o new a b p
      unless false p k = k
      unless true p k = inl k

      by : (e : Refusal) → (e ≡ interrupted → plain ≡ false) → (p : Pieces) → (q : Pieces) × ReportedTo receives spares polls o new a b p q
          → ReportedBy receives spares polls plain (Some e) o new a b p
      by (io kind) f p k = unless (is_end kind) p k
      by interrupted f p k = (k.0, inr (f refl, k.1))
      by memory f p k = (k.0, record { before = b; reported = k.1; spared = inl refl })
      by (decode x) f p k = k
      by (server m) f p k = k
      by unexpected_frame f p k = k
      by not_utf8 f p k = k
      by (bad_band x) f p k = k

      at : (x : Option Pieces) → IfSome x (ReportedBy receives spares polls true None o new a b)
          → IfSome x (ReportedBy receives spares polls plain (Some e) o new a b)
      at None h = tt
      at (Some p) h = by e f p h

  -- a read failed with `UnexpectedEof`
  broken : (plain : Bool) (kind : ErrorKind) (o now new : Reading) (a b : Listener P I) → is_end kind ≡ true
      → Rose o.failures new.failures → Reported receives spares polls true None o now a b
      → Reported receives spares polls plain (Some (io kind)) o new a b
  broken plain kind o now new a b e f h = at o.to_come h
    where
      at : (x : Option Pieces) → IfSome x (ReportedBy receives spares polls true None o now a b)
          → IfSome x (ReportedBy receives spares polls plain (Some (io kind)) o new a b)
      at None h = tt
      at (Some p) h =
          rw e (inr (record { reported = h.1.reported; rest = messages_left now.stopped h.0; messages = h.1.messages; reports = h.1.reports }, f))

  not_plain : (plain : Bool) (new : Reading) (e : Refusal) → (plain ≡ true → IsPlain new e) → e ≡ interrupted → plain ≡ false
  not_plain false new e f i = refl
  not_plain true new e f i = absurd (subst (IsPlain new) i (f refl))

  -- the reader below fails
  pub reported-fails : (plain : Bool) (e : Refusal) (o now new : Reading) (a b : Listener P I) → now.failures ≡ o.failures
      → Reported receives spares polls true None o now a b → Fails now new e → (plain ≡ true → IsPlain new e)
      → Reported receives spares polls plain (Some e) o new a b
  reported-fails plain e o now new a b s h (inl r) f = reported-kept plain e o new a b (not_plain plain new e f) (reported-refuses o now new a b e h r)
  reported-fails plain e o now new a b s h (inr (inl r)) f =
      reported-kept plain e o new a b (not_plain plain new e f) (reported-stays o now new a b h r.stays)
  reported-fails plain e o now new a b s h (inr (inr r)) f = at e r.refusal
    where
      at : (e : Refusal) → e ≡ io UnexpectedEof → Reported receives spares polls plain (Some e) o new a b
      at (io kind) i = broken plain kind o now new a b (let k : kind ≡ UnexpectedEof = cc in ap is_end k)
          (subst (λ n. Rose n new.failures) s r.failures) h
      at (decode x) i = absurd (let j = i in cc)
      at (server x) i = absurd (let j = i in cc)
      at unexpected_frame i = absurd (let j = i in cc)
      at not_utf8 i = absurd (let j = i in cc)
      at (bad_band x) i = absurd (let j = i in cc)
      at interrupted i = absurd (let j = i in cc)
      at memory i = absurd (let j = i in cc)

  -- a line without a band
  pub reported-band : (plain : Bool) (band : ℕ) (o now new : Reading) (a b : Listener P I) → Reported receives spares polls true None o now a b
      → ShowsLine now new → Reported receives spares polls plain (Some (bad_band band)) o new a b
  reported-band plain band o now new a b h s =
      reported-kept plain (bad_band band) o new a b (λ e. absurd (let i = e in cc)) (reported-shown o now new a b h s)

  -- the packet lines to come are known if they were known before
  pub reported-known : (o now : Reading) (a b : Listener P I) → Reported receives spares polls true None o now a b
      → IfSome o.to_come (λ p. (q : Pieces) × (now.to_come ≡ Some q))
  reported-known o now a b h = at o.to_come h
    where
      at : (x : Option Pieces) → IfSome x (ReportedBy receives spares polls true None o now a b)
          → IfSome x (λ p. (q : Pieces) × (now.to_come ≡ Some q))
      at None h = tt
      at (Some p) h = (h.0, h.1.to_come)
