-- What the packet line at the front means for the packet lines to come.
use Rattle.std.proofs.Common.{◌≡◌, ℕ, ◌≤◌, ◌⊎◌, inl, inr, Bool, true, false, cond, List, [], ◌∷◌, ◌++◌, length, take, drop, refl, sym, ap, subst, ◌∙◌, arith, Option, Some, None, IfSome, is_some, append-nil, length-drop}
use Rattle.std.specs.Option.{option_map}
use Rattle.std.specs.Prelude.{slice_range}
use Rattle.gixp_packetline.proofs.WindowLemmas.{drop-take_sub}
use Rattle.std.specs.Io.KnownBytes.{Keeps, prepend_known}
use Rattle.std.specs.declared.io.ErrorKind.TheVariants.{UnexpectedEof}
use Rattle.std.proofs.lemmas.List.{take-append-le, drop-append-le, length-take-le}
use Rattle.gixp_packetline.specs.declared.packet.PacketError.{PacketError}
use Rattle.gixp_packetline.specs.declared.protocol.Protocol.{Protocol}
use Rattle.gixp_packetline.specs.declared.protocol.MessageKind.{MessageKind}
use Rattle.gixp_packetline.specs.declared.packet.Head.{Head}
use Rattle.gixp_packetline.specs.declared.packet.Head.TheVariants.{Partial, Bad, Special, Data}
use Rattle.gixp_packetline.specs.declared.packets.Packets.{Packets}
use Rattle.gixp_packetline.specs.declared.packets.Place.TheVariants.{Open, Peeked, Refused}
use Rattle.gixp_packetline.specs.declared.read.Error.{Error}
use Rattle.gixp_packetline.specs.declared.read.Error.TheVariants.{Io, Decode, Server, UnexpectedFrame, NotUtf8, BadBand, Interrupted, Memory}
use Rattle.gixp_packetline.specs.Frames.{head_of, FitsFront}
use Rattle.gixp_packetline.specs.Pieces.{Refusal, io, decode, server, unexpected_frame, memory, Piece, line, mark, Pieces, no_pieces, with_piece, stream_pieces, pieces_by, is_error, error_message}
use Rattle.gixp_packetline.specs.Lines.{Next, gives, stops, refuses, next_of, next_from}
use Rattle.gixp_packetline.specs.Items.{is_stop}
use Rattle.gixp_packetline.specs.Reading.{Reading, refusal_of, TakesLine, ShowsLine, TakesStop, Refuses, Faults, BreaksOff, IsPlain, Fails, Stays, IsFault, IsLasting, Rose}
use Rattle.gixp_packetline.specs.Packets.{known, stand, took, stopped_by, peeked_at, is_peeked, place_stop, bytes_left, lines_left, packets_reading, Kept, Settled, SettledEnd, SettledFault, SettledBreak, IsIo}
use Rattle.gixp_packetline.proofs.RunLemmas.{mark_not_gives}
use Rattle.gixp_packetline.proofs.FrameLemmas.{head_fits, head_more, stream_pieces-step}

pub none_of : (o : Option MessageKind) → false ≡ is_some o → o ≡ None
none_of None h = refl
none_of (Some x) h = cc

-- the payload of a packet line, as the code slices it
pub payload_is : (bytes shown : List ℕ) (size : ℕ) → 4 ≤ size → shown ≡ bytes → slice_range shown 4 size ≡ drop 4 (take size bytes)
payload_is bytes shown size le e = rw e (sym (drop-take_sub 4 size bytes le))

-- the bytes to come: the pending ones, and then the rest of the reader
abbrev pub bytes_known : Bool → List ℕ → Option (List ℕ) → Option (List ℕ)
bytes_known ended bytes rest = cond ended (Some bytes) (prepend_known bytes rest)

-- the packet lines to come, by the head of the first one
pub pieces_front : (bytes more : List ℕ) (h : Head) → head_of bytes ≡ h → (h ≡ Partial → ⊥)
    → stream_pieces (bytes ++ more) ≡ pieces_by h (bytes ++ more)
pieces_front bytes more h e whole =
    let same : head_of (bytes ++ more) ≡ h = head_more bytes more (λ p. whole (sym e ∙ p)) ∙ e in
    stream_pieces-step (bytes ++ more) ∙ ap (λ k. pieces_by k (bytes ++ more)) same

pub front_fits : (bytes : List ℕ) (h : Head) → head_of bytes ≡ h → FitsFront (length bytes) h
front_fits bytes h e = subst (FitsFront (length bytes)) e (head_fits bytes)

line_front : (v : Protocol) (bytes more : List ℕ) (size : ℕ) → head_of bytes ≡ Data size → is_error (drop 4 (take size bytes)) ≡ false
    → next_of v (stream_pieces (bytes ++ more)) ≡ gives (drop 4 (take size bytes)) (stream_pieces (drop size bytes ++ more))
line_front v bytes more size e plain =
    let fits = front_fits bytes (Data size) e in
    let le : size ≤ length bytes = fits.1 in
    let step = pieces_front bytes more (Data size) e (λ p. cc) in
    let t = take-append-le size bytes more le in
    let d = drop-append-le size bytes more le in
    let whole : stream_pieces (bytes ++ more) ≡ with_piece (line (drop 4 (take size bytes))) (stream_pieces (drop size bytes ++ more)) =
    step ∙ (rw (t, d, plain) refl) in
    ap (next_of v) whole

mark_front : (bytes more : List ℕ) (kind : MessageKind) → head_of bytes ≡ Special kind
    → stream_pieces (bytes ++ more) ≡ with_piece (mark kind) (stream_pieces (drop 4 bytes ++ more))
mark_front bytes more kind e =
    let le : 4 ≤ length bytes = front_fits bytes (Special kind) e in
    pieces_front bytes more (Special kind) e (λ p. cc) ∙ (rw (drop-append-le 4 bytes more le) refl)

-- an `ERR ` line at the front
error_front : (bytes more : List ℕ) (size : ℕ) → head_of bytes ≡ Data size → is_error (drop 4 (take size bytes)) ≡ true
    → stream_pieces (bytes ++ more) ≡ no_pieces (server (error_message (drop 4 (take size bytes))))
error_front bytes more size e bad =
    let fits = front_fits bytes (Data size) e in
    let t = take-append-le size bytes more fits.1 in
    pieces_front bytes more (Data size) e (λ p. cc) ∙ (rw (t, bad) refl)

bad_front : (bytes more : List ℕ) (x : PacketError) → head_of bytes ≡ Bad x → stream_pieces (bytes ++ more) ≡ no_pieces (decode x)
bad_front bytes more x e = pieces_front bytes more (Bad x) e (λ p. cc)

-- the bytes to come lose their first n bytes when the pending bytes do
known_lose : (ended : Bool) (bytes : List ℕ) (rest : Option (List ℕ))
    → IfSome (bytes_known ended bytes rest) (λ xs. (more : List ℕ) × (xs ≡ bytes ++ more)
    × ((after : List ℕ) → bytes_known ended after rest ≡ Some (after ++ more)))
known_lose true bytes rest = ([], sym (append-nil bytes), λ after. ap Some (sym (append-nil after)))
known_lose false bytes None = tt
known_lose false bytes (Some ys) = (ys, refl, λ after. refl)

-- bytes that were kept have the same next line, stop or error
next_kept : (a b : Option (List ℕ)) (c : Option Pieces) (v w : Protocol) (N : Pieces → Next) → w ≡ v → Keeps a b
    → IfSome b (λ xs. (q : Pieces) × (c ≡ Some q) × (next_of w (stream_pieces xs) ≡ N q))
    → IfSome (option_map stream_pieces a) (λ p. (q : Pieces) × (c ≡ Some q) × (next_of v p ≡ N q))
next_kept None b c v w N e h k = tt
next_kept (Some xs) None c v w N e h k = absurd h
next_kept (Some xs) (Some ys) c v w N e h k = (k.0, k.1, rw (h, e) at k.2)

refuses_kept : (a b : Option (List ℕ)) (c : Option Pieces) (v : Protocol) (x : Refusal) → Keeps a b
    → IfSome b (λ xs. (c ≡ Some (no_pieces x)) × (next_of v (stream_pieces xs) ≡ refuses x))
    → IfSome (option_map stream_pieces a) (λ p. (c ≡ Some (no_pieces x)) × (next_of v p ≡ refuses x))
refuses_kept None b c v x h k = tt
refuses_kept (Some xs) None c v x h k = absurd h
refuses_kept (Some xs) (Some ys) c v x h k = (k.0, rw h at k.1)

stays_kept : (a b : Option (List ℕ)) → Keeps a b → IfSome (option_map stream_pieces a) (λ p. option_map stream_pieces b ≡ Some p)
stays_kept None b h = tt
stays_kept (Some xs) None h = absurd h
stays_kept (Some xs) (Some ys) h = rw h refl

line_known : (ended : Bool) (bytes : List ℕ) (rest : Option (List ℕ)) (v : Protocol) (size : ℕ) → head_of bytes ≡ Data size
    → is_error (drop 4 (take size bytes)) ≡ false
    → IfSome (bytes_known ended bytes rest) (λ xs. (q : Pieces)
    × (option_map stream_pieces (bytes_known ended (drop size bytes) rest) ≡ Some q)
    × (next_of v (stream_pieces xs) ≡ gives (drop 4 (take size bytes)) q))
line_known ended bytes rest v size e plain = at (bytes_known ended bytes rest) (known_lose ended bytes rest)
  where
    at : (o : Option (List ℕ)) → IfSome o (λ xs. (more : List ℕ) × (xs ≡ bytes ++ more)
        × ((after : List ℕ) → bytes_known ended after rest ≡ Some (after ++ more)))
        → IfSome o (λ xs. (q : Pieces) × (option_map stream_pieces (bytes_known ended (drop size bytes) rest) ≡ Some q)
        × (next_of v (stream_pieces xs) ≡ gives (drop 4 (take size bytes)) q))
    at None h = tt
    at (Some xs) h = (
      stream_pieces (drop size bytes ++ h.0),
      ap (option_map stream_pieces) (h.2 (drop size bytes)),
      rw h.1 (line_front v bytes h.0 size e plain),
    )

stop_known : (ended : Bool) (bytes : List ℕ) (rest : Option (List ℕ)) (v : Protocol) (kind : MessageKind) → head_of bytes ≡ Special kind
    → is_stop v kind ≡ true
    → IfSome (bytes_known ended bytes rest) (λ xs. (q : Pieces)
    × (option_map stream_pieces (bytes_known ended (drop 4 bytes) rest) ≡ Some q)
    × (next_of v (stream_pieces xs) ≡ stops kind q))
stop_known ended bytes rest v kind e stopping = at (bytes_known ended bytes rest) (known_lose ended bytes rest)
  where
    at : (o : Option (List ℕ)) → IfSome o (λ xs. (more : List ℕ) × (xs ≡ bytes ++ more)
        × ((after : List ℕ) → bytes_known ended after rest ≡ Some (after ++ more)))
        → IfSome o (λ xs. (q : Pieces) × (option_map stream_pieces (bytes_known ended (drop 4 bytes) rest) ≡ Some q)
        × (next_of v (stream_pieces xs) ≡ stops kind q))
    at None h = tt
    at (Some xs) h = (
      stream_pieces (drop 4 bytes ++ h.0),
      ap (option_map stream_pieces) (h.2 (drop 4 bytes)),
      rw (h.1, mark_front bytes h.0 kind e, stopping) refl,
    )

-- an error at the front, whatever follows it
refusal_known : (ended : Bool) (bytes : List ℕ) (rest : Option (List ℕ)) (v : Protocol) (x : Refusal)
    → ((more : List ℕ) → stream_pieces (bytes ++ more) ≡ no_pieces x)
    → IfSome (bytes_known ended bytes rest) (λ xs. (option_map stream_pieces (bytes_known ended bytes rest) ≡ Some (no_pieces x))
    × (next_of v (stream_pieces xs) ≡ refuses x))
refusal_known ended bytes rest v x f = at (bytes_known ended bytes rest) (known_lose ended bytes rest)
  where
    at : (o : Option (List ℕ)) → IfSome o (λ xs. (more : List ℕ) × (xs ≡ bytes ++ more)
        × ((after : List ℕ) → bytes_known ended after rest ≡ Some (after ++ more)))
        → IfSome o (λ xs. (option_map stream_pieces o ≡ Some (no_pieces x)) × (next_of v (stream_pieces xs) ≡ refuses x))
    at None h = tt
    at (Some xs) h = (rw (h.1, f h.0) refl, rw (h.1, f h.0) refl)

unexpected_known : (ended : Bool) (bytes : List ℕ) (rest : Option (List ℕ)) (v : Protocol) (kind : MessageKind)
    → head_of bytes ≡ Special kind → is_stop v kind ≡ false
    → IfSome (bytes_known ended bytes rest) (λ xs. (Some (no_pieces unexpected_frame) ≡ Some (no_pieces unexpected_frame))
    × (next_of v (stream_pieces xs) ≡ refuses unexpected_frame))
unexpected_known ended bytes rest v kind e going = at (bytes_known ended bytes rest) (known_lose ended bytes rest)
  where
    at : (o : Option (List ℕ)) → IfSome o (λ xs. (more : List ℕ) × (xs ≡ bytes ++ more)
        × ((after : List ℕ) → bytes_known ended after rest ≡ Some (after ++ more)))
        → IfSome o (λ xs. (Some (no_pieces unexpected_frame) ≡ Some (no_pieces unexpected_frame))
        × (next_of v (stream_pieces xs) ≡ refuses unexpected_frame))
    at None h = tt
    at (Some xs) h = (refl, rw (h.1, mark_front bytes h.0 kind e, going) refl)

ended_known : (bytes : List ℕ) (rest : Option (List ℕ)) (v : Protocol) → head_of bytes ≡ Partial
    → IfSome (bytes_known true bytes rest) (λ xs.
    (option_map stream_pieces (bytes_known true bytes rest) ≡ Some (no_pieces (io UnexpectedEof)))
    × (next_of v (stream_pieces xs) ≡ refuses (io UnexpectedEof)))
ended_known bytes rest v e =
    let step : stream_pieces bytes ≡ no_pieces (io UnexpectedEof) = stream_pieces-step bytes ∙ ap (λ h. pieces_by h bytes) e in
    (ap Some step, ap (next_of v) step)

if_same : (o : Option Refusal) → IfSome o (λ y. o ≡ Some y)
if_same None = tt
if_same (Some x) = refl

-- an I/O error is transient
io_fault : (old new : Reading) (e : Error) → IsIo e → old.refused ≡ None → Rose old.failures new.failures → IsFault old new (refusal_of e)
io_fault old new (Io kind) h n r = (h, n, r)
io_fault old new (Decode x) h n r = absurd h
io_fault old new (Server m) h n r = absurd h
io_fault old new UnexpectedFrame h n r = absurd h
io_fault old new NotUtf8 h n r = absurd h
io_fault old new (BadBand b) h n r = absurd h
io_fault old new Interrupted h n r = absurd h
io_fault old new Memory h n r = absurd h

gives_is : (v : Protocol) (list : List Piece) (end : Refusal) (text : List ℕ) (q : Pieces) → next_from v list end ≡ gives text q
    → with_piece (line text) q ≡ record { list = list; end = end }
gives_is v [] end text q h = cc
gives_is v (line t ∷ ps) end text q h =
    let p : Pieces = record { list = ps; end = end } in
    let e1 : t ≡ text = cc in
    let e2 : p ≡ q = cc in
    rw (← e1, ← e2) refl
gives_is v (mark kind ∷ ps) end text q h =
    absurd (mark_not_gives (is_stop v kind) kind (record { list = ps; end = end }) q unexpected_frame text h)

put_back : (a b : Option Pieces) (v : Protocol) (text : List ℕ) → IfSome a (λ p. (q : Pieces) × (b ≡ Some q) × (next_of v p ≡ gives text q))
    → IfSome a (λ p. (q : Pieces) × (option_map (with_piece (line text)) b ≡ Some p) × (next_of v p ≡ gives text q))
put_back None b v text h = tt
put_back (Some p) b v text h = (h.0, rw h.1 (ap Some (gives_is v p.list p.end text h.0 h.2)), h.2)

put_already : (b : Option Pieces) (v : Protocol) (text : List ℕ)
    → IfSome (option_map (with_piece (line text)) b) (λ p. (q : Pieces) × (option_map (with_piece (line text)) b ≡ Some p)
    × (next_of v p ≡ gives text q))
put_already None v text = tt
put_already (Some q) v text = (q, refl, refl)

module _ {R : Type 0} where
  to_come-is : (rem : R → Option (List ℕ)) (p : Packets R) → p.place ≡ Open
      → (packets_reading rem p).to_come ≡ option_map stream_pieces (known rem p)
  to_come-is rem p a = rw a refl

  refused-is : (rem : R → Option (List ℕ)) (p : Packets R) → p.place ≡ Open → (packets_reading rem p).refused ≡ stand p
  refused-is rem p a = rw a refl

  open_stand : (p : Packets R) → head_of p.window.pending ≡ Partial → p.ended ≡ false → stand p ≡ None
  open_stand p h e = rw (h, e) refl

  -- an error that was at the front is still there
  stood : (old new : Packets R) → (new ≡ old) ⊎ ((head_of old.window.pending ≡ Partial) × (old.ended ≡ false)) → (stand old ≡ stand new)
      ⊎ (stand old ≡ None)
  stood old new (inl e) = inl (sym (ap stand e))
  stood old new (inr h) = inr (open_stand old h.0 h.1)

  stood_none : (old new : Packets R) → (stand old ≡ stand new) ⊎ (stand old ≡ None) → stand new ≡ None → stand old ≡ None
  stood_none old new (inl e) n = e ∙ n
  stood_none old new (inr e) n = e

  stood_same : (old new : Packets R) (x : Refusal) → (stand old ≡ stand new) ⊎ (stand old ≡ None) → stand new ≡ Some x
      → IfSome (stand old) (λ y. y ≡ x)
  stood_same old new x (inl e) n = let P : Option Refusal → Type 0 = λ o. IfSome o (λ y. y ≡ x) in subst P (sym (e ∙ n)) refl
  stood_same old new x (inr e) n = let P : Option Refusal → Type 0 = λ o. IfSome o (λ y. y ≡ x) in subst P (sym e) tt

  stood_still : (old new : Packets R) → (stand old ≡ stand new) ⊎ (stand old ≡ None) → IfSome (stand old) (λ y. stand new ≡ Some y)
  stood_still old new (inl e) = let P : Option Refusal → Type 0 = λ o. IfSome o (λ y. stand new ≡ Some y) in
      subst P (sym e) (if_same (stand new))
  stood_still old new (inr e) = let P : Option Refusal → Type 0 = λ o. IfSome o (λ y. stand new ≡ Some y) in subst P (sym e) tt

  data_stand : (p : Packets R) (size : ℕ) → head_of p.window.pending ≡ Data size → is_error (drop 4 (take size p.window.pending))
      ≡ false → stand p ≡ None
  data_stand p size h e = rw (h, e) refl

  special_stand : (p : Packets R) (kind : MessageKind) → head_of p.window.pending ≡ Special kind → stand p ≡ None
  special_stand p kind h = rw h refl

  -- before a packet line no line is peeked at
  open_left : (p : Packets R) → p.place ≡ Open → lines_left p ≡ bytes_left p
  open_left p op = rw op (omega arith)

  pub takes_line : (rem : R → Option (List ℕ)) (old mid : Packets R) (size : ℕ) → Settled rem old mid (Data size) → old.place ≡ Open
      → is_error (drop 4 (take size mid.window.pending)) ≡ false
      → TakesLine (packets_reading rem old) (packets_reading rem (took mid size))
  takes_line rem old mid size h op plain =
      let k = h.kept in
      let front : head_of mid.window.pending ≡ Data size = sym h.front in
      let op2 : mid.place ≡ Open = k.place ∙ op in
      let fits = front_fits mid.window.pending (Data size) front in
      let text = drop 4 (take size mid.window.pending) in
      let new = took mid size in
      let N : Pieces → Next = gives text in
      let step = next_kept (known rem old) (known rem mid)
      (option_map stream_pieces (known rem new)) old.version mid.version N k.version k.bytes
      (line_known mid.ended mid.window.pending (rem mid.reader) mid.version size front plain) in
      let P : Option Pieces → Type 0 =
      λ o. IfSome o (λ p. (q : Pieces) × (option_map stream_pieces (known rem new) ≡ Some q) × (next_of old.version p ≡ N q)) in
      let Q : Option Pieces → Type 0 =
      λ c. IfSome (packets_reading rem old).to_come (λ p. (q : Pieces) × (c ≡ Some q) × (next_of old.version p ≡ N q)) in
      record {
        running = ap place_stop op;
        sound = refused-is rem old op ∙ stood_none old mid (stood old mid h.moved) (data_stand mid size front plain);
        again = λ p. absurd (let e : is_peeked old.place ≡ false = ap is_peeked op in cc);
        next = subst Q (sym (to_come-is rem new op2)) (subst P (sym (to_come-is rem old op)) step);
        stopped = ap place_stop op2;
        version = k.version;
        peeked = ap is_peeked op2;
        failures = h.failures;
        left =
            let a = k.left in
            let b = fits.0 in
            let c = fits.1 in
            omega (
              arith,
              open_left old op,
              open_left new op2,
              length-drop size mid.window.pending,
              length-drop 4 (take size mid.window.pending),
              length-take-le size mid.window.pending fits.1,
            );
        held = refl;
      }

  pub takes_stop : (rem : R → Option (List ℕ)) (old mid : Packets R) (kind : MessageKind) → Settled rem old mid (Special kind)
      → old.place ≡ Open → is_stop mid.version kind ≡ true
      → TakesStop (packets_reading rem old) (packets_reading rem (stopped_by mid kind)) kind
  takes_stop rem old mid kind h op stopping =
      let k = h.kept in
      let front : head_of mid.window.pending ≡ Special kind = sym h.front in
      let fits = front_fits mid.window.pending (Special kind) front in
      let new = stopped_by mid kind in
      let N : Pieces → Next = stops kind in
      let step = next_kept (known rem old) (known rem mid)
      (option_map stream_pieces (known rem new)) old.version mid.version N k.version k.bytes
      (stop_known mid.ended mid.window.pending (rem mid.reader) mid.version kind front stopping) in
      let P : Option Pieces → Type 0 =
      λ o. IfSome o (λ p. (q : Pieces) × (option_map stream_pieces (known rem new) ≡ Some q) × (next_of old.version p ≡ N q)) in
      record {
        running = ap place_stop op;
        sound = refused-is rem old op ∙ stood_none old mid (stood old mid h.moved) (special_stand mid kind front);
        unpeeked = ap is_peeked op;
        is_stop = ap (λ v. is_stop v kind) (sym k.version) ∙ stopping;
        next = subst P (sym (to_come-is rem old op)) step;
        stopped = refl;
        version = k.version;
        peeked = refl;
        failures = h.failures;
        left = let a = k.left in omega (arith, open_left old op, length-drop 4 mid.window.pending);
        held = refl;
      }

  -- an error at the front of the bytes that were kept
  refuses_in : (rem : R → Option (List ℕ)) (old mid : Packets R) (x : Refusal) → Kept rem old mid → mid.failures ≡ old.failures
      → old.place ≡ Open → IsLasting x → stand mid ≡ Some x → (stand old ≡ stand mid) ⊎ (stand old ≡ None)
      → IfSome (known rem mid) (λ xs. (option_map stream_pieces (known rem mid) ≡ Some (no_pieces x))
      × (next_of old.version (stream_pieces xs) ≡ refuses x))
      → Refuses (packets_reading rem old) (packets_reading rem mid) x
  refuses_in rem old mid x k fails op last now was step =
      let op2 : mid.place ≡ Open = k.place ∙ op in
      let kept = refuses_kept (known rem old) (known rem mid) (option_map stream_pieces (known rem mid)) old.version x k.bytes step in
      let P : Option Pieces → Type 0 =
      λ o. IfSome o (λ p. (option_map stream_pieces (known rem mid) ≡ Some (no_pieces x)) × (next_of old.version p ≡ refuses x)) in
      let Q : Option Pieces → Type 0 =
      λ c. IfSome (packets_reading rem old).to_come (λ p. (c ≡ Some (no_pieces x)) × (next_of old.version p ≡ refuses x)) in
      let S : Option Refusal → Type 0 = λ o. IfSome o (λ y. y ≡ x) in
      record {
        running = ap place_stop op;
        lasting = last;
        unpeeked = ap is_peeked op;
        same = subst S (sym (refused-is rem old op)) (stood_same old mid x was now);
        next = subst Q (sym (to_come-is rem mid op2)) (subst P (sym (to_come-is rem old op)) kept);
        refused = refused-is rem mid op2 ∙ now;
        stopped = ap place_stop op2;
        version = k.version;
        peeked = ap is_peeked op2;
        failures = fails;
        left = let a = k.left in omega (arith, open_left old op, open_left mid op2);
        held = refl;
      }

  pub refuses_bad : (rem : R → Option (List ℕ)) (old mid : Packets R) (x : PacketError) → Settled rem old mid (Bad x) → old.place ≡ Open
      → Refuses (packets_reading rem old) (packets_reading rem mid) (decode x)
  refuses_bad rem old mid x h op =
      let front : head_of mid.window.pending ≡ Bad x = sym h.front in
      refuses_in rem old mid (decode x) h.kept h.failures op tt (rw front refl) (stood old mid h.moved)
      (refusal_known mid.ended mid.window.pending (rem mid.reader) old.version (decode x)
      (λ more. bad_front mid.window.pending more x front))

  pub refuses_error : (rem : R → Option (List ℕ)) (old mid : Packets R) (size : ℕ) → Settled rem old mid (Data size) → old.place ≡ Open
      → is_error (drop 4 (take size mid.window.pending)) ≡ true
      → Refuses (packets_reading rem old) (packets_reading rem mid) (server (error_message (drop 4 (take size mid.window.pending))))
  refuses_error rem old mid size h op wrong =
      let front : head_of mid.window.pending ≡ Data size = sym h.front in
      refuses_in rem old mid (server (error_message (drop 4 (take size mid.window.pending)))) h.kept h.failures op tt
      (rw (front, wrong) refl) (stood old mid h.moved)
      (refusal_known mid.ended mid.window.pending (rem mid.reader) old.version _
      (λ more. error_front mid.window.pending more size front wrong))

  stays_in : (rem : R → Option (List ℕ)) (old mid : Packets R) → Kept rem old mid → old.place ≡ Open
      → (stand old ≡ stand mid) ⊎ (stand old ≡ None) → Stays (packets_reading rem old) (packets_reading rem mid)
  stays_in rem old mid k op was =
      let op2 : mid.place ≡ Open = k.place ∙ op in
      let P : Option Pieces → Type 0 = λ o. IfSome o (λ p. option_map stream_pieces (known rem mid) ≡ Some p) in
      let Q : Option Pieces → Type 0 = λ c. IfSome (packets_reading rem old).to_come (λ p. c ≡ Some p) in
      let S : Option Refusal → Type 0 = λ o. IfSome o (λ y. stand mid ≡ Some y) in
      let T : Option Refusal → Type 0 = λ c. IfSome (packets_reading rem old).refused (λ y. c ≡ Some y) in
      record {
        to_come = subst Q (sym (to_come-is rem mid op2))
            (subst P (sym (to_come-is rem old op)) (stays_kept (known rem old) (known rem mid) k.bytes));
        refused = subst T (sym (refused-is rem mid op2)) (subst S (sym (refused-is rem old op)) (stood_still old mid was));
        stopped = ap place_stop k.place;
        version = k.version;
        unpeeked = ap is_peeked op;
        peeked = ap is_peeked op2;
        left = let a = k.left in omega (arith, open_left old op, open_left mid op2);
        held = refl;
      }

  -- an allocation failed for the text of an `ERR ` line
  pub faults_memory : (rem : R → Option (List ℕ)) (old mid : Packets R) (head : Head) → Settled rem old mid head → old.place ≡ Open
      → Faults (packets_reading rem old) (packets_reading rem mid) memory
  faults_memory rem old mid head h op =
      record { running = ap place_stop op; fault = h.failures; stays = stays_in rem old mid h.kept op (stood old mid h.moved) }

  -- a plain reader allocates only for the text of an `ERR ` line
  pub plain_error : (rem : R → Option (List ℕ)) (old mid : Packets R) (size : ℕ) (e : Error) → Settled rem old mid (Data size)
      → old.place ≡ Open
      → is_error (drop 4 (take size mid.window.pending)) ≡ true
      → (refusal_of e ≡ server (error_message (drop 4 (take size mid.window.pending))))
      ⊎ (e ≡ Memory) → IsPlain (packets_reading rem mid) (refusal_of e)
  plain_error rem old mid size e h op wrong (inl s) = subst (IsPlain (packets_reading rem mid)) (sym s) tt
  plain_error rem old mid size e h op wrong (inr m) =
      let front : head_of mid.window.pending ≡ Data size = sym h.front in
      let now : stand mid ≡ Some (server (error_message (drop 4 (take size mid.window.pending)))) = rw (front, wrong) refl in
      subst (IsPlain (packets_reading rem mid)) (sym (ap refusal_of m))
      (error_message (drop 4 (take size mid.window.pending)), refused-is rem mid (h.kept.place ∙ op) ∙ now)

  -- a read failed with `UnexpectedEof`, so the stream ends
  breaks_off : (rem : R → Option (List ℕ)) (old mid : Packets R) (e : Error) → SettledBreak old mid e → old.place ≡ Open
      → BreaksOff (packets_reading rem old) (packets_reading rem mid) (refusal_of e)
  breaks_off rem old mid e h op =
      let b = h.breaks in
      let op2 : mid.place ≡ Open = b.place ∙ op in
      let none : stand old ≡ None = open_stand old h.front b.was_open in
      let error : refusal_of e ≡ io UnexpectedEof = ap refusal_of b.error in
      let bytes : known rem mid ≡ Some mid.window.pending = rw b.ended refl in
      let front : stream_pieces mid.window.pending ≡ no_pieces (io UnexpectedEof) =
      stream_pieces-step mid.window.pending ∙ ap (λ k. pieces_by k mid.window.pending) b.front in
      let now : stand mid ≡ Some (io UnexpectedEof) = rw (b.front, b.ended) refl in
      record {
        running = ap place_stop op;
        sound = refused-is rem old op ∙ none;
        unpeeked = ap is_peeked op;
        refusal = error;
        to_come = to_come-is rem mid op2 ∙ ap (option_map stream_pieces) bytes ∙ ap Some front ∙ ap (λ x. Some (no_pieces x)) (sym error);
        refused = refused-is rem mid op2 ∙ now ∙ ap Some (sym error);
        stopped = ap place_stop op2;
        version = b.version;
        peeked = ap is_peeked op2;
        failures = b.failures;
        left = let a = b.left in omega (arith, open_left old op, open_left mid op2);
        held = refl;
      }

  pub fails_settling : (rem : R → Option (List ℕ)) (old mid : Packets R) (e : Error) → SettledEnd rem old mid e
      ⊎ SettledFault rem old mid e ⊎ SettledBreak old mid e → old.place ≡ Open
      → Fails (packets_reading rem old) (packets_reading rem mid) (refusal_of e)
  fails_settling rem old mid e (inl h) op =
      let d = h.ends in
      let error : io UnexpectedEof ≡ refusal_of e = ap refusal_of (sym d.error) in
      let now : stand mid ≡ Some (io UnexpectedEof) = rw (d.front, d.ended) refl in
      let was : (stand old ≡ stand mid) ⊎ (stand old ≡ None) = ended_stood old.ended refl in
      let step = ended_known mid.window.pending (rem mid.reader) old.version d.front in
      let K : Bool → Type 0 = λ b. IfSome (bytes_known b mid.window.pending (rem mid.reader))
      (λ xs. (option_map stream_pieces (bytes_known b mid.window.pending (rem mid.reader)) ≡ Some (no_pieces (io UnexpectedEof)))
      × (next_of old.version (stream_pieces xs) ≡ refuses (io UnexpectedEof))) in
      inl (subst (Refuses (packets_reading rem old) (packets_reading rem mid)) error
      (refuses_in rem old mid (io UnexpectedEof) d.kept d.failures op refl now was (subst K (sym d.ended) step)))
    where
      ended_stood : (b : Bool) → old.ended ≡ b → (stand old ≡ stand mid) ⊎ (stand old ≡ None)
      ended_stood true q = inl (sym (ap stand (h.same q)))
      ended_stood false q = inr (open_stand old h.front q)
  fails_settling rem old mid e (inr (inl h)) op =
      let b = h.breaks in
      let none : stand old ≡ None = open_stand old h.front b.was_open in
      inr (inl (record {
        running = ap place_stop op;
        fault = io_fault (packets_reading rem old) (packets_reading rem mid) e b.error (refused-is rem old op ∙ none) b.failures;
        stays = stays_in rem old mid b.kept op (inr none);
      }))
  fails_settling rem old mid e (inr (inr h)) op = inr (inr (breaks_off rem old mid e h op))

  -- after an unexpected packet
  abbrev pub refused_frame : Packets R → Packets R
  refused_frame p = record p { place = Refused }

  pub refuses_frame : (rem : R → Option (List ℕ)) (old mid : Packets R) (kind : MessageKind) → Settled rem old mid (Special kind)
      → old.place ≡ Open → is_stop mid.version kind ≡ false
      → Refuses (packets_reading rem old) (packets_reading rem (refused_frame mid)) unexpected_frame
  refuses_frame rem old mid kind h op going =
      let k = h.kept in
      let front : head_of mid.window.pending ≡ Special kind = sym h.front in
      let none = stood_none old mid (stood old mid h.moved) (special_stand mid kind front) in
      let new = refused_frame mid in
      let known_step = unexpected_known mid.ended mid.window.pending (rem mid.reader) old.version kind front
      (ap (λ v. is_stop v kind) (sym k.version) ∙ going) in
      let kept = refuses_kept (known rem old) (known rem mid)
      (Some (no_pieces unexpected_frame)) old.version unexpected_frame k.bytes known_step in
      let P : Option Pieces → Type 0 = λ o. IfSome o (λ p. (Some (no_pieces unexpected_frame) ≡ Some (no_pieces unexpected_frame))
      × (next_of old.version p ≡ refuses unexpected_frame)) in
      let Q : Option Pieces → Type 0 = λ c. IfSome (packets_reading rem old).to_come (λ p. (c ≡ Some (no_pieces unexpected_frame))
      × (next_of old.version p ≡ refuses unexpected_frame)) in
      let is : (packets_reading rem new).to_come ≡ Some (no_pieces unexpected_frame) = refl in
      let S : Option Refusal → Type 0 = λ o. IfSome o (λ y. y ≡ unexpected_frame) in
      record {
        running = ap place_stop op;
        lasting = tt;
        unpeeked = ap is_peeked op;
        same = subst S (sym (refused-is rem old op ∙ none)) tt;
        next = subst Q (sym is) (subst P (sym (to_come-is rem old op)) kept);
        refused = refl;
        stopped = refl;
        version = k.version;
        peeked = refl;
        failures = h.failures;
        left = let a = k.left in omega (arith, open_left old op);
        held = refl;
      }

  -- to peek at a line is to take it and put it back
  pub peeks_line : (rem : R → Option (List ℕ)) (old new : Packets R) → TakesLine (packets_reading rem old) (packets_reading rem new)
      → new.place ≡ Open
      → ShowsLine (packets_reading rem old) (packets_reading rem (peeked_at new))
  peeks_line rem old new h op =
      let ahead : (packets_reading rem new).to_come ≡ option_map stream_pieces (known rem new) = to_come-is rem new op in
      let Q : Option Pieces → Type 0 = λ c. IfSome (packets_reading rem old).to_come
      (λ p. (q : Pieces) × (c ≡ Some q) × (next_of old.version p ≡ gives new.window.lent q)) in
      record {
        running = h.running;
        sound = h.sound;
        again = h.again;
        next = put_back (packets_reading rem old).to_come (option_map stream_pieces (known rem new)) old.version new.window.lent
            (subst Q ahead h.next);
        refused = refl;
        stopped = refl;
        version = h.version;
        peeked = refl;
        failures = h.failures;
        left = let a = h.left in omega (arith, open_left new op);
        room = omega arith;
        held = h.held;
      }

  pub peeks_again : (rem : R → Option (List ℕ)) (p : Packets R) → p.place ≡ Peeked
      → ShowsLine (packets_reading rem p) (packets_reading rem p)
  peeks_again rem p at =
      let P : Option Pieces → Type 0 =
      λ o. IfSome o (λ ps. (q : Pieces) × (o ≡ Some ps) × (next_of p.version ps ≡ gives p.window.lent q)) in
      let is : (packets_reading rem p).to_come ≡ option_map (with_piece (line p.window.lent)) (option_map stream_pieces (known rem p)) =
      rw at refl in
      record {
        running = rw at refl;
        sound = rw at refl;
        again = λ _. refl;
        next = subst P (sym is) (put_already (option_map stream_pieces (known rem p)) p.version p.window.lent);
        refused = rw at refl;
        stopped = rw at refl;
        version = refl;
        peeked = rw at refl;
        failures = refl;
        left = omega arith;
        room = rw at (omega arith);
        held = refl;
      }
