-- The server's advertisement, read step by step.
use Rattle.std.proofs.Common.{◌≡◌, ℕ, ◌≤◌, ◌<◌, ◌⊎◌, inl, inr, Bool, true, false, List, [], ◌∷◌, ◌++◌, take, length, Option, Some, None, IfSome, Result, Ok, Err, refl, sym, ap, subst, ◌∙◌, arith, append_assoc, append-nil}
use Rattle.std.specs.Prelude.{position, ◌==◌}
use Rattle.std.proofs.lemmas.List.{map-append, length-take-le}
use Rattle.std.proofs.lemmas.List.Quantifiers.{position-Some}
use Rattle.std.specs.Option.{option_map}
use Rattle.std.specs.declared.io.ErrorKind.{ErrorKind}
use Rattle.gixp_packetline.specs.declared.protocol.Protocol.{Protocol}
use Rattle.gixp_packetline.specs.declared.protocol.Protocol.TheVariants.{V0, V1, V2}
use Rattle.gixp_packetline.specs.declared.protocol.MessageKind.{MessageKind}
use Rattle.gixp_capabilities.specs.declared.client.Error.{Error}
use Rattle.gixp_capabilities.specs.declared.client.Error.TheVariants.{Io, Read, LineTooLong, AuthenticationUnsupported, UnsupportedProtocolVersion, MissingDelimitingNullByte, Memory}
use Rattle.gixp_transport.specs.declared.service.SetServiceResponse.{SetServiceResponse}
use Rattle.gixp_packetline.specs.Pieces.{Refusal, io, decode, server, unexpected_frame, not_utf8, bad_band, interrupted, memory, Piece, line, mark, Pieces, no_pieces, with_piece, stream_pieces}
use Rattle.bstr.specs.Owned.{bstring_bytes}
use Rattle.gixp_packetline.specs.Items.{is_stop}
use Rattle.gixp_packetline.specs.declared.read.Error.{Error as ReadError}
use Rattle.gixp_packetline.proofs.RunLemmas.{mark_not_gives}
use Rattle.gixp_packetline.specs.Lines.{gives, stops, refuses, next_from, next_of, Lines, lines_of, before}
use Rattle.gixp_packetline.specs.declared.packets.Place.{Place}
use Rattle.gixp_packetline.specs.declared.packets.Place.TheVariants.{Open, Peeked, Stopped, Refused}
use Rattle.gixp_packetline.specs.declared.packets.Packets.{Packets}
use Rattle.gixp_packetline.specs.Packets.{is_peeked, place_stop, known, packets_reading}
use Rattle.gixp_capabilities.specs.Capabilities.{CapabilityValue, capability_of_line, capabilities_of_line, capabilities_of_lines, capabilities_after, IsOfLine}
use Rattle.gixp_capabilities.specs.Client.{ClientRefusal, failed, reader, no_memory, no_null_byte, unsupported_version, client_refusal, client_from}
use Rattle.gixp_packetline.specs.Reading.{Reading, reset_to, ShowsLine, TakesLine, TakesStop, AtStop, IsPlain, IsLasting, Faults, IsOutside, refusal_of, is_end, Fails as Failing}
use Rattle.gixp_transport.specs.CapabilityAdvertisement.{Advertised, Named, another, unnamed, version_named, trimmed, empty_advertisement, ref_line, from_ref_line, by_version, by_first, advertisement, by_lines, from_capability_lines, Answers, ReadsAdvertisement, FailsAdvertisement, IsFromDevice, IsOfAdvertisement, IsCaused, LinesTaken, TakesNone, TakesAny, TakesFirst, one, two, after_lines, LeavesStreamRefused, LeavesStreamIo, LeavesStream, Advertises}
use Rattle.gixp_packetline.proofs.LineLemmas.{gives_line, stops_here, refuses_here}

-- `advertised` of the packet lines before is `then` of those after
abbrev pub Turns : (Pieces → Result Advertised ClientRefusal) → (Pieces → Result Advertised ClientRefusal) → Option Pieces
    → Option Pieces → Type 0
Turns advertised then old new = IfSome old (λ p. (q : Pieces) × (new ≡ Some q) × (advertised p ≡ then q))

-- only these lines were taken
pub record Steps (advertised then : Pieces → Result Advertised ClientRefusal) (texts : List (List ℕ)) (old new : Reading) : Type 0 where
  pub turns : Turns advertised then old.to_come new.to_come
  pub lines : LinesTaken texts old.to_come new.to_come
  pub failures : new.failures ≡ old.failures
  pub left : new.left ≤ old.left
  pub held : new.held ≡ old.held

turned_value : (advertised then : Pieces → Result Advertised ClientRefusal) (a b : Option Pieces) (P : Advertised → Type 0) → Turns advertised then a b
    → IfSome b (λ q. (x : Advertised) × (then q ≡ Ok x) × P x) → IfSome a (λ p. (x : Advertised) × (advertised p ≡ Ok x) × P x)
turned_value advertised then None b P t h = tt
turned_value advertised then (Some p) None P t h = absurd (let e = t.1 in cc)
turned_value advertised then (Some p) (Some q) P t h =
    let e : q ≡ t.0 = let e = t.1 in cc in
    (h.0, t.2 ∙ ap then (sym e) ∙ h.1, h.2)

turned_refusal : (advertised then : Pieces → Result Advertised ClientRefusal) (a b : Option Pieces) (x : ClientRefusal) → Turns advertised then a b
    → IfSome b (λ q. then q ≡ Err x) → IfSome a (λ p. advertised p ≡ Err x)
turned_refusal advertised then None b x t h = tt
turned_refusal advertised then (Some p) None x t h = absurd (let e = t.1 in cc)
turned_refusal advertised then (Some p) (Some q) x t h =
    let e : q ≡ t.0 = let e = t.1 in cc in
    t.2 ∙ ap then (sym e) ∙ h

from_device : (old mid new : Reading) (e : Error) → mid.failures ≡ old.failures → IsFromDevice mid new e → IsFromDevice old new e
from_device old mid new (Io kind) s h = rw s at h
from_device old mid new Memory s h = h ∙ s
from_device old mid new (Read e) s h = h
from_device old mid new LineTooLong s h = h
from_device old mid new AuthenticationUnsupported s h = h
from_device old mid new (UnsupportedProtocolVersion t) s h = h
from_device old mid new MissingDelimitingNullByte s h = h

following-append : (xs ys : List (List ℕ)) (p : Pieces) → after_lines xs (after_lines ys p) ≡ after_lines (xs ++ ys) p
following-append [] ys p = refl
following-append (x ∷ xs) ys p = ap (with_piece (line x)) (following-append xs ys p)

none-taken : (o : Option Pieces) → LinesTaken [] o o
none-taken None = tt
none-taken (Some p) = (p, refl, refl)

taken-then : (xs ys : List (List ℕ)) (a b c : Option Pieces) → LinesTaken xs a b → LinesTaken ys b c → LinesTaken (xs ++ ys) a c
taken-then xs ys None b c h k = tt
taken-then xs ys (Some p) None c h k = absurd (let e = h.1 in cc)
taken-then xs ys (Some p) (Some q) c h k =
    let e : h.0 ≡ q = let e = h.1 in cc in
    (k.0, k.1, h.2 ∙ ap (after_lines xs) (e ∙ k.2) ∙ following-append xs ys k.0)

gives-is : (v : Protocol) (list : List Piece) (end : Refusal) (text : List ℕ) (q : Pieces) → next_from v list end ≡ gives text q
    → record { list = list; end = end } ≡ with_piece (line text) q
gives-is v [] end text q h = cc
gives-is v (line t ∷ ps) end text q h =
    let p : Pieces = record { list = ps; end = end } in
    let e1 : t ≡ text = cc in
    let e2 : p ≡ q = cc in
    rw (← e1, ← e2) refl
gives-is v (mark kind ∷ ps) end text q h =
    absurd (mark_not_gives (is_stop v kind) kind (record { list = ps; end = end }) q unexpected_frame text h)

one-taken : (a b : Option Pieces) (v : Protocol) (text : List ℕ)
    → IfSome a (λ p. (q : Pieces) × (b ≡ Some q) × (next_of v p ≡ gives text q)) → LinesTaken (text ∷ []) a b
one-taken None b v text h = tt
one-taken (Some p) b v text h = (h.0, h.1, gives-is v p.list p.end text h.0 h.2)

shown-taken : (a b : Option Pieces) (v : Protocol) (text : List ℕ)
    → IfSome a (λ p. (q : Pieces) × (b ≡ Some p) × (next_of v p ≡ gives text q)) → LinesTaken [] a b
shown-taken None b v text h = tt
shown-taken (Some p) b v text h = (p, h.1, refl)

stays-taken : (a b : Option Pieces) → IfSome a (λ p. b ≡ Some p) → LinesTaken [] a b
stays-taken None b h = tt
stays-taken (Some p) b h = (p, h, refl)

refused-then : (xs : List (List ℕ)) (a b : Option Pieces) (P : Type 0) → LinesTaken xs a b → IfSome b (λ q. P) → IfSome a (λ p. P)
refused-then xs None b P h k = tt
refused-then xs (Some p) None P h k = absurd (let e = h.1 in cc)
refused-then xs (Some p) (Some q) P h k = k

-- the state after an error, seen from before the lines that were taken
stands-then : (xs ys : List (List ℕ)) (old mid new : Reading) (e : Error) → LinesTaken xs old.to_come mid.to_come → LeavesStream ys mid new e
    → LeavesStream (xs ++ ys) old new e
stands-then xs ys old mid new (Io kind) h k = by (is_end kind) k
  where
    by : (b : Bool) → LeavesStreamIo b ys mid new kind → LeavesStreamIo b (xs ++ ys) old new kind
    by true k = (k.0, refused-then xs old.to_come mid.to_come _ h k.1)
    by false k = (k.0, taken-then xs ys old.to_come mid.to_come new.to_come h k.1)
stands-then xs ys old mid new (Read x) h k = (k.0, refused-then xs old.to_come mid.to_come _ h k.1)
stands-then xs ys old mid new LineTooLong h k = k
stands-then xs ys old mid new AuthenticationUnsupported h k = k
stands-then xs ys old mid new (UnsupportedProtocolVersion t) h k = (k.0, k.1, taken-then xs ys old.to_come mid.to_come new.to_come h k.2)
stands-then xs ys old mid new MissingDelimitingNullByte h k = (k.0, k.1, taken-then xs ys old.to_come mid.to_come new.to_come h k.2)
stands-then xs ys old mid new Memory h k = taken-then xs ys old.to_come mid.to_come new.to_come h k

-- an advertisement that is read after such steps
pub advertises-then : (advertised then : Pieces → Result Advertised ClientRefusal) (takes more : Protocol → List (List ℕ) → Type 0)
    (texts : List (List ℕ)) (old mid new : Reading)
    (r : Result SetServiceResponse Error) → ((v : Protocol) (ts : List (List ℕ)) → more v ts → takes v (texts ++ ts)) → Steps advertised
    then texts old mid
    → Advertises then more mid new r → Advertises advertised takes old new r
advertises-then advertised then takes more texts old mid new (Ok found) f s h = record {
  value = turned_value advertised then old.to_come mid.to_come (λ a. Answers a new found) s.turns h.value;
  says = h.says;
  version = h.version;
  failures = h.failures ∙ s.failures;
  left = let a = h.left in let b = s.left in omega arith;
  held = h.held ∙ s.held;
}
advertises-then advertised then takes more texts old mid new (Err e) f s h = record {
  why = why h.why;
  caused = caused h.caused;
  taken = texts ++ h.taken;
  by_version = f new.version h.taken h.by_version;
  stands = stands-then texts h.taken old mid new e s.lines h.stands;
  stopped = h.stopped;
  left = let a = h.left in let b = s.left in omega arith;
  held = h.held ∙ s.held;
}
  where
    why : (IfSome mid.to_come (λ q. then q ≡ Err (client_refusal e)) × (new.failures ≡ mid.failures)) ⊎ IsFromDevice mid new e
        → (IfSome old.to_come (λ p. advertised p ≡ Err (client_refusal e)) × (new.failures ≡ old.failures)) ⊎ IsFromDevice old new e
    why (inl k) = inl (turned_refusal advertised then old.to_come mid.to_come (client_refusal e) s.turns k.0, k.1 ∙ s.failures)
    why (inr k) = inr (from_device old mid new e s.failures k)

    caused : IsCaused mid new e → IsCaused old new e
    caused (inl k) = inl (k.0, k.1 ∙ s.failures)
    caused (inr k) = inr (from_device old mid new e s.failures k)

-- the error of a failed read is `Io`
is_io : (e : Error) (kind : ErrorKind) → client_refusal e ≡ failed kind → e ≡ Io kind
is_io (Io k) kind h = let same : k ≡ kind = cc in ap Io same
is_io (Read e) kind h = absurd (cc)
is_io LineTooLong kind h = absurd (cc)
is_io AuthenticationUnsupported kind h = absurd (cc)
is_io (UnsupportedProtocolVersion t) kind h = absurd (cc)
is_io MissingDelimitingNullByte kind h = absurd (cc)
is_io Memory kind h = absurd (cc)

is_memory : (e : Error) → client_refusal e ≡ no_memory → e ≡ Memory
is_memory (Io k) h = absurd (cc)
is_memory (Read e) h = absurd (cc)
is_memory LineTooLong h = absurd (cc)
is_memory AuthenticationUnsupported h = absurd (cc)
is_memory (UnsupportedProtocolVersion t) h = absurd (cc)
is_memory MissingDelimitingNullByte h = absurd (cc)
is_memory Memory h = refl

outside : (old new : Reading) (x : Refusal) (e : Error) → IsOutside old new x → IsPlain new x → client_refusal e ≡ client_from x
    → IsFromDevice old new e
outside old new (io kind) e (inl h) p is = subst (IsFromDevice old new) (sym (is_io e kind is)) h.fault.2
outside old new (io kind) e (inr h) p is = subst (IsFromDevice old new) (sym (is_io e kind is)) h.failures
outside old new memory e (inl h) p is = subst (IsFromDevice old new) (sym (is_memory e is)) h.fault
outside old new memory e (inr h) p is = absurd (let e = h.refusal in cc)
outside old new interrupted e h p is = absurd p
outside old new (bad_band b) e h p is = absurd p
outside old new (decode y) e (inl h) p is = absurd h.fault
outside old new (decode y) e (inr h) p is = absurd (let e = h.refusal in cc)
outside old new (server m) e (inl h) p is = absurd h.fault
outside old new (server m) e (inr h) p is = absurd (let e = h.refusal in cc)
outside old new unexpected_frame e (inl h) p is = absurd h.fault
outside old new unexpected_frame e (inr h) p is = absurd (let e = h.refusal in cc)
outside old new not_utf8 e (inl h) p is = absurd h.fault
outside old new not_utf8 e (inr h) p is = absurd (let e = h.refusal in cc)

refused_known : (advertised : Pieces → Result Advertised ClientRefusal) (o : Option Pieces) (v : Protocol) (x : Refusal) (y : ClientRefusal)
    (Q : Pieces → Type 0)
    → ((p : Pieces) → next_of v p ≡ refuses x → advertised p ≡ Err y) → IfSome o (λ p. Q p × (next_of v p ≡ refuses x))
    → IfSome o (λ p. advertised p ≡ Err y)
refused_known advertised None v x y Q f h = tt
refused_known advertised (Some p) v x y Q f h = f p h.1

is_reader : (e : Error) (x : Refusal) → client_refusal e ≡ reader x → (P : Error → Type 0)
    → ((y : ReadError) → refusal_of y ≡ x → P (Read y)) → P e
is_reader (Io k) x h P f = absurd (cc)
is_reader (Read y) x h P f = f y (cc)
is_reader LineTooLong x h P f = absurd (cc)
is_reader AuthenticationUnsupported x h P f = absurd (cc)
is_reader (UnsupportedProtocolVersion t) x h P f = absurd (cc)
is_reader MissingDelimitingNullByte x h P f = absurd (cc)
is_reader Memory x h P f = absurd (cc)

stood : (old new : Reading) (x : Refusal) (e : Error) → client_refusal e ≡ reader x → LeavesStreamRefused old new x → LeavesStream [] old new e
stood old new x e is k = is_reader e x is (LeavesStream [] old new) (λ y h. subst (LeavesStreamRefused old new) (sym h) k)

-- an error of the stream is one of the advertisement
of-advertised : (new : Reading) (x : Refusal) (e : Error) → IsLasting x → IsPlain new x → client_refusal e ≡ client_from x → IsOfAdvertisement e
of-advertised new (io kind) e l p is = subst IsOfAdvertisement (sym (is_io e kind is)) l
of-advertised new (decode y) e l p is = is_reader e (decode y) is IsOfAdvertisement (λ z h. subst IsLasting (sym h) tt)
of-advertised new (server m) e l p is = is_reader e (server m) is IsOfAdvertisement (λ z h. subst IsLasting (sym h) tt)
of-advertised new unexpected_frame e l p is = is_reader e unexpected_frame is IsOfAdvertisement (λ z h. subst IsLasting (sym h) tt)
of-advertised new not_utf8 e l p is = absurd l
of-advertised new (bad_band b) e l p is = absurd p
of-advertised new interrupted e l p is = absurd p
of-advertised new memory e l p is = absurd l

-- an error of the stream is sticky
stands-lasting : (old new : Reading) (x : Refusal) (e : Error) → IsLasting x → IsPlain new x → client_refusal e ≡ client_from x
    → LeavesStreamRefused old new x → LeavesStream [] old new e
stands-lasting old new (io kind) e l p is k =
    let end : is_end kind ≡ true = ap is_end l in
    let s : LeavesStream [] old new (Io kind) = rw end k in
    subst (LeavesStream [] old new) (sym (is_io e kind is)) s
stands-lasting old new (decode y) e l p is k = stood old new (decode y) e is k
stands-lasting old new (server m) e l p is k = stood old new (server m) e is k
stands-lasting old new unexpected_frame e l p is k = stood old new unexpected_frame e is k
stands-lasting old new not_utf8 e l p is k = absurd l
stands-lasting old new (bad_band b) e l p is k = absurd p
stands-lasting old new interrupted e l p is k = absurd p
stands-lasting old new memory e l p is k = absurd l

-- a transient error loses nothing
stands-fault : (old new : Reading) (x : Refusal) (e : Error) → Faults old new x → IsPlain new x → client_refusal e ≡ client_from x
    → LeavesStream [] old new e
stands-fault old new (io kind) e k p is =
    let on : is_end kind ≡ false = k.fault.0 in
    let s : LeavesStream [] old new (Io kind) = rw on (k.stays.peeked, stays-taken old.to_come new.to_come k.stays.to_come) in
    subst (LeavesStream [] old new) (sym (is_io e kind is)) s
stands-fault old new memory e k p is =
    subst (LeavesStream [] old new) (sym (is_memory e is)) (stays-taken old.to_come new.to_come k.stays.to_come)
stands-fault old new interrupted e k p is = absurd p
stands-fault old new (bad_band b) e k p is = absurd p
stands-fault old new (decode y) e k p is = absurd k.fault
stands-fault old new (server m) e k p is = absurd k.fault
stands-fault old new unexpected_frame e k p is = absurd k.fault
stands-fault old new not_utf8 e k p is = absurd k.fault

next-stands : (o new : Option Pieces) (v : Protocol) (x : Refusal)
    → IfSome o (λ p. (new ≡ Some (no_pieces x)) × (next_of v p ≡ refuses x)) → IfSome o (λ p. new ≡ Some (no_pieces x))
next-stands None new v x h = tt
next-stands (Some p) new v x h = h.0

always : (o : Option Pieces) (P : Type 0) → P → IfSome o (λ p. P)
always None P h = tt
always (Some p) P h = h

-- an error of the reader is the error of the advertisement
pub fails-reading : (advertised : Pieces → Result Advertised ClientRefusal) (takes : Protocol → List (List ℕ) → Type 0) (old new : Reading)
    (x : Refusal) (e : Error) → takes old.version [] → Failing old new x
    → IsPlain new x → client_refusal e ≡ client_from x
    → ((p : Pieces) → next_of old.version p ≡ refuses x → advertised p ≡ Err (client_from x)) → FailsAdvertisement advertised takes old new e
fails-reading advertised takes old new x e m (inl k) p is f = record {
  taken = [];
  by_version = subst (λ v. takes v []) (sym k.version) m;
  why = inl (refused_known advertised old.to_come old.version x (client_refusal e) _ (λ q n. f q n ∙ ap Err (sym is)) k.next, k.failures);
  caused = inl (of-advertised new x e k.lasting p is, k.failures);
  stands = stands-lasting old new x e k.lasting p is (k.refused, next-stands old.to_come new.to_come old.version x k.next);
  stopped = k.stopped;
  left = k.left;
  held = k.held;
}
fails-reading advertised takes old new x e m (inr (inl k)) p is f = record {
  taken = [];
  by_version =
      subst (λ v. takes v []) (sym k.stays.version) m;
  why = inr (outside old new x e (inl k) p is);
  caused = inr (outside old new x e (inl k) p is);
  stands = stands-fault old new x e k p is;
  stopped = k.stays.stopped ∙ k.running;
  left = k.stays.left;
  held = k.stays.held;
}
fails-reading advertised takes old new x e m (inr (inr k)) p is f =
    record {
      taken = [];
      by_version = subst (λ v. takes v []) (sym k.version) m;
      why = inr (outside old new x e (inr k) p is);
      caused = inr (outside old new x e (inr k) p is);
      stands = stands-lasting old new x e (subst IsLasting (sym k.refusal) refl) p is
          (k.refused, always old.to_come _ k.to_come);
      stopped = k.stopped;
      left = k.left;
      held = k.held;
    }

-- a reader that was not at a stop and is at one after the call took it
pub takes-stop : (old new : Reading) → old.stopped ≡ None → AtStop old new → (kind : MessageKind) × TakesStop old new kind
takes-stop old new run (inl k) = absurd (let e = rw run at k.was in cc)
takes-stop old new run (inr k) = k

stopped_known : (advertised : Pieces → Result Advertised ClientRefusal) (a b : Option Pieces) (v : Protocol) (kind : MessageKind)
    (found : Pieces → Advertised) (P : Advertised → Type 0)
    → ((p q : Pieces) → next_of v p ≡ stops kind q → advertised p ≡ Ok (found q)) → ((q : Pieces) → b ≡ Some q → P (found q))
    → IfSome a (λ p. (q : Pieces) × (b ≡ Some q) × (next_of v p ≡ stops kind q)) → IfSome a (λ p. (x : Advertised) × (advertised p ≡ Ok x) × P x)
stopped_known advertised None b v kind found P f g h = tt
stopped_known advertised (Some p) b v kind found P f g h = (found h.0, f p h.0 h.2, g h.0 h.1)

-- a stop in place of the first ref line
pub reads-empty_advertisement : (advertised : Pieces → Result Advertised ClientRefusal) (v : Protocol) (old new : Reading)
    (kind : MessageKind) (found : SetServiceResponse)
    → old.version ≡ v → found ≡ record { actual_protocol = v; capabilities = []; has_refs = true } → TakesStop old new kind
    → ((p q : Pieces) → next_of v p ≡ stops kind q → advertised p ≡ Ok (empty_advertisement v kind q)) → ReadsAdvertisement advertised old new found
reads-empty_advertisement advertised v old new kind found version is k f = record {
  value = stopped_known advertised old.to_come new.to_come old.version kind (empty_advertisement v kind) (λ a. Answers a new found)
      (λ p q n. f p q (ap (λ w. next_of w p) (sym version) ∙ n))
      (λ q at. rw is (record { version = refl; capabilities = refl; has_refs = refl; rest = at; stopped = k.stopped }))
      k.next;
  says = inr (inl (record {
    capabilities = ap (λ (f : SetServiceResponse). f.capabilities) is;
    has_refs = ap (λ (f : SetServiceResponse). f.has_refs) is;
    stopped = rw k.stopped refl;
  }));
  version = k.version ∙ version ∙ (rw is refl);
  failures = k.failures;
  left = k.left;
  held = k.held;
}

-- these capability lines were read so far
pub record Gathers (old now : Reading) (texts : List (List ℕ)) : Type 0 where
  pub next : IfSome old.to_come (λ p. (q : Pieces) × (now.to_come ≡ Some q) × (lines_of V2 p ≡ before texts (lines_of V2 q)))
  pub lines : LinesTaken texts old.to_come now.to_come
  pub running : now.stopped ≡ None
  pub version : now.version ≡ V2
  pub failures : now.failures ≡ old.failures
  pub left : now.left ≤ old.left
  pub held : now.held ≡ old.held

pub gathers-none : (r : Reading) → r.stopped ≡ None → r.version ≡ V2 → Gathers r r []
gathers-none r run v = record {
  next = at r.to_come;
  lines = none-taken r.to_come;
  running = run;
  version = v;
  failures = refl;
  left = omega arith;
  held = refl;
}
  where
    at : (o : Option Pieces) → IfSome o (λ p. (q : Pieces) × (o ≡ Some q) × (lines_of V2 p ≡ before [] (lines_of V2 q)))
    at None = tt
    at (Some p) = (p, refl, refl)

after_line : (a b c : Option Pieces) (texts : List (List ℕ)) (text : List ℕ) (w : Protocol) → w ≡ V2
    → IfSome a (λ p. (q : Pieces) × (b ≡ Some q) × (lines_of V2 p ≡ before texts (lines_of V2 q)))
    → IfSome b (λ p. (q : Pieces) × (c ≡ Some q) × (next_of w p ≡ gives text q))
    → IfSome a (λ p. (q : Pieces) × (c ≡ Some q) × (lines_of V2 p ≡ before (texts ++ text ∷ []) (lines_of V2 q)))
after_line None b c texts text w v h k = tt
after_line (Some p) None c texts text w v h k = absurd (let e = h.1 in cc)
after_line (Some p) (Some q) c texts text w v h k =
    let same : h.0 ≡ q = let e = h.1 in cc in
    let next : next_of V2 q ≡ gives text k.0 = rw v at k.2 in (
      k.0,
      k.1,
      h.2 ∙ ap (λ x. before texts (lines_of V2 x)) same ∙ ap (before texts) (gives_line V2 q.list q.end text k.0 next)
          ∙ (rw append_assoc refl),
    )

pub gathers-line : (old mid new : Reading) (texts : List (List ℕ)) → Gathers old mid texts → TakesLine mid new
    → Gathers old new (texts ++ new.line ∷ [])
gathers-line old mid new texts h k = record {
  next = after_line old.to_come mid.to_come new.to_come texts new.line mid.version h.version h.next k.next;
  lines = taken-then texts (new.line ∷ []) old.to_come mid.to_come new.to_come h.lines
      (one-taken mid.to_come new.to_come mid.version new.line k.next);
  running = k.stopped;
  version = k.version ∙ h.version;
  failures = k.failures ∙ h.failures;
  left = let a = h.left in let b = k.left in omega arith;
  held = k.held ∙ h.held;
}

-- the advertisement after these lines: they and the lines to come
abbrev advertised_after : List (List ℕ) → Pieces → Result Advertised ClientRefusal
advertised_after texts p = let l = lines_of V2 p in by_lines (texts ++ l.lines) l.ending

gathers-steps : (old mid : Reading) (texts : List (List ℕ)) → Gathers old mid texts
    → Steps from_capability_lines (advertised_after texts) texts old mid
gathers-steps old mid texts h =
    record { turns = at old.to_come mid.to_come h.next; lines = h.lines; failures = h.failures; left = h.left; held = h.held }
  where
    at : (a b : Option Pieces) → IfSome a (λ p. (q : Pieces) × (b ≡ Some q) × (lines_of V2 p ≡ before texts (lines_of V2 q)))
        → Turns from_capability_lines (advertised_after texts) a b
    at None b k = tt
    at (Some p) b k = (k.0, k.1, ap (λ (l : Lines). by_lines l.lines l.ending) k.2)

-- the capability lines up to the stop
pub reads-lines : (old mid new : Reading) (texts : List (List ℕ)) (found : SetServiceResponse) → Gathers old mid texts → AtStop mid new
    → found ≡ record { actual_protocol = V2; capabilities = capabilities_of_lines texts; has_refs = false }
    → ReadsAdvertisement from_capability_lines old new found
reads-lines old mid new texts found h at is =
    let stop = takes-stop mid new h.running at in
    let kind = stop.0 in
    let k = stop.1 in
    let advertised : Pieces → Advertised =
    λ q. record { version = V2; capabilities = capabilities_of_lines texts; has_refs = false; rest = q; stopped = Some kind } in
    advertises-then from_capability_lines (advertised_after texts) TakesAny TakesAny texts old mid new (Ok found) (λ v ts m. m)
    (gathers-steps old mid texts h) (record {
      value = stopped_known (advertised_after texts) mid.to_come new.to_come mid.version kind advertised (λ a. Answers a new found)
          (λ p q n. let next : next_of V2 p ≡ stops kind q = ap (λ v. next_of v p) (sym h.version) ∙ n in
          rw (stops_here V2 p.list p.end kind q next, append-nil) refl)
          (λ q e. rw is (record { version = refl; capabilities = refl; has_refs = refl; rest = e; stopped = k.stopped }))
          k.next;
      says = inl (record {
        texts = texts;
        capabilities = ap (λ (f : SetServiceResponse). f.capabilities) is;
        has_refs = ap (λ (f : SetServiceResponse). f.has_refs) is;
        stopped = rw k.stopped refl;
      });
      version = k.version ∙ h.version ∙ (rw is refl);
      failures = k.failures;
      left = k.left;
      held = k.held;
    })

-- an error among them
pub fails-lines : (old mid new : Reading) (texts : List (List ℕ)) (x : Refusal) (e : Error) → Gathers old mid texts → Failing mid new x
    → IsPlain new x
    → client_refusal e ≡ client_from x → FailsAdvertisement from_capability_lines TakesAny old new e
fails-lines old mid new texts x e h k p is =
    advertises-then from_capability_lines (advertised_after texts) TakesAny TakesAny texts old mid new (Err e) (λ v ts m. m)
    (gathers-steps old mid texts h)
    (fails-reading (advertised_after texts) TakesAny mid new x e h.version k p is
    (λ q n. let next : next_of V2 q ≡ refuses x = ap (λ v. next_of v q) (sym h.version) ∙ n in
    rw (refuses_here V2 q.list q.end x next) refl))

-- an allocation failed for one of them
pub fails-memory : (old mid new : Reading) (texts : List (List ℕ)) → Gathers old mid texts → TakesLine mid new
    → FailsAdvertisement from_capability_lines TakesAny old new Memory
fails-memory old mid new texts h k = record {
  why = inr (k.failures ∙ h.failures);
  caused = inr (k.failures ∙ h.failures);
  taken = texts ++ new.line ∷ [];
  by_version = k.version ∙ h.version;
  stands = taken-then texts (new.line ∷ []) old.to_come mid.to_come new.to_come h.lines
      (one-taken mid.to_come new.to_come mid.version new.line k.next);
  stopped = k.stopped;
  left = let a = h.left in let b = k.left in
      omega arith;
  held = k.held ∙ h.held;
}

-- the capabilities of one more line
pub capabilities-push : (texts : List (List ℕ)) (text : List ℕ) → capabilities_of_lines texts
    ++ capability_of_line text ∷ [] ≡ capabilities_of_lines (texts ++ text ∷ [])
capabilities-push texts text = sym (map-append capability_of_line texts (text ∷ []))

-- reading under another version takes no packet line
pub reset-steps : (advertised : Pieces → Result Advertised ClientRefusal) (r : Reading) (v : Protocol) → Steps advertised advertised [] r (reset_to v r)
reset-steps advertised r v = record { turns = at r.to_come; lines = none-taken r.to_come; failures = refl; left = omega arith; held = refl }
  where
    at : (o : Option Pieces) → Turns advertised advertised o o
    at None = tt
    at (Some p) = (p, refl, refl)

-- to peek takes no packet line
pub shows-steps : (advertised : Pieces → Result Advertised ClientRefusal) (old new : Reading) → ShowsLine old new → Steps advertised advertised [] old new
shows-steps advertised old new k = record {
  turns = at old.to_come new.to_come k.next;
  lines = shown-taken old.to_come new.to_come old.version new.line k.next;
  failures = k.failures;
  left = k.left;
  held = k.held;
}
  where
    at : (a b : Option Pieces) → IfSome a (λ p. (q : Pieces) × (b ≡ Some p) × (next_of old.version p ≡ gives new.line q))
        → Turns advertised advertised a b
    at None b h = tt
    at (Some p) b h = (p, h.1, refl)

-- after a line that was taken, on which the advertisement depends
pub takes-steps : (advertised then : Pieces → Result Advertised ClientRefusal) (old new : Reading) → TakesLine old new
    → ((p q : Pieces) → next_of old.version p ≡ gives new.line q → advertised p ≡ then q) → Steps advertised then (new.line ∷ []) old new
takes-steps advertised then old new k f =
    record {
      turns = at old.to_come new.to_come k.next;
      lines = one-taken old.to_come new.to_come old.version new.line k.next;
      failures = k.failures;
      left = let a = k.left in omega arith;
      held = k.held;
    }
  where
    at : (a b : Option Pieces) → IfSome a (λ p. (q : Pieces) × (b ≡ Some q) × (next_of old.version p ≡ gives new.line q)) → Turns advertised
        then a b
    at None b h = tt
    at (Some p) b h = (h.0, h.1, f p h.0 h.2)

-- a reader that has peeked at a line
pub peeked-place : (place : Place) → is_peeked place ≡ true → place ≡ Peeked
peeked-place Open h = cc
peeked-place Peeked h = refl
peeked-place (Stopped kind) h = cc
peeked-place Refused h = cc

abbrev place_of : Option (List CapabilityValue × ℕ) → ℕ
place_of None = 0
place_of (Some found) = found.1

-- the capabilities found are those of the definition
pub found-is : (o : Option (List CapabilityValue × ℕ)) (found : List CapabilityValue × ℕ) → IsOfLine o (Ok found) → o ≡ Some found
found-is None found h = absurd h
found-is (Some x) found h = ap Some (sym h)

-- the NUL is in the line
pub place-within : (text : List ℕ) (cs : List CapabilityValue) (place : ℕ) → capabilities_of_line text ≡ Some (cs, place)
    → place < length text
place-within text cs place h = at (position (λ b. b == 0) text) refl h
  where
    at : (o : Option ℕ) → position (λ b. b == 0) text ≡ o → capabilities_after text o ≡ Some (cs, place) → place < length text
    at None e k = cc
    at (Some i) e k =
        let same : i ≡ place = ap place_of k in
        let within = (position-Some (λ b. b == 0) text i 0 e).0 in
        rw same at within

module _ {R : Type 0} where
  abbrev pub shortened : Packets R → ℕ → Packets R
  shortened p n = record p { window = record p.window { lent = take n p.window.lent } }

  to_come-peeked : (rem : R → Option (List ℕ)) (p : Packets R) → p.place ≡ Peeked
      → (packets_reading rem p).to_come ≡ option_map (with_piece (line p.window.lent)) (option_map stream_pieces (known rem p))
  to_come-peeked rem p e = rw e refl

  -- the first ref line was cut before its NUL
  pub reads-cut : (rem : R → Option (List ℕ)) (p : Packets R) (v : Protocol) (cs : List CapabilityValue) (n : ℕ) → p.place ≡ Peeked
      → p.version ≡ v
      → capabilities_of_line p.window.lent ≡ Some (cs, n)
      → ReadsAdvertisement (from_ref_line v) (packets_reading rem p) (packets_reading rem (shortened p n))
      (record { actual_protocol = v; capabilities = cs; has_refs = true })
  reads-cut rem p v cs n e version is =
      let new = shortened p n in
      let found : SetServiceResponse = record { actual_protocol = v; capabilities = cs; has_refs = true } in
      let P : Option Pieces → Type 0 =
      λ c. IfSome c (λ q. (a : Advertised) × (from_ref_line v q ≡ Ok a) × Answers a (packets_reading rem new) found) in
      record {
        value = subst P (sym (to_come-peeked rem p e)) (at (option_map stream_pieces (known rem p)) refl);
        says = inr (inr (record {
          text = p.window.lent;
          place = n;
          capabilities = is;
          has_refs = refl;
          line = refl;
          peeked = ap is_peeked e;
          stopped = ap place_stop e;
        }));
        version = version;
        failures = refl;
        left =
            let a = place-within p.window.lent cs n is in
            rw e (omega (arith, length-take-le n p.window.lent (omega arith)));
        held = refl;
      }
    where
      at : (o : Option Pieces) → option_map stream_pieces (known rem p) ≡ o
          → IfSome (option_map (with_piece (line p.window.lent)) o) (λ q. (a : Advertised) × (from_ref_line v q ≡ Ok a)
          × Answers a (packets_reading rem (shortened p n)) (record { actual_protocol = v; capabilities = cs; has_refs = true }))
      at None k = tt
      at (Some q) k = (
        record { version = v; capabilities = cs; has_refs = true; rest = with_piece (line (take n p.window.lent)) q; stopped = None },
        ap (ref_line v p.window.lent q) is,
        record {
          version = refl;
          capabilities = refl;
          has_refs = refl;
          rest = to_come-peeked rem (shortened p n) e ∙ ap (option_map (with_piece (line (take n p.window.lent)))) k;
          stopped = ap place_stop e;
        },
      )

  -- the first ref line has no NUL
  pub fails-cut : (rem : R → Option (List ℕ)) (p : Packets R) (v : Protocol) (e : Error) → p.place ≡ Peeked → p.version ≡ v
      → IsOfLine (capabilities_of_line p.window.lent) (Err e)
      → FailsAdvertisement (from_ref_line v) (TakesNone v) (packets_reading rem p) (packets_reading rem p) e
  fails-cut rem p v e peeked version h = by (capabilities_of_line p.window.lent) refl h
    where
      none : (o : Option Pieces) → capabilities_of_line p.window.lent ≡ None
          → IfSome (option_map (with_piece (line p.window.lent)) o) (λ q. from_ref_line v q ≡ Err no_null_byte)
      none None k = tt
      none (Some q) k = ap (ref_line v p.window.lent q) k

      by : (o : Option (List CapabilityValue × ℕ)) → capabilities_of_line p.window.lent ≡ o → IsOfLine o (Err e)
          → FailsAdvertisement (from_ref_line v) (TakesNone v) (packets_reading rem p) (packets_reading rem p) e
      by None k i =
          let P : Option Pieces → Type 0 = λ c. IfSome c (λ q. from_ref_line v q ≡ Err (client_refusal e)) in
          let refused : client_refusal e ≡ no_null_byte = ap client_refusal i in
          let Q : ClientRefusal → Type 0 = λ x. IfSome (option_map (with_piece (line p.window.lent))
          (option_map stream_pieces (known rem p))) (λ q. from_ref_line v q ≡ Err x) in
          record {
            why = inl (
              subst P (sym (to_come-peeked rem p peeked))
                  (subst Q (sym refused) (none (option_map stream_pieces (known rem p)) k)),
              refl,
            );
            caused = inl (subst IsOfAdvertisement (sym i) tt, refl);
            taken = [];
            by_version = (version, refl);
            stands = subst (LeavesStream [] (packets_reading rem p) (packets_reading rem p)) (sym i)
                (ap is_peeked peeked, k, none-taken (packets_reading rem p).to_come);
            stopped = ap place_stop peeked;
            left = omega arith;
            held = refl;
          }
      by (Some found) k i = record {
        why = inr (subst (IsFromDevice (packets_reading rem p) (packets_reading rem p)) (sym i) refl);
        caused = inr (subst (IsFromDevice (packets_reading rem p) (packets_reading rem p)) (sym i) refl);
        taken = [];
        by_version = (version, refl);
        stands = subst (LeavesStream [] (packets_reading rem p) (packets_reading rem p)) (sym i)
            (none-taken (packets_reading rem p).to_come);
        stopped = ap place_stop peeked;
        left = omega arith;
        held = refl;
      }

  peeked_known : (rem : R → Option (List ℕ)) (p : Packets R) (P : Option Pieces → Type 0) → p.place ≡ Peeked
      → ((o : Option Pieces) → P (option_map (with_piece (line p.window.lent)) o)) → P (packets_reading rem p).to_come
  peeked_known rem p P e f = subst P (sym (to_come-peeked rem p e)) (f (option_map stream_pieces (known rem p)))

  -- a first line that names no version is the first ref line
  pub unnamed-steps : (rem : R → Option (List ℕ)) (p : Packets R) → p.place ≡ Peeked → version_named p.window.lent ≡ unnamed
      → Steps advertisement (from_ref_line V0) [] (packets_reading rem p) (packets_reading rem p)
  unnamed-steps rem p e is = record {
    turns = peeked_known rem p (λ o. Turns advertisement (from_ref_line V0) o o) e at;
    lines = none-taken (packets_reading rem p).to_come;
    failures = refl;
    left = omega arith;
    held = refl;
  }
    where
      at : (o : Option Pieces) → Turns advertisement (from_ref_line V0) (option_map (with_piece (line p.window.lent)) o)
          (option_map (with_piece (line p.window.lent)) o)
      at None = tt
      at (Some q) = (with_piece (line p.window.lent) q, refl, ap (λ n. by_version n (with_piece (line p.window.lent) q) q) is)

  -- a first line that names an unknown version is an error
  pub fails-another : (rem : R → Option (List ℕ)) (p : Packets R) (e : Error) → p.version ≡ V0 → p.place ≡ Peeked
      → version_named p.window.lent ≡ another (trimmed p.window.lent)
      → (client_refusal e ≡ unsupported_version (trimmed p.window.lent))
      ⊎ (e ≡ Memory) → FailsAdvertisement advertisement TakesFirst (packets_reading rem p) (packets_reading rem p) e
  fails-another rem p e version peeked is (inl refused) = record {
    taken = [];
    by_version = subst (λ v. TakesFirst v []) (sym version) refl;
    why = inl (peeked_known rem p (λ o. IfSome o (λ q. advertisement q ≡ Err (client_refusal e))) peeked at, refl);
    caused = inl (of-version e refused, refl);
    stands = named e refused;
    stopped = ap place_stop peeked;
    left = omega arith;
    held = refl;
  }
    where
      at : (o : Option Pieces) → IfSome (option_map (with_piece (line p.window.lent)) o) (λ q. advertisement q ≡ Err (client_refusal e))
      at None = tt
      at (Some q) = ap (λ n. by_version n (with_piece (line p.window.lent) q) q) is ∙ ap Err (sym refused)

      of-version : (e : Error) → client_refusal e ≡ unsupported_version (trimmed p.window.lent) → IsOfAdvertisement e
      of-version (Io k) h = absurd (cc)
      of-version (Read y) h = absurd (cc)
      of-version LineTooLong h = absurd (cc)
      of-version AuthenticationUnsupported h = absurd (cc)
      of-version (UnsupportedProtocolVersion t) h = tt
      of-version MissingDelimitingNullByte h = absurd (cc)
      of-version Memory h = absurd (cc)

      named : (e : Error) → client_refusal e ≡ unsupported_version (trimmed p.window.lent)
          → LeavesStream [] (packets_reading rem p) (packets_reading rem p) e
      named (Io k) h = absurd (cc)
      named (Read y) h = absurd (cc)
      named LineTooLong h = absurd (cc)
      named AuthenticationUnsupported h = absurd (cc)
      named (UnsupportedProtocolVersion t) h =
          let same : bstring_bytes t ≡ trimmed p.window.lent = cc in
          (ap is_peeked peeked, is ∙ ap another (sym same), none-taken (packets_reading rem p).to_come)
      named MissingDelimitingNullByte h = absurd (cc)
      named Memory h = absurd (cc)
  fails-another rem p e version peeked is (inr full) = record {
    taken = [];
    by_version = subst (λ v. TakesFirst v []) (sym version) refl;
    why = inr (subst (IsFromDevice (packets_reading rem p) (packets_reading rem p)) (sym full) refl);
    caused = inr (subst (IsFromDevice (packets_reading rem p) (packets_reading rem p)) (sym full) refl);
    stands = subst (LeavesStream [] (packets_reading rem p) (packets_reading rem p)) (sym full) (none-taken (packets_reading rem p).to_come);
    stopped = ap place_stop peeked;
    left = omega arith;
    held = refl;
  }

-- a line that names a version was peeked at and taken, and the version was set
pub named-steps : (then : Pieces → Result Advertised ClientRefusal) (named : Named) (v : Protocol) (old mid new : Reading)
    (text : List ℕ) → old.version ≡ V0 → old.peeked ≡ true
    → old.line ≡ text → version_named text ≡ named → ((p q : Pieces) → by_version named p q ≡ then q) → TakesLine old mid
    → new ≡ reset_to v mid → Steps advertisement then (text ∷ []) old new
named-steps then named v old mid new text version peeked is names turns k reset =
    let lines : mid.line ≡ text = k.again peeked ∙ is in
    let taken = takes-steps advertisement then old mid k (λ p q n.
    let next : next_of V0 p ≡ gives mid.line q = ap (λ w. next_of w p) (sym version) ∙ n in
    ap (by_first p) next ∙ ap (λ t. by_version (version_named t) p q) lines ∙ ap (λ m. by_version m p q) names ∙ turns p q) in
    subst (Steps advertisement then (text ∷ []) old) (sym reset) (record {
      turns = taken.turns;
      lines = subst (λ t. LinesTaken (t ∷ []) old.to_come mid.to_come) lines taken.lines;
      failures = taken.failures;
      left = taken.left;
      held = taken.held;
    })

-- which lines were taken, the first one included
pub first-none : (v : Protocol) (texts : List (List ℕ)) → TakesNone V0 v texts → TakesFirst v texts
first-none v texts h = subst (λ w. TakesFirst w texts) (sym h.0) h.1

pub first-one : (text : List ℕ) → version_named text ≡ one → (v : Protocol) (texts : List (List ℕ)) → TakesNone V1 v texts
    → TakesFirst v (text ∷ texts)
first-one text named v texts h = subst (λ w. TakesFirst w (text ∷ texts)) (sym h.0) (text, named, ap (λ ts. text ∷ ts) h.1)

pub first-two : (text : List ℕ) → version_named text ≡ two → (v : Protocol) (texts : List (List ℕ)) → TakesAny v texts
    → TakesFirst v (text ∷ texts)
first-two text named v texts h = subst (λ w. TakesFirst w (text ∷ texts)) (sym h) (text, texts, named, refl)
