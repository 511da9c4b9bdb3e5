-- How a handshake without an account ends, by the answer to it: as that is discovered, or for memory.
use Rattle.std.proofs.Common.{◌≡◌, ◌⊎◌, ℕ, Bool, true, false, List, [], map, Option, Some, None, Result, Ok, Err, IfSome, inl, inr, refl, sym, ap, ◌∙◌, subst, arith, true≢false}
use Rattle.std.specs.Prelude.{codes}
use Rattle.std.specs.declared.io.ErrorKind.{ErrorKind}
use Rattle.std.specs.declared.io.ErrorKind.TheVariants.{UnexpectedEof}
use Rattle.gixp_packetline.specs.declared.protocol.Protocol.{Protocol}
use Rattle.gixp_packetline.specs.Pieces.{Pieces, Refusal, io, decode, server, unexpected_frame, not_utf8, bad_band, interrupted, memory}
use Rattle.gixp_packetline.specs.Reading.{Reading, IsOutside, IsPlain, lines_from_stop, lines_ahead}
use Rattle.gixp_packetline.specs.TransportState.{TransportState}
use Rattle.gixp_capabilities.specs.declared.client.Error.{Error as client_error}
use Rattle.gixp_capabilities.specs.declared.client.Error.TheVariants as client
use Rattle.gixp_capabilities.specs.Client.{client_refusal}
use Rattle.gixp_transport.specs.declared.service.Service.TheVariants.{UploadPack}
use Rattle.gixp_transport.specs.declared.service.SetServiceResponse.{SetServiceResponse}
use Rattle.gixp_transport.specs.Bodies.{bodies_reading}
use Rattle.gixp_transport.specs.CapabilityAdvertisement.{Advertised, advertisement, Answers, IsOfAdvertisement, IsFromDevice}
use Rattle.gixp_transport.specs.Handshake.{Handshakes, HandshakesBy}
use Rattle.gixp_transport.specs.Transport.{first_answer, later_answers, answer_pieces}
use Rattle.gixp_refs.specs.declared.handshake.refs.parse.Error.{Error as parse_error}
use Rattle.gixp_refs.specs.declared.handshake.refs.parse.Error.TheVariants as parse
use Rattle.gixp_refs.specs.Ref.{RefValue, ref_value}
use Rattle.gixp_refs.specs.RefLine.{RefsRefusal, refusal_from, no_memory}
use Rattle.gixp_refs.specs.ParseError.{parse_refusal, AnswersRefs}
use Rattle.gixp_refs.specs.RefAdvertisement.{Symref, symref_table, v1_refs}
use Rattle.gixp_refs.specs.V1Refs.{symref_values, V1Fails, AdvertisementFails}
use Rattle.gixp_handshake.specs.declared.handshake.error.Error.{Error as handshake_error}
use Rattle.gixp_handshake.specs.declared.handshake.error.Error.TheVariants as handshake
use Rattle.gixp_handshake.specs.declared.handshake.read.Handshake.{Handshake}
use Rattle.gixp_handshake.specs.Shake.{CredentialCall, OpeningResult, Got, StopsForMemory, Denied, First, Opens, ReadsFirst, KeepsVersion, FinishesHandshake, is_accepted}
use Rattle.gixp_handshake.specs.ShakeError.{from_client, from_parse, is_denial, is_denied}
use Rattle.gixp_planner.specs.Refusal.{handshake_name}
use Rattle.gixp_handshake.specs.WithoutAccount.{AreUnanswered, GreetsWithoutAccount}
use Rattle.gixp_planner.specs.Discovered.{Discovery, discovered, with_refs, by_symrefs, by_refs, by_acceptance, by_advertisement, discovery, values_of, HasDiscovered, IsDiscovered, GreetingsFollow}
use Rattle.gixp_planner.proofs.MappedLemmas.{if-known, new-held, ReceivesAdvertisement, receives-by, Greeted, greeted}
use Rattle.gixp_planner.proofs.AnswerLemmas.{never-none}

-- ---- what was said

-- the next answer
abbrev pub next_pieces : Reading → Pieces
next_pieces r = answer_pieces (first_answer r.held.answers)

record AdvertisedSo (accepted : List Protocol) (p : Pieces) (new : Reading) (found : SetServiceResponse) : Type 0 where
  what : Advertised
  advertised : advertisement p ≡ Ok what
  answers : Answers what new found
  version : new.version ≡ what.version
  accepts : is_accepted accepted found.actual_protocol ≡ is_accepted accepted what.version

is-advertised : (old new : Reading) (found : SetServiceResponse) → ReceivesAdvertisement old new found
    → AdvertisedSo old.held.accepted (next_pieces old) new found
is-advertised old new found h =
    let v = if-known _ h.mid.to_come (next_pieces old) h.takes.to_come h.reads.value in
    record {
      what = v.0;
      advertised = v.1;
      answers = v.2;
      version = h.reads.version ∙ v.2.version;
      accepts = ap (is_accepted old.held.accepted) v.2.version;
    }

-- where its version is accepted, or isn't
advertised-so : (accepted : List Protocol) (p : Pieces) (new : Reading) (found : SetServiceResponse) (s : AdvertisedSo accepted p new found)
    (ok : Bool) → is_accepted accepted found.actual_protocol ≡ ok
    → discovery accepted p ≡ by_acceptance ok s.what
advertised-so accepted p new found s ok e = ap (by_advertisement accepted) s.advertised ∙ ap (λ b. by_acceptance b s.what) (sym s.accepts ∙ e)

-- the lines that come next are those after what was said
lines-advertised : (accepted : List Protocol) (p : Pieces) (new : Reading) (found : SetServiceResponse) (s : AdvertisedSo accepted p new found)
    → lines_from_stop s.what.stopped s.what.version s.what.rest ≡ lines_ahead new s.what.rest
lines-advertised accepted p new found s = sym (ap (λ x. lines_from_stop x new.version s.what.rest) s.answers.stopped
    ∙ ap (λ v. lines_from_stop s.what.stopped v s.what.rest) s.version)

-- ---- a handshake that came to its refs

-- what it came to, and what is held then
pub record Discovers (old new : Reading) (h : Handshake) : Type 0 where
  pub advertised : Discovery
  pub so : discovery old.held.accepted (next_pieces old) ≡ Ok advertised
  pub has : HasDiscovered advertised h
  pub held : new.held ≡ record old.held { answers = later_answers old.held.answers }
  pub version : advertised.refs ≡ None → new.version ≡ advertised.version

no-refs : (refs : List RefValue) → ◌≡◌ {A = Option (List RefValue)} (Some refs) None → ⊥
no-refs refs e = cc e

module _ (plain : Bool) (old new : Reading) (h : Handshake) (g : Greeted plain old new h)
    (s : AdvertisedSo old.held.accepted (next_pieces old) g.mid g.found) where
  held-then : g.mid.held ≡ record old.held { answers = later_answers old.held.answers }
  held-then = g.receives.reads.held ∙ g.receives.takes.held

  discovers-by : (follow : Bool) → discovery old.held.accepted (next_pieces old) ≡ by_refs follow s.what
      → ReadsFirst follow g.found plain g.mid new (Ok h) → Discovers old new h
  discovers-by false e f = record {
    advertised = discovered s.what None;
    so = e;
    has = record {
      version = g.version ∙ s.answers.version;
      capabilities = g.capabilities ∙ s.answers.capabilities;
      refs = ap values_of f.1;
    };
    held = ap (λ (r : Reading). r.held) f.0 ∙ held-then;
    version = λ n. ap (λ (r : Reading). r.version) f.0 ∙ s.version;
  }
  discovers-by true e f =
      let reads = f.4.2 in
      let lines = if-known _ g.mid.to_come s.what.rest s.answers.rest reads.lines in
      let values : v1_refs f.4.0 (lines_from_stop s.what.stopped s.what.version s.what.rest) ≡ Ok (map ref_value f.0.items) =
      ap (v1_refs f.4.0) (lines-advertised old.held.accepted (next_pieces old) g.mid g.found s ∙ lines.2) ∙ reads.values in
      record {
        advertised = discovered s.what (Some (map ref_value f.0.items));
        so = e ∙ ap (by_symrefs s.what) (ap symref_table (sym s.answers.capabilities) ∙ f.4.1) ∙ ap (with_refs s.what) values;
        has = record {
          version = g.version ∙ s.answers.version;
          capabilities = g.capabilities ∙ s.answers.capabilities;
          refs = ap values_of f.2;
        };
        held = reads.held ∙ held-then;
        version = λ n. absurd (no-refs (map ref_value f.0.items) n);
      }

pub discovers : (plain : Bool) (old new : Reading) (h : Handshake) → old.held.persists ≡ false
    → GreetsWithoutAccount plain old new (Ok h) → Discovers old new h
discovers plain old new h alone greets =
    let g = greeted plain old new h alone greets in
    let s = is-advertised old g.mid g.found g.receives in
    discovers-by plain old new h g s g.found.has_refs
    (advertised-so old.held.accepted (next_pieces old) g.mid g.found s true g.accepted
    ∙ ap (λ b. by_refs b s.what) (sym s.answers.has_refs)) g.first

-- ---- one that was refused

-- a read that failed is counted, and a plain reader is refused nothing else from outside but memory
pub outside : (old new : Reading) (e : Refusal) → new.failures ≡ 0 → IsOutside old new e → IsPlain new e → refusal_from e ≡ no_memory
outside old new e u (inr b) p = absurd (let r = b.failures in omega arith)
outside old new (io kind) u (inl f) p = absurd (let r = f.fault.2 in omega arith)
outside old new (decode e) u (inl f) p = absurd f.fault
outside old new (server m) u (inl f) p = absurd f.fault
outside old new unexpected_frame u (inl f) p = absurd f.fault
outside old new not_utf8 u (inl f) p = absurd f.fault
outside old new (bad_band b) u (inl f) p = absurd f.fault
outside old new interrupted u (inl f) p = absurd p
outside old new memory u (inl f) p = refl

-- an error that is an allocation failure
pub memory-read : (x : parse_error) → parse_refusal x ≡ no_memory → x ≡ parse.Memory
memory-read (parse.Io kind) e = cc
memory-read (parse.DecodePacketline p) e = cc
memory-read (parse.Id i) e = cc
memory-read (parse.MalformedSymref s) e = cc
memory-read (parse.MalformedV1RefLine l) e = cc
memory-read (parse.MalformedV2RefLine l) e = cc
memory-read (parse.UnknownAttribute a l) e = cc
memory-read (parse.InvariantViolation i) e = cc
memory-read (parse.UploadPack m) e = cc
memory-read (parse.Reader r) e = cc
memory-read parse.Memory e = refl

-- the names of errors from below, but for memory
named-parse : (x : parse_error) → (handshake_name (from_parse x) ≡ codes "ParseRefs") ⊎ (from_parse x ≡ handshake.Memory)
named-parse (parse.Io kind) = inl refl
named-parse (parse.DecodePacketline p) = inl refl
named-parse (parse.Id i) = inl refl
named-parse (parse.MalformedSymref s) = inl refl
named-parse (parse.MalformedV1RefLine l) = inl refl
named-parse (parse.MalformedV2RefLine l) = inl refl
named-parse (parse.UnknownAttribute a l) = inl refl
named-parse (parse.InvariantViolation i) = inl refl
named-parse (parse.UploadPack m) = inl refl
named-parse (parse.Reader r) = inl refl
named-parse parse.Memory = inr refl

named-client : (c : client_error) → (handshake_name (from_client c) ≡ codes "Transport") ⊎ (from_client c ≡ handshake.Memory)
named-client (client.Io kind) = inl refl
named-client (client.Read e) = inl refl
named-client client.LineTooLong = inl refl
named-client client.AuthenticationUnsupported = inl refl
named-client (client.UnsupportedProtocolVersion v) = inl refl
named-client client.MissingDelimitingNullByte = inl refl
named-client client.Memory = inr refl

-- a failed read or write is counted
from-device : (old new : Reading) (c : client_error) → new.failures ≡ 0 → IsFromDevice old new c → c ≡ client.Memory
from-device old new (client.Io kind) z d = absurd (never-none old.failures new.failures d z)
from-device old new (client.Read e) z d = absurd d
from-device old new client.LineTooLong z d = absurd d
from-device old new client.AuthenticationUnsupported z d = absurd d
from-device old new (client.UnsupportedProtocolVersion v) z d = absurd d
from-device old new client.MissingDelimitingNullByte z d = absurd d
from-device old new client.Memory z d = refl

-- what was said is refused
record Unsaid (p : Pieces) (c : client_error) : Type 0 where
  advertised : advertisement p ≡ Err (client_refusal c)
  caused : IsOfAdvertisement c

unsaid : (old new : Reading) (c : client_error) → new.failures ≡ 0 → HandshakesBy false UploadPack [] old new (Err c)
    → Unsaid (next_pieces old) c ⊎ (c ≡ client.Memory)
unsaid old new c z (inl h) = absurd (never-none old.failures new.failures h.3.1 z)
unsaid old new c z (inr h) = by_why h.3.why h.3.caused
  where
    by_why : (IfSome h.0.to_come (λ p. advertisement p ≡ Err (client_refusal c)) × (new.failures ≡ h.0.failures)) ⊎ IsFromDevice h.0 new c
        → (IsOfAdvertisement c × (new.failures ≡ h.0.failures)) ⊎ IsFromDevice h.0 new c → Unsaid (next_pieces old) c ⊎ (c ≡ client.Memory)
    by_why (inr d) x = inr (from-device h.0 new c z d)
    by_why (inl w) (inr d) = inr (from-device h.0 new c z d)
    by_why (inl w) (inl x) =
        inl (record {
          advertised = if-known (λ p. advertisement p ≡ Err (client_refusal c)) h.0.to_come (next_pieces old) h.1.to_come w.0;
          caused = x.0;
        })

-- none of these says that an account is wanted
wants-none : (kind : ErrorKind) → kind ≡ UnexpectedEof → is_denial kind ≡ false
wants-none kind e = ap is_denial e

undenied-so : (c : client_error) → IsOfAdvertisement c → is_denied c ≡ false
undenied-so (client.Io kind) s = wants-none kind s
undenied-so (client.Read e) s = refl
undenied-so client.LineTooLong s = refl
undenied-so client.AuthenticationUnsupported s = refl
undenied-so (client.UnsupportedProtocolVersion v) s = refl
undenied-so client.MissingDelimitingNullByte s = refl
undenied-so client.Memory s = refl

not-denied : (c : client_error) (p : Pieces) → Unsaid p c ⊎ (c ≡ client.Memory) → is_denied c ≡ false
not-denied c p (inl u) = undenied-so c u.caused
not-denied c p (inr m) = ap is_denied m

-- an error of the handshake is that of what was said
memory-ends : (v : Result Discovery (List ℕ)) (e : handshake_error) → e ≡ handshake.Memory → IsDiscovered v (Err e)
memory-ends (Ok advertised) e m = m
memory-ends (Err name) e m = inr m

named-ends : (v : Result Discovery (List ℕ)) (name : List ℕ) (e : handshake_error) → v ≡ Err name → (handshake_name e ≡ name)
    ⊎ (e ≡ handshake.Memory) → IsDiscovered v (Err e)
named-ends v name e q n = subst (λ w. IsDiscovered w (Err e)) (sym q) n

abbrev err_opened : handshake_error → OpeningResult
err_opened e = Err e

abbrev err_shaken : handshake_error → Result Handshake handshake_error
err_shaken e = Err e

err-same : (d e : handshake_error) → err_shaken d ≡ err_shaken e → d ≡ e
err-same d e h = cc h

module _ (old new : Reading) (e : handshake_error) (turns : List CredentialCall) (alone : old.held.persists ≡ false)
    (u : AreUnanswered turns) (z : new.failures ≡ 0) where
  abbrev verdict : Result Discovery (List ℕ)
  verdict = discovery old.held.accepted (next_pieces old)

  -- in its refs
  module _ (mid : Reading) (found : SetServiceResponse) (s : AdvertisedSo old.held.accepted (next_pieces old) mid found) where
    unread-refs : (x : parse_error) (v : verdict ≡ Err (codes "ParseRefs")) → e ≡ from_parse x → IsDiscovered verdict (Err e)
    unread-refs x v q = named-ends verdict (codes "ParseRefs") e v
        (subst (λ y. (handshake_name y ≡ codes "ParseRefs") ⊎ (y ≡ handshake.Memory)) (sym q) (named-parse x))

    by-table : (t : Result (List Symref) RefsRefusal) → symref_table s.what.capabilities ≡ t → verdict ≡ by_symrefs s.what
        (symref_table s.what.capabilities) → (x : parse_error) → AnswersRefs symref_values t (Err x) → e ≡ from_parse x
        → IsDiscovered verdict (Err e)
    by-table (Ok t) q v x a f = memory-ends verdict e (f ∙ ap from_parse a)
    by-table (Err r) q v x a f = unread-refs x (v ∙ ap (by_symrefs s.what) q) f

    by-lines : (t : List Symref) → verdict ≡ with_refs s.what (v1_refs t (lines_from_stop s.what.stopped s.what.version s.what.rest))
        → (x : parse_error) → V1Fails t true mid new x → e ≡ from_parse x → IsDiscovered verdict (Err e)
    by-lines t v x (inr n) f = memory-ends verdict e (f ∙ ap from_parse n.error)
    by-lines t v x (inl (inl l)) f =
        unread-refs x
        (v ∙ ap (with_refs s.what) (ap (v1_refs t) (lines-advertised old.held.accepted (next_pieces old) mid found s)
        ∙ if-known (λ p. v1_refs t (lines_ahead mid p) ≡ Err l.refusal) mid.to_come s.what.rest s.answers.rest l.first)) f
    by-lines t v x (inl (inr (inl l))) f =
        unread-refs x
        (v ∙ ap (with_refs s.what) (ap (v1_refs t) (lines-advertised old.held.accepted (next_pieces old) mid found s) ∙ if-known
        (λ p. v1_refs t (lines_ahead mid p) ≡ Err (refusal_from l.refusal)) mid.to_come s.what.rest s.answers.rest l.first)) f
    by-lines t v x (inl (inr (inr (inl l)))) f =
        memory-ends verdict e (f ∙ ap from_parse (memory-read x (l.error ∙ outside l.now new l.refusal z l.failed (l.is_plain refl))))
    by-lines t v x (inl (inr (inr (inr l)))) f = memory-ends verdict e (f ∙ ap from_parse l.error)

    by-refusal : (x : parse_error) → AdvertisementFails found.capabilities true mid new x
        → verdict ≡ by_symrefs s.what (symref_table s.what.capabilities) → e ≡ from_parse x → IsDiscovered verdict (Err e)
    by-refusal x (inl a) v f =
        by-table (symref_table found.capabilities) (ap symref_table (sym s.answers.capabilities)) v x a.1 f
    by-refusal x (inr a) v f = by-lines a.0 (v ∙ ap (by_symrefs s.what) (ap symref_table (sym s.answers.capabilities) ∙ a.1)) x a.2 f

    by-first : (follow : Bool) → verdict ≡ by_refs follow s.what → ReadsFirst follow found true mid new (Err e)
        → IsDiscovered verdict (Err e)
    by-first false v f = absurd f
    by-first true v f = by-refusal f.0 f.1 v f.2

    -- or at its version
    by-version : (ok : Bool) → is_accepted old.held.accepted found.actual_protocol ≡ ok → KeepsVersion ok found true mid new (Err e)
        → IsDiscovered verdict (Err e)
    by-version true q k =
        by-first found.has_refs (advertised-so old.held.accepted (next_pieces old) mid found s true q
        ∙ ap (λ b. by_refs b s.what) (sym s.answers.has_refs)) k.0
    by-version false q k =
        named-ends verdict (codes "TransportProtocolPolicyViolation") e
        (advertised-so old.held.accepted (next_pieces old) mid found s false q) (inl (ap handshake_name (err-same e _ k.1)))

  -- or before it
  by-opening : (opened : OpeningResult) (d : handshake_error) (mid : Reading) → opened ≡ err_opened d
      → FinishesHandshake old.held.accepted opened true mid new (Err e) → (new ≡ mid) × (e ≡ d)
  by-opening opened d mid q g = let h = subst (λ o. FinishesHandshake old.held.accepted o true mid new (Err e)) q g in
      (h.0, err-same e d h.1)

  module _ (opened : OpeningResult) (mid : Reading) (g : FinishesHandshake old.held.accepted opened true mid new (Err e)) where
    for-memory : opened ≡ err_opened handshake.Memory → IsDiscovered verdict (Err e)
    for-memory q = memory-ends verdict e (by-opening opened handshake.Memory mid q g).1

    unheard : (c : client_error) → Unsaid (next_pieces old) c ⊎ (c ≡ client.Memory) → e ≡ from_client c → IsDiscovered verdict (Err e)
    unheard c (inl s) q =
        named-ends verdict (codes "Transport") e (ap (by_advertisement old.held.accepted) s.advertised)
        (subst (λ y. (handshake_name y ≡ codes "Transport") ⊎ (y ≡ handshake.Memory)) (sym q) (named-client c))
    unheard c (inr m) q = memory-ends verdict e (q ∙ ap from_client m)

    -- an account would be wanted for a failure that is counted
    by-denial : (denied : Bool) (c : client_error) (now : Reading) → is_denied c ≡ denied → Handshakes UploadPack [] old now (Err c)
        → Denied denied c UploadPack [] now mid turns opened → IsDiscovered verdict (Err e)
    by-denial false c now q h d =
        let o = by-opening opened (from_client c) mid d.2 g in
        unheard c (unsaid old now c (ap (λ (r : Reading). r.failures) (sym (o.0 ∙ d.1)) ∙ z)
        (subst (λ p. HandshakesBy p UploadPack [] old now (Err c)) alone h)) o.1
    by-denial true c now q h (inr n) = for-memory n.error
    by-denial true c now q h (inl l) =
        let answered = subst AreUnanswered l.all u in
        let got : Got UploadPack [] (Ok None) now.held.url now mid l.later opened =
        subst (λ a. Got UploadPack [] a now.held.url now mid l.later opened) answered.0 l.got in
        let o = by-opening opened handshake.EmptyCredentials mid got.2 g in
        let x = unsaid old now c (ap (λ (r : Reading). r.failures) (sym (o.0 ∙ got.1)) ∙ z)
        (subst (λ p. HandshakesBy p UploadPack [] old now (Err c)) alone h) in
        absurd (true≢false (sym q ∙ not-denied c (next_pieces old) x))

    by-call : (first : Result SetServiceResponse client_error) (now : Reading) → Handshakes UploadPack [] old now first
        → First first UploadPack [] now mid turns opened → IsDiscovered verdict (Err e)
    by-call (Err c) now h f = by-denial (is_denied c) c now refl h f
    by-call (Ok found) now h f =
        let receives = receives-by UploadPack [] old.held.persists old now found alone h in
        let k = subst (λ o. FinishesHandshake old.held.accepted o true mid new (Err e)) f.2 g in
        by-version now found (is-advertised old now found receives) (is_accepted old.held.accepted found.actual_protocol) refl
        (subst (λ r. KeepsVersion (is_accepted old.held.accepted found.actual_protocol) found true r new (Err e)) f.1 k)

    by-opens : Opens UploadPack [] old mid turns opened ⊎ StopsForMemory old mid turns opened → IsDiscovered verdict (Err e)
    by-opens (inr n) = for-memory n.error
    by-opens (inl o) = by-call o.0 o.1 o.2 o.3

-- a handshake without an account that counts no failure ends as is discovered
pub ends-discovered : (old new : Reading) (r : Result Handshake handshake_error) → old.held.persists ≡ false → new.failures ≡ 0
    → GreetsWithoutAccount true old new r → IsDiscovered (discovery old.held.accepted (next_pieces old)) r
ends-discovered old new (Ok h) alone z g = let d = discovers true old new h alone g in subst (λ w. IsDiscovered w (Ok h)) (sym d.so) d.has
ends-discovered old new (Err e) alone z g =
    by-opens old new e g.turns alone g.unanswered z g.shakes.opened g.shakes.mid g.shakes.goes_on g.shakes.opens

pub greetings-follow : GreetingsFollow
greetings-follow bodies r x =
    subst (λ (s : TransportState). IsDiscovered (discovery s.accepted (answer_pieces (first_answer s.answers))) r)
    (new-held bodies x.transport x.over)
    (ends-discovered (bodies_reading x.transport) x.last r refl x.unfailed x.greets)
