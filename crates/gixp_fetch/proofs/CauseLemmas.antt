-- The cause of a failed fetch, by its error.
use Rattle.std.proofs.Common.{◌≡◌, ◌⊎◌, inl, inr, arith, ℕ, suc, ◌+◌, Bool, true, false, not, List, [], ◌∷◌, ◌++◌, length, refl, sym, ap, subst, ◌∙◌, Option, Some, None}
use Rattle.std.specs.Prelude.{Ok, Err, ℤ, IfSome, codes, ◌||◌, ◌&&◌, if◌then◌else◌}
use Rattle.std.proofs.lemmas.List.{append-nil, length-append}
use Rattle.std.proofs.lemmas.Bool.{false≢true}
use Rattle.gixp_hash.specs.declared.object_id.ObjectId.{ObjectId}
use Rattle.gixp_packetline.specs.declared.protocol.Protocol.{Protocol}
use Rattle.gixp_packetline.specs.declared.read.Error.{Error as read_error}
use Rattle.gixp_packetline.specs.declared.read.Error.TheVariants.{Memory as read_memory}
use Rattle.gixp_packetline.specs.FrameText.{texts_of}
use Rattle.gixp_packetline.specs.Items.{is_stop}
use Rattle.gixp_packetline.specs.Pieces.{Refusal, unexpected_frame, Piece, line, mark, Pieces, no_pieces}
use Rattle.gixp_packetline.specs.Lines.{refusal as ends_refused, gives, stops, refuses, next_from, next_of, lines_from}
use Rattle.gixp_packetline.specs.Reading.{Reading, Fails as reader_fails, refusal_of, lines_ahead, lines_from_stop}
use Rattle.gixp_capabilities.specs.declared.client.Error.{Error as client_error}
use Rattle.gixp_capabilities.specs.declared.client.Error.TheVariants.{Memory as client_memory}
use Rattle.gixp_sidebands.specs.Bands.{side_reading}
use Rattle.gixp_sidebands.specs.Questions.{one_if, PollsEach, Asked, TakesTexts}
use Rattle.gixp_response.specs.ResponseError.{answer_refusal, is_interruption}
use Rattle.gixp_response.specs.declared.fetch.response.error.Error.{Error as answer_error}
use Rattle.gixp_response.specs.declared.fetch.response.error.Error.TheVariants.{Memory as answer_memory}
use Rattle.gixp_shallow.specs.declared.update.ShallowUpdate.{ShallowUpdate}
use Rattle.gixp_response.specs.Features.{Feature, missing_feature, Misses}
use Rattle.gixp_response.specs.Beginnings.{expected as flags}
use Rattle.gixp_response.specs.AnswerReading.{answer_of}
use Rattle.gixp_requests.specs.Command.{TableValue}
use Rattle.gixp_requests.specs.Feature.{FeatureValue, feature_values, has_feature}
use Rattle.gixp_requests.specs.Arguments.{ArgumentsValue, is_v2, can_use, can_use_deepening, can_use_include_tag, asks_nothing, asks_include_tag, asks_shallow, asks_deepen, asks_deepen_since, asks_deepen_relative, id_text}
use Rattle.gixp_requests.specs.Request.{request}
use Rattle.gixp_refmap.specs.declared.fetch.Tags.{Tags}
use Rattle.gixp_refmap.specs.declared.fetch.Tags.TheVariants.{Included, All, None as no_tags}
use Rattle.gixp_negotiate.specs.declared.negotiate.Round.{Round}
use Rattle.gixp_negotiate.specs.declared.negotiate.Error.{Error as negotiate_error}
use Rattle.gixp_negotiate.specs.declared.negotiate.Error.TheVariants.{NegotiationFailed, Memory as negotiate_memory}
use Rattle.gixp_negotiate.specs.Negotiate.{IsOwn}
use Rattle.gixp_shallow.specs.declared.store.ShallowError.{ShallowError}
use Rattle.gixp_shallow.specs.declared.store.ShallowError.TheVariants.{Memory as store_memory}
use Rattle.gixp_fetch.specs.declared.error.Error.{Error}
use Rattle.gixp_fetch.specs.declared.error.Error.TheVariants.{FetchResponse, Negotiate, Client, MissingServerFeature, WriteShallowFile, ReadShallowFile, LockShallowFile, RejectShallowRemote, ConsumePack, ReadRemainingBytes, Memory}
use Rattle.gixp_fetch.specs.declared.receive.PackFailure.{PackFailure}
use Rattle.gixp_fetch.specs.declared.receive.PackFailure.TheVariants.{Consumer, Rest}
use Rattle.gixp_fetch.specs.FetchError.{of_response, of_client, of_negotiate, of_read, of_lock, of_store_read, of_write}
use Rattle.gixp_fetch.specs.FetchRounds.{At, Turn, Manner, Rounds, Interrupts, DoneWithout, TurnFails, RoundsFail, Breaks, AsksBroken, before_request, at_request, after_request, at_answer, after_answer}
use Rattle.gixp_fetch.specs.FetchShallow.{Asking, ShallowValue, no_change, at_remote, deepens, since, excludes, is_change, is_some_id, if_can, with_boundary, with_excluded, asks_since, asks_excluded, then_asks, asks_depth, shallow_asks, IsMissing, description_of}
use Rattle.gixp_fetch.specs.Prepare.{PrepareFails, no_room, unneeded, untagged, LocksFirst, ReleasesIf, asks_tags}
use Rattle.gixp_fetch.specs.Receive.{DrainFails}
use Rattle.gixp_fetch.specs.Received.{PackRefused, of_pack}
use Rattle.gixp_fetch.specs.View.{view, view_plain, AsksThrough}
use Rattle.gixp_fetch.specs.Kept.{PollsGoOn}
use Rattle.gixp_fetch.specs.Sent.{request_of, requests_of, WroteRequests}
use Rattle.gixp_shallow.specs.Store.{to_lock}
use Rattle.gixp_fetch.specs.Session.{OpenFails, ReadyFails, is_any, HoldsBy, UnheldBy, DeliverFails, at_lock, at_pack, at_boundary}
use Rattle.gixp_fetch.specs.Fetch.{World, Parties, Rests, FetchFails, unopened, unready, unpacked, untold, undelivered}
use Rattle.gixp_fetch.specs.Fetched.{FetchCall, features, StartFails, unprepared, unlocked, Fetches}
use Rattle.gixp_fetch.specs.Sessions.{AreAnswers, manner_of, RefusesPack}
use Rattle.gixp_fetch.specs.Causes.{EndsShort, StopsShort, AsksPackets, AsksAnswer, IsGivenBack, LacksRequired, AnswerRefused, RequestRefused, NegotiationRefused, BoundaryUnread, BoundaryUnwritten, LockRefused, FeatureLacked, RestRefused, IsCause}
use Rattle.gixp_fetch.proofs.SentLemmas.{one_request, both_written, rounds_written, last_written}
use Rattle.gixp_fetch.proofs.SessionLemmas.{fails_held, is_answer, rounds_answers, count_same, count_more, refuses_pack, packed_running, begin_at}
use Rattle.gixp_fetch.proofs.KeptLemmas.{may_change, stays_same, goes_each}
use Rattle.gixp_fetch.proofs.HeadlineLemmas.{answers_refused}

-- ---- the end of the lines after a pack

-- the next error ends the lines
ends_refused_by : (v : Protocol) (list : List Piece) (end e : Refusal) → next_from v list end ≡ refuses e
    → (lines_from v list end).ending ≡ ends_refused e
ends_refused_by v [] end e h = cc
ends_refused_by v (line text ∷ ps) end e h = cc
ends_refused_by v (mark kind ∷ ps) end e h = by_stop (is_stop v kind) refl h
  where
    by_stop : (b : Bool) → is_stop v kind ≡ b
        → (if b then stops kind (record { list = ps; end = end }) else refuses unexpected_frame) ≡ refuses e
        → (lines_from v (mark kind ∷ ps) end).ending ≡ ends_refused e
    by_stop true s f = cc
    by_stop false s f = cc

short_by : (old new : Reading) (e : read_error) → DrainFails old new e → StopsShort old new (refusal_of e)
short_by old new e d =
    record { why = by d.refused; version = version d.refused ∙ d.passed.version; held = fails_held _ _ _ d.refused ∙ d.passed.held }
  where
    version : reader_fails d.now new (refusal_of e) → new.version ≡ d.now.version
    version (inl r) = r.version
    version (inr (inl f)) = f.stays.version
    version (inr (inr b)) = b.version

    flip : (o n : Option Pieces) → IfSome o (λ p. (q : Pieces) × (n ≡ Some q) × ((lines_ahead old p).ending ≡ (lines_ahead d.now q).ending))
        → IfSome o (λ p. (q : Pieces) × (n ≡ Some q) × ((lines_ahead d.now q).ending ≡ (lines_ahead old p).ending))
    flip None n h = tt
    flip (Some p) n h = (h.0, h.1, sym h.2)

    ahead : (o n : Option Pieces) → d.now.stopped ≡ None
        → IfSome o (λ p. (q : Pieces) × (n ≡ Some q) × ((lines_ahead old p).ending ≡ (lines_ahead d.now q).ending))
        → IfSome n (λ p. (new.to_come ≡ Some (no_pieces (refusal_of e))) × (next_of d.now.version p ≡ refuses (refusal_of e)))
        → IfSome o (λ p. (lines_ahead old p).ending ≡ ends_refused (refusal_of e))
    ahead None n s h g = tt
    ahead (Some p) None s h g = absurd (let x = h.1 in cc)
    ahead (Some p) (Some r) s h g =
        let same : h.0 ≡ r = let x = h.1 in cc in
        h.2 ∙ (ap (λ z. (lines_ahead d.now z).ending) same
        ∙ (ap (λ z. (lines_from_stop z d.now.version r).ending) s ∙ ends_refused_by d.now.version r.list r.end (refusal_of e) g.1))

    by : reader_fails d.now new (refusal_of e) → EndsShort old new (refusal_of e)
    by (inl r) = inl (ahead old.to_come d.now.to_come r.running d.passed.rest r.next, r.failures ∙ d.passed.failures)
    by (inr o) = inr (d.now, o, d.passed.failures, flip old.to_come d.now.to_come d.passed.rest)

-- ---- features

or_false : (a b : Bool) → (a || b) ≡ false → b ≡ false
or_false true b e = absurd (false≢true (sym e))
or_false false b e = e

lacked_by : (b : Bool) (name asked : List ℕ) (a : ArgumentsValue) → if_can b name a ≡ Err asked → (b ≡ false) × (asked ≡ name)
lacked_by true name asked a e = absurd (let x = e in cc)
lacked_by false name asked a e = (refl, (let x = e in cc))

lacks_tags : (tags : Tags) (table : TableValue) (version : Protocol) (features : List FeatureValue) (name : List ℕ)
    → asks_tags tags (asks_nothing table version features) ≡ Err name → has_feature name features ≡ false
lacks_tags Included table version features name e =
    let l = lacked_by (can_use_include_tag (asks_nothing table version features)) (codes "include-tag") name
    (asks_include_tag (asks_nothing table version features)) e in
    ap (λ n. has_feature n features) l.1 ∙ or_false (is_v2 version) (has_feature (codes "include-tag") features) l.0
lacks_tags All table version features name e = absurd (let x = e in cc)
lacks_tags no_tags table version features name e = absurd (let x = e in cc)

asked_by : (b : Bool) (name : List ℕ) (a c : ArgumentsValue) → if_can b name a ≡ Ok c → c ≡ a
asked_by true name a c e = cc
asked_by false name a c e = absurd (let x = e in cc)

tags_features : (tags : Tags) (table : TableValue) (version : Protocol) (features : List FeatureValue) (asked : ArgumentsValue)
    → asks_tags tags (asks_nothing table version features) ≡ Ok asked → asked.features ≡ features
tags_features Included table version features asked e =
    ap (λ (a : ArgumentsValue). a.features) (asked_by (can_use_include_tag (asks_nothing table version features)) (codes "include-tag")
    (asks_include_tag (asks_nothing table version features)) asked e) ∙ at (is_v2 version) (asks_nothing table version features)
  where
    at : (b : Bool) (a : ArgumentsValue) → (if b then record a { lines = a.lines ++ codes "include-tag" ∷ [] } else record a
        { include_tag = true }).features ≡ a.features
    at true a = refl
    at false a = refl
tags_features All table version features asked e = let x : asks_nothing table version features ≡ asked = cc in
    sym (ap (λ (a : ArgumentsValue). a.features) x)
tags_features no_tags table version features asked e = let x : asks_nothing table version features ≡ asked = cc in
    sym (ap (λ (a : ArgumentsValue). a.features) x)

boundary_features : (ids : List ObjectId) (a : ArgumentsValue) → (with_boundary ids a).features ≡ a.features
boundary_features [] a = refl
boundary_features (id ∷ ids) a = boundary_features ids (asks_shallow (id_text id) a)

module _ (a : ArgumentsValue) (can : has_feature (codes "shallow") a.features ≡ true) (name : List ℕ) where
  lacks_deepening : (feature : List ℕ) (b : ArgumentsValue) → if_can (can_use_deepening feature a) feature b ≡ Err name
      → has_feature name a.features ≡ false
  lacks_deepening feature b e =
      let l = lacked_by (can_use_deepening feature a) feature name b e in
      ap (λ n. has_feature n a.features) l.1 ∙ at (is_v2 a.version) l.0
    where
      at : (v : Bool) → (if v then has_feature (codes "shallow") a.features else has_feature feature a.features) ≡ false
          → has_feature feature a.features ≡ false
      at true q = absurd (false≢true (sym q ∙ can))
      at false q = q

  lacks_since : (t : Option ℤ) → asks_since t a ≡ Err name → has_feature name a.features ≡ false
  lacks_since None e = absurd (let x = e in cc)
  lacks_since (Some t) e = lacks_deepening (codes "deepen-since") (asks_deepen_since t a) e

  lacks_excluded : (names : List (List ℕ)) → asks_excluded names a ≡ Err name → has_feature name a.features ≡ false
  lacks_excluded [] e = absurd (let x = e in cc)
  lacks_excluded (n ∷ ns) e = lacks_deepening (codes "deepen-not") (with_excluded (n ∷ ns) a) e

since_features : (t : Option ℤ) (a b : ArgumentsValue) → asks_since t a ≡ Ok b → b.features ≡ a.features
since_features None a b e = let x : a ≡ b = cc in sym (ap (λ (a : ArgumentsValue). a.features) x)
since_features (Some t) a b e =
    ap (λ (a : ArgumentsValue). a.features) (asked_by (can_use_deepening (codes "deepen-since") a) (codes "deepen-since")
    (asks_deepen_since t a) b e)

lacks_depth : (s : ShallowValue) (a : ArgumentsValue) (name : List ℕ) → has_feature (codes "shallow") a.features ≡ true
    → asks_depth s a ≡ Err name → has_feature name a.features ≡ false
lacks_depth no_change a name can e = absurd (let x = e in cc)
lacks_depth (at_remote n) a name can e = absurd (let x = e in cc)
lacks_depth (deepens n) a name can e =
    lacks_deepening a can name (codes "deepen-relative") (asks_deepen_relative (asks_deepen n a)) e
lacks_depth (since t) a name can e = lacks_since a can name (Some t) e
lacks_depth (excludes names t) a name can e = at (asks_since t a) refl e
  where
    at : (r : Asking) → asks_since t a ≡ r → then_asks r (asks_excluded names) ≡ Err name → has_feature name a.features ≡ false
    at (Ok b) q e = ap (has_feature name) (sym (since_features t a b q))
        ∙ lacks_excluded b (ap (has_feature (codes "shallow")) (since_features t a b q) ∙ can) name names e
    at (Err n) q e = lacks_since a can name t (q ∙ e)

abbrev no_asking : List ℕ → Asking
no_asking name = Err name

same_asking : (a b : List ℕ) → no_asking a ≡ no_asking b → b ≡ a
same_asking a b e = cc

lacks_feature : (s : ShallowValue) (ids : List ObjectId) (a : ArgumentsValue) (name : List ℕ) → shallow_asks s ids a ≡ Err name
    → has_feature name a.features ≡ false
lacks_feature s ids a name e = at (can_use (codes "shallow") a) refl e
  where
    at : (b : Bool) → can_use (codes "shallow") a ≡ b
        → (if b then asks_depth s (with_boundary ids a) else if is_some_id ids || is_change s then Err (codes "shallow") else Ok a)
        ≡ Err name → has_feature name a.features ≡ false
    at true q e = ap (has_feature name) (sym (boundary_features ids a))
        ∙ lacks_depth s (with_boundary ids a) name (ap (has_feature (codes "shallow")) (boundary_features ids a) ∙ q) e
    at false q e = without (is_some_id ids || is_change s) e
      where
        without : (b : Bool) → (if b then Err (codes "shallow") else Ok a) ≡ Err name → has_feature name a.features ≡ false
        without true e = ap (λ n. has_feature n a.features) (same_asking (codes "shallow") name e) ∙ q
        without false e = absurd (let x = e in cc)

-- ---- the error by the lower layer's

module _ {A E : Type 0} where
  abbrev Fails_as : {F : Type 0} → (F → Error A E) → (F → Error A E) → F → F → Type 0
  Fails_as of by none e = (of e ≡ Memory) ⊎ ((of e ≡ by e) × (e ≡ none → ⊥))

  locks_as : (e : ShallowError) → Fails_as of_lock LockShallowFile store_memory e
  locks_as store_memory = inl refl
  locks_as e = inr (refl, λ q. cc)

  loads_as : (e : ShallowError) → Fails_as of_store_read ReadShallowFile store_memory e
  loads_as store_memory = inl refl
  loads_as e = inr (refl, λ q. cc)

  stores_as : (e : ShallowError) → Fails_as of_write WriteShallowFile store_memory e
  stores_as store_memory = inl refl
  stores_as e = inr (refl, λ q. cc)

  reads_as : (e : read_error) → Fails_as of_read ReadRemainingBytes read_memory e
  reads_as read_memory = inl refl
  reads_as e = inr (refl, λ q. cc)

  sends_as : (e : client_error) → Fails_as of_client Client client_memory e
  sends_as client_memory = inl refl
  sends_as e = inr (refl, λ q. cc)

  answers_as : (e : answer_error) → Fails_as of_response FetchResponse answer_memory e
  answers_as answer_memory = inl refl
  answers_as e = inr (refl, λ q. cc)

module _ {N I S A C P X : Type 0} (parties : Parties N I A S C P X) (call : FetchCall) (old new : World N I S C) (progress : P)
    (e : Error A X) where
  abbrev Cause : Error A X → Type 0
  Cause d = IsCause parties call old new progress d

  by_this : (d : Error A X) → e ≡ d → Cause d → Cause e
  by_this d g c = subst (λ x. Cause x) (sym g) c

  by_memory : e ≡ Memory → Cause e
  by_memory g = by_this Memory g tt

  by_lock : (x : ShallowError) → e ≡ of_lock x → LockRefused parties call old new x → Cause e
  by_lock x g r = at (locks_as x)
    where
      at : Fails_as {A = A} {E = X} of_lock LockShallowFile store_memory x → Cause e
      at (inl q) = by_memory (g ∙ q)
      at (inr q) = by_this (LockShallowFile x) (g ∙ q.0) (q.1, r)

  by_load : (x : ShallowError) → e ≡ of_store_read x → BoundaryUnread parties call old new x → Cause e
  by_load x g r = at (loads_as x)
    where
      at : Fails_as {A = A} {E = X} of_store_read ReadShallowFile store_memory x → Cause e
      at (inl q) = by_memory (g ∙ q)
      at (inr q) = by_this (ReadShallowFile x) (g ∙ q.0) (q.1, r)

  by_store : (x : ShallowError) → e ≡ of_write x → BoundaryUnwritten parties call old new x → Cause e
  by_store x g r = at (stores_as x)
    where
      at : Fails_as {A = A} {E = X} of_write WriteShallowFile store_memory x → Cause e
      at (inl q) = by_memory (g ∙ q)
      at (inr q) = by_this (WriteShallowFile x) (g ∙ q.0) (q.1, r)

  by_rest : (x : read_error) → e ≡ of_read x → RestRefused parties call old new x progress → Cause e
  by_rest x g r = at (reads_as x)
    where
      at : Fails_as {A = A} {E = X} of_read ReadRemainingBytes read_memory x → Cause e
      at (inl q) = by_memory (g ∙ q)
      at (inr q) = by_this (ReadRemainingBytes x) (g ∙ q.0) (q.1, r)

  by_client : (x : client_error) → e ≡ of_client x → RequestRefused parties call old new x → Cause e
  by_client x g r = at (sends_as x)
    where
      at : Fails_as {A = A} {E = X} of_client Client client_memory x → Cause e
      at (inl q) = by_memory (g ∙ q)
      at (inr q) = by_this (Client x) (g ∙ q.0) (q.1, r)

  by_answer : (x : answer_error) → e ≡ of_response x → LacksRequired parties call old new x ⊎ AnswerRefused parties call old new x → Cause e
  by_answer x g r = at (answers_as x)
    where
      at : Fails_as {A = A} {E = X} of_response FetchResponse answer_memory x → Cause e
      at (inl q) = by_memory (g ∙ q)
      at (inr q) = by_this (FetchResponse x) (g ∙ q.0) (q.1, r)

  by_negotiation : (x : negotiate_error A) → IsOwn x → e ≡ of_negotiate x → NegotiationRefused parties call old new x → Cause e
  by_negotiation (NegotiationFailed n) own g r = absurd own
  by_negotiation negotiate_memory own g r = by_memory g
  by_negotiation x own g r = by_this (Negotiate x) g (λ q. cc, r)

  by_missing : (name : List ℕ) → IsMissing name e
      → ((text : List ℕ) → text ≡ description_of name → FeatureLacked parties call old new name text)
      → Cause e
  by_missing name m l = at e refl m
    where
      at : (d : Error A X) → e ≡ d → IsMissing name d → Cause e
      at (MissingServerFeature f d) g m =
          by_this (MissingServerFeature f d) g (subst (λ n. FeatureLacked parties call old new n d.now) (sym m.0) (l d.now m.1))
      at d g m = absurd m

-- ---- whether a failed response asked the interrupt

module _ {I : Type 0} (polls : I → Bool → I → Type 0) where
  none_more : (xs : List I) (a b : I) → PollsEach polls xs false a b → PollsGoOn polls (length xs) a b
  none_more xs a b s =
      let k : length xs + 0 ≡ length xs = omega arith in
      subst (λ n. PollsGoOn polls n a b) k (goes_each polls xs a b b 0 s refl)

  -- all questions but the last
  parts : (xs : List I) (a b : I) → PollsEach polls xs true a b → (mid : I) × PollsEach polls xs false a mid × polls mid true b
  parts [] a b s = (a, refl, s)
  parts (x ∷ xs) a b s = let r = parts xs x b s.1 in (r.0, (s.0, r.1), r.2)

  packets_by : (reported : Bool) (old new : Reading) (a b : I) → Asked polls reported old new a b → AsksPackets polls reported old new a b
  packets_by false old new a b h =
      let k : length h.after + one_if false ≡ length h.after = omega arith in
      (length h.after, subst (λ n. IfSome old.to_come (TakesTexts n old new)) k h.each, none_more h.after a b h.polled)
  packets_by true old new a b h =
      let k : length h.after + one_if true ≡ suc (length h.after) = omega arith in
      let r = parts h.after a b h.polled in (
        length h.after,
        r.0,
        subst (λ n. IfSome old.to_come (TakesTexts n old new)) k h.each,
        none_more h.after a r.0 r.1,
        r.2,
      )

  asks_answer : (banded plain reported : Bool) (old new : Reading) (a b : I) → AsksThrough polls banded plain reported old new a b
      → AsksAnswer polls banded plain reported old new a b
  asks_answer false plain reported old new a b h = h
  asks_answer true plain reported old new a b (inl h) = inl (packets_by reported old new a b h)
  asks_answer true plain reported old new a b (inr h) = inr (h.0, h.1, packets_by false old new a b h.2)

-- ---- the lock

module _ {S : Type 0} (locks releases : S → S → Type 0) (s : ShallowValue) (old new : S) where
  locked_by : (c first : Bool) (held : S) → is_change s ≡ c → LocksFirst locks c old held first
      → ((s ≡ no_change) × (held ≡ old)) ⊎ ((s ≡ no_change → ⊥) × locks old held)
  locked_by true first held c l = inr (may_change s c, l.0)
  locked_by false first held c l = inl (stays_same s c, l.0)

  back_by : (c first : Bool) (held last : S) → is_change s ≡ c → LocksFirst locks c old held first → ReleasesIf releases first last new
      → ((s ≡ no_change) × (new ≡ last)) ⊎ ((s ≡ no_change → ⊥) × releases last new)
  back_by true first held last c l r = inr (may_change s c, subst (λ b. ReleasesIf releases b last new) l.1 r)
  back_by false first held last c l r = inl (stays_same s c, subst (λ b. ReleasesIf releases b last new) l.1 r)

  -- where the lock isn't taken first, the boundary may not change
  unlocked_by : (c : Bool) (held : S) → is_change s ≡ c → LocksFirst locks c old held false → (s ≡ no_change) × (held ≡ old)
  unlocked_by true held c l = absurd (false≢true l.1)
  unlocked_by false held c l = (stays_same s c, l.0)

-- ---- the whole fetch

requests_append : {N I : Type 0} (ts : List (Turn N I)) (t : Turn N I) → requests_of (ts ++ t ∷ []) ≡ requests_of ts ++ request_of t ∷ []
requests_append [] t = refl
requests_append (s ∷ ss) t = ap (λ rs. request_of s ∷ rs) (requests_append ss t)

module _ {N I S A C P X : Type 0} (parties : Parties N I A S C P X) (call : FetchCall) (old : World N I S C) (progress : P)
    (e : Error A X) where
  unstarted : (new : World N I S C) → StartFails parties call old e new → IsCause parties call old new progress e
  unstarted new (unprepared u s) = at u
    where
      lacks : (name : List ℕ) → has_feature name (features call) ≡ false → (text : List ℕ) → text ≡ description_of name
          → FeatureLacked parties call old new name text
      lacks name l text t = record {
        lacks = l;
        polls = t;
        negotiate = ap (λ (w : World N I S C). w.negotiate) s;
        reading = ap (λ (w : World N I S C). w.reading) s;
        interrupt = ap (λ (w : World N I S C). w.interrupt) s;
        consumer = ap (λ (w : World N I S C). w.consumer) s;
        store = inl (ap (λ (w : World N I S C). w.store) s);
      }

      misses : (raw : List Feature) → feature_values raw ≡ features call → (error : answer_error) (o : Option (List ℕ))
          → missing_feature call.version raw ≡ o → Misses o (Err error) → LacksRequired parties call old new error
      misses raw q error None o m = absurd m
      misses raw q error (Some name) o m = record { raw = raw; values = q; name = name; missing = o; error = m; rests = s }

      at : PrepareFails call.table call.version (features call) call.tags e → IsCause parties call old new progress e
      at (no_room m) = by_memory parties call old new progress e m
      at (unneeded raw q error m g) = by_answer parties call old new progress e error g
          (inl (misses raw q error (missing_feature call.version raw) refl m))
      at (untagged raw q n name a m) = by_missing parties call old new progress e name m
          (lacks name (lacks_tags call.tags call.table call.version (features call) name a))
  unstarted new (unlocked asked banded p m l s) =
      by_lock parties call old new progress e l.error l.gives (inl (may_change call.fetch_options.shallow m, l.refused))

  -- after the first arguments and the lock
  module _ (banded : Bool) (asked : ArgumentsValue) (held : S) (first : Bool) (last : World N I S C) (released : S)
      (bands : banded ≡ has_feature (codes "sideband-all") (features call)) (of : asked.features ≡ features call)
      (locks : LocksFirst parties.store_calls.locks (is_change call.fetch_options.shallow) old.store held first)
      (back : ReleasesIf parties.store_calls.releases last.locked last.store released) where
    abbrev new : World N I S C
    new = record last { store = released; locked = false }

    abbrev within : World N I S C
    within = record old { store = held; locked = first }

    abbrev Caused : Type 0
    Caused = IsCause parties call old new progress e

    abbrev how : Manner N I A
    how = manner_of parties call banded

    back_as : last.locked ≡ first → IsGivenBack parties call old new last.store
    back_as l = back_by parties.store_calls.locks parties.store_calls.releases call.fetch_options.shallow old.store released
        (is_change call.fetch_options.shallow) first held last.store refl locks
        (subst (λ b. ReleasesIf parties.store_calls.releases b last.store released) l back)

    unopened_cause : OpenFails parties.store_calls call.fetch_options.shallow held asked e last.store → last.negotiate ≡ old.negotiate
        → Rests parties call.version banded call.fetch_options asked within last → Caused
    unopened_cause (inl b) n r = by_load parties call old new progress e b.error b.gives (record {
      held = held;
      first = locked_by parties.store_calls.locks parties.store_calls.releases call.fetch_options.shallow old.store released
          (is_change call.fetch_options.shallow) first held refl locks;
      last = last.store;
      refused = b.refused;
      back = back_as r.locked;
      negotiate = n;
      reading = r.reading;
    })
    unopened_cause (inr u) n r = at u.why
      where
        at : ((name : List ℕ) × (shallow_asks call.fetch_options.shallow u.ids asked ≡ Err name) × IsMissing name e) ⊎ (e ≡ Memory) → Caused
        at (inr m) = by_memory parties call old new progress e m
        at (inl (name, a, m)) = by_missing parties call old new progress e name m (λ text t. record {
          lacks = ap (has_feature name) (sym of) ∙ lacks_feature call.fetch_options.shallow u.ids asked name a;
          polls = t;
          negotiate = n;
          reading = r.reading;
          interrupt = r.interrupt;
          consumer = r.consumer;
          store = inr (
            u.ids,
            held,
            last.store,
            locked_by parties.store_calls.locks parties.store_calls.releases call.fetch_options.shallow old.store released
                (is_change call.fetch_options.shallow) first held refl locks,
            u.reads,
            back_as r.locked,
          );
        })

    unready_cause : (a : ArgumentsValue) → ReadyFails parties.negotiation_calls old.negotiate a e last.negotiate → Caused
    unready_cause a (inl u) = by_negotiation parties call old new progress e u.error u.own u.gives (inl u.refused)
    unready_cause a (inr u) = by_negotiation parties call old new progress e u.error u.own u.gives
        (inr (inl (u.known, u.marked, a, u.asked, u.marks, u.refused)))

    -- ---- rounds
    module _ (ready : N) (wanted : ArgumentsValue) where
      abbrev begun_at : At N I
      begun_at = begin_at parties old ready wanted

      unanswered_cause : (turns : List (Turn N I)) (before : At N I) (i : I) → Rounds how begun_at turns before
          → parties.polls before.interrupt false i
          → TurnFails how (record before { interrupt = i }) e last.negotiate last.reading last.interrupt → Caused
      unanswered_cause turns before i run polled (inl u) = by_negotiation parties call old new progress e u.error u.own u.gives
          (inr (inr (
            before.negotiate,
            before.window,
            before.asked,
            before.previous,
            u.window,
            u.asked,
            u.refused,
            (
              requests_of turns,
              subst (λ (x : Reading). WroteRequests old.reading x (requests_of turns)) (sym u.position)
                  (rounds_written how begun_at before turns run),
            ),
            (before.interrupt, subst (λ x. parties.polls before.interrupt false x) (sym u.unasked) polled),
          )))
      unanswered_cause turns before i run polled (inr b) = at b.breaks b.asks
        where
          at : (k : Breaks how (record before { interrupt = i }) b.asked b.done e last.reading) → AsksBroken how k last.interrupt → Caused
          at (before_request m r) asks = by_memory parties call old new progress e m
          at (at_request error s g) asks = by_client parties call old new progress e error g (record {
            before = before.reading;
            requests = requests_of turns;
            wrote = rounds_written how begun_at before turns run;
            asked = b.asked;
            done = b.done;
            refused = s;
            asks = (before.interrupt, subst (λ x. parties.polls before.interrupt false x) (sym asks) polled);
          })
          at (after_request s m) asks = by_memory parties call old new progress e m.1
          at (at_answer sent s error a h g) asks = by_answer parties call old new progress e error g (inr (record {
            banded = banded;
            bands = bands;
            requests = requests_of turns ++ texts_of (request b.asked b.done) ∷ [];
            sent = sent;
            wrote = both_written old.reading before.reading sent (requests_of turns) (texts_of (request b.asked b.done) ∷ [])
                (rounds_written how begun_at before turns run)
                (one_request before.reading sent (texts_of (request b.asked b.done)) s.1);
            done = b.done;
            why = answers_refused (answer_of call.version (flags b.done (not b.done))) (view_plain banded parties.plain) (view banded sent)
                (view banded last.reading) error a;
            held = h;
            before = before.interrupt;
            first = i;
            goes_on = polled;
            asks = asks_answer parties.polls banded parties.plain (is_interruption (answer_refusal error)) sent last.reading i last.interrupt
                asks;
          }))
          at (after_answer sent s reply a h m) asks = by_memory parties call old new progress e m

      packless_cause : (rounds : List Round) (n : ℕ) (end : At N I) → n ≡ length rounds → e ≡ Negotiate (NegotiationFailed n)
          → last.reading ≡ end.reading → last.interrupt ≡ end.interrupt
          → Interrupts how begun_at rounds end ⊎ DoneWithout how begun_at rounds end → Caused
      packless_cause rounds n end c g r i (inl d) = by_this parties call old new progress e (Negotiate (NegotiationFailed n)) g (record {
        banded = banded;
        turns = d.turns;
        count = count_same d.turns rounds n c d.reported;
        answers = subst (λ ts. AreAnswers call.version banded ts) (append-nil d.turns)
            (rounds_answers how begun_at d.before d.turns [] d.run tt);
        wrote = subst (λ (x : Reading). WroteRequests old.reading x (requests_of d.turns))
            (sym (r ∙ ap (λ (a : At N I). a.reading) d.position)) (rounds_written how begun_at d.before d.turns d.run);
        why = inl (d.before.interrupt, subst (λ x. parties.polls d.before.interrupt true x) (sym i) d.polled);
      })
      packless_cause rounds n end c g r i (inr d) = by_this parties call old new progress e (Negotiate (NegotiationFailed n)) g (record {
        banded = banded;
        turns = d.turns ++ d.last ∷ [];
        count = count_more d.turns d.last.round rounds n c d.reported ∙ sym (length-append d.turns (d.last ∷ []));
        answers = rounds_answers how begun_at d.before d.turns (d.last ∷ []) d.run (is_answer _ _ _ _ _ d.lasts.answer, tt);
        wrote = subst (λ (x : Reading). WroteRequests old.reading x (requests_of (d.turns ++ d.last ∷ [])))
            (sym (r ∙ ap (λ (a : At N I). a.reading) d.position))
            (subst (λ rs. WroteRequests old.reading d.last.after.reading rs) (sym (requests_append d.turns d.last))
            (last_written how begun_at d.before d.turns d.last d.run d.lasts));
        why = inr (d.turns, d.last, refl, d.done, d.no_pack);
      })

      unpacked_cause : (rounds : List Round) → RoundsFail how begun_at e rounds last.negotiate last.reading last.interrupt → Caused
      unpacked_cause rounds (inl f) = packless_cause rounds f.count f.end f.counted f.gives f.reads f.asks f.ends
      unpacked_cause rounds (inr (inl l)) = unanswered_cause l.turns l.before l.asked l.run l.polled l.refused
      unpacked_cause rounds (inr (inr u)) = by_memory parties call old new progress e u.gives

    -- ---- after a pack
    module _ (ids : List ObjectId) (read : S) (reads : parties.store_calls.reads held ids read) (us : List ShallowUpdate)
        (from : Reading) (stopped : from.stopped ≡ None) where
      unheld_cause : (c u reject had : Bool) → is_change call.fetch_options.shallow ≡ c → call.fetch_options.reject ≡ reject → first ≡ had
          → LocksFirst parties.store_calls.locks c old.store held had
          → UnheldBy parties.store_calls (u && not had) reject read had e last.store last.locked → last.consumer ≡ old.consumer → Caused
      unheld_cause c u reject true d j f l h k = absurd (never u h)
        where
          never : (u : Bool) → UnheldBy parties.store_calls (u && false) reject read true e last.store last.locked → ⊥
          never true h = h
          never false h = h
      unheld_cause c false reject false d j f l h k = absurd h
      unheld_cause c true true false d j f l h k =
          let x = unlocked_by parties.store_calls.locks parties.store_calls.releases call.fetch_options.shallow old.store released c held d l in
          let same : released ≡ read = subst (λ b. ReleasesIf parties.store_calls.releases b last.store released) h.2 back ∙ h.1 in
          by_this parties call old new progress e RejectShallowRemote h.0 (
            x.0,
            j,
            (
              ids,
              subst (λ s. parties.store_calls.reads s ids released) x.1
                  (subst (λ s. parties.store_calls.reads held ids s) (sym same) reads),
            ),
            k,
          )
      unheld_cause c true false false d j f l h k =
          let x = unlocked_by parties.store_calls.locks parties.store_calls.releases call.fetch_options.shallow old.store released c held d l in
          let same : released ≡ last.store = subst (λ b. ReleasesIf parties.store_calls.releases b last.store released) h.3 back in
          by_lock parties call old new progress e h.0 h.2 (inr (
            x.0,
            j,
            ids,
            read,
            subst (λ s. parties.store_calls.reads s ids read) x.1 reads,
            subst (λ s. parties.store_calls.failures to_lock read h.0 s) (sym same) h.1,
          ))

      untaken_cause : PackRefused parties.consumes old.consumer from e last.consumer last.reading progress → Caused
      untaken_cause u = at u.error u.gives
          (refuses_pack parties old.consumer from last.consumer last.reading progress
          u.name u.asks u.p u.error u.end stopped u.fails u.back)
        where
          at : (x : PackFailure X) → e ≡ of_pack x → RefusesPack parties old.consumer from x last.consumer last.reading progress → Caused
          at (Consumer x) g r = by_this parties call old new progress e (ConsumePack x) g (from, r)
          at (Rest x) g r = by_rest parties call old new progress e x g (record {
            from = from;
            left = r.0;
            end = r.1;
            takes = r.2;
            short = short_by (side_reading r.0) (side_reading r.1) x r.3;
            back = r.4;
          })

      had_lock : (had u reject : Bool) (mid : S) → u ≡ true → HoldsBy parties.store_calls (u && not had) reject read had mid last.locked
          → last.locked ≡ true
      had_lock true true reject mid q h = h.1
      had_lock true false reject mid q h = absurd (false≢true q)
      had_lock false true true mid q h = absurd h
      had_lock false true false mid q h = h.1
      had_lock false false reject mid q h = absurd (false≢true q)

      undelivered_cause : DeliverFails parties.store_calls parties.consumes ids us call.fetch_options.reject old.consumer read first from e
          last.consumer last.store last.locked last.reading progress → Caused
      undelivered_cause (at_lock h d r) = unheld_cause (is_change call.fetch_options.shallow) (is_any us) call.fetch_options.reject first refl refl refl
          locks h d
      undelivered_cause (at_pack h (inl u)) = untaken_cause u
      undelivered_cause (at_pack h (inr m)) = by_memory parties call old new progress e m.0
      undelivered_cause (at_boundary mid h r (some, inl m)) = by_memory parties call old new progress e m.0
      undelivered_cause (at_boundary mid h r (some, inr (x, f, g))) = by_store parties call old new progress e x g (
        mid,
        last.store,
        f,
        subst (λ b. ReleasesIf parties.store_calls.releases b last.store released)
            (had_lock first (is_any us) call.fetch_options.reject mid some h) back,
      )

    fails_cause : FetchFails parties call.version banded call.fetch_options asked within e last progress → Caused
    fails_cause (unopened o n r) = unopened_cause o n r
    fails_cause (unready ids a o f r) = unready_cause a f
    fails_cause (unpacked rounds u l c) = unpacked_cause u.ready u.wanted rounds u.fails
    fails_cause (untold ids action rounds updates reply end g m n r i l c) = by_memory parties call old new progress e m
    fails_cause (undelivered ids read action rounds updates reply end g n d) =
        undelivered_cause ids read g.begun.opened.reads (updates ++ call.fetch_options.reported) end.reading
        (packed_running parties how (begin_at parties old g.ready g.wanted) rounds updates reply end g.packed) d

  pub caused : (new : World N I S C) → Fetches parties call old (Err e) new progress → IsCause parties call old new progress e
  caused new (inl u) = unstarted new u
  caused new (inr h) = subst (λ (w : World N I S C). IsCause parties call old w progress e) (sym h.position)
      (fails_cause h.banded h.asked h.held h.first h.last new.store h.prepared.bands
      (tags_features call.tags call.table call.version (features call) h.asked h.prepared.asks) h.locks h.releases h.meets)
