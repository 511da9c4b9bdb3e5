-- The rounds of two fetches whose negotiators offer the same list, and which count no failure: each sends the same, and takes the same
-- answer.
use Rattle.std.proofs.Common.{◌≡◌, Bool, true, false, not, List, [], ◌∷◌, ◌++◌, Option, Some, sym, ap, ◌∙◌, subst, true≢false}
use Rattle.std.specs.Prelude.{ℕ}
use Rattle.gixp_hash.specs.declared.object_id.ObjectId.{ObjectId}
use Rattle.gixp_packetline.specs.FrameText.{texts_of}
use Rattle.gixp_packetline.specs.TransportState.{TransportState}
use Rattle.gixp_shallow.specs.declared.update.ShallowUpdate.{ShallowUpdate}
use Rattle.gixp_response.specs.Answer.{AnswerValue}
use Rattle.gixp_response.specs.AnswerReading.{answer_of, Answered}
use Rattle.gixp_response.specs.Beginnings.{expected as flags}
use Rattle.gixp_requests.specs.Arguments.{ArgumentsValue}
use Rattle.gixp_requests.specs.Request.{request, sent_off}
use Rattle.gixp_negotiate.specs.declared.negotiate.Round.{Round}
use Rattle.gixp_negotiate.specs.Negotiate.{Window}
use Rattle.gixp_fetch.specs.FetchRounds.{At, Turn, Manner, Turns, Rounds, Packed}
use Rattle.gixp_fetch.specs.Sent.{request_of, requests_of}
use Rattle.gixp_fetch.specs.View.{view}
use Rattle.gixp_fetch.proofs.SentLemmas.{last_written}
use Rattle.gixp_planner.proofs.MappedLemmas.{AreAlike, HoldAlike, sent-alike}
use Rattle.gixp_planner.proofs.AnswerLemmas.{viewed, view-come, view-failures, same-answer, sent-failures, answered-version, answered-none}
use Rattle.gixp_planner.proofs.ListRoundLemmas.{ListRound, same-round}

-- the same ids are left, the same is asked for, and the same was sent and answered
pub record AtAlike {N I : Type 0} (haves : N → List ObjectId) (x y : At N I) : Type 0 where
  pub left : haves x.negotiate ≡ haves y.negotiate
  pub window : x.window ≡ y.window
  pub asked : x.asked ≡ y.asked
  pub previous : x.previous ≡ y.previous
  pub reading : HoldAlike x.reading y.reading

-- rounds of both sent the same, and the same is to come
record AsksAlike {N I : Type 0} (haves : N → List ObjectId) (t u : Turn N I) : Type 0 where
  done : t.done ≡ u.done
  asked : t.asked ≡ u.asked
  left : haves t.after.negotiate ≡ haves u.after.negotiate
  window : t.after.window ≡ u.after.window
  sent : AreAlike t.sent u.sent

-- ---- the rounds of one fetch

module _ {N I A : Type 0} (m : Manner N I A) where
  -- at least one request comes after those before
  pub asks-following : (x : At N I) (rs : List Round) (us : List ShallowUpdate) (a : AnswerValue) (end : At N I)
      → x.reading.held.persists ≡ false → Packed m x rs us a end
      → (first : List ℕ) × (later : List (List ℕ)) × (end.reading.held.sent ≡ x.reading.held.sent ++ first ∷ later)
  asks-following x rs us a end alone p = by_turns p.turns (ap (λ (z : At N I). z.reading.held.sent) p.position
      ∙ (last_written m x p.before p.turns p.last p.run p.lasts).enters alone)
    where
      by_turns : (ts : List (Turn N I)) → end.reading.held.sent ≡ x.reading.held.sent ++ (requests_of ts ++ request_of p.last ∷ [])
          → (first : List ℕ) × (later : List (List ℕ)) × (end.reading.held.sent ≡ x.reading.held.sent ++ first ∷ later)
      by_turns [] e = (request_of p.last, [], e)
      by_turns (t ∷ ts) e = (request_of t, requests_of ts ++ request_of p.last ∷ [], e)

  -- where none is counted at the end none was before
  pub turn-none : (x : At N I) (t : Turn N I) → Turns m x t → t.after.reading.failures ≡ 0 → x.reading.failures ≡ 0
  turn-none x t h z =
      sym (sent-failures x.reading.held.persists x.reading t.sent _ h.sends.1)
      ∙ answered-none (answer_of m.version (flags t.done (not t.done))) m.version m.banded t.sent t.after.reading t.reply h.answer z

  pub rounds-none : (ts : List (Turn N I)) (x b : At N I) → Rounds m x ts b → b.reading.failures ≡ 0 → x.reading.failures ≡ 0
  rounds-none [] x b r z = ap (λ (a : At N I). a.reading.failures) (sym r) ∙ z
  rounds-none (w ∷ ts) x b r z = turn-none x w r.0 (rounds-none ts w.after b r.3 z)

-- ---- the rounds of two

module _ {N I A : Type 0} (m : Manner N I A) (haves : N → List ObjectId)
    (goes : (n : N) (s : Window) (a : ArgumentsValue) (p : Option AnswerValue) (r : Round) (done : Bool) (n' : N) (t : Window)
    (b : ArgumentsValue)
    → m.goes n s a p r done n' t b → ListRound (haves n) s a p done (haves n') t b) where
  asks-alike : (x y : At N I) (t u : Turn N I) → AtAlike haves x y → Turns m x t → Turns m y u → AsksAlike haves t u
  asks-alike x y t u s h k =
      let round = same-round _ _ _ _ _ _ _ _ _ _ _ _ _ _ _ _ s.left s.window s.asked s.previous
      (goes x.negotiate x.window x.asked x.previous t.round t.done t.after.negotiate t.after.window t.asked h.negotiated)
      (goes y.negotiate y.window y.asked y.previous u.round u.done u.after.negotiate u.after.window u.asked k.negotiated) in
      record {
        done = round.done;
        asked = round.asked;
        left = round.left;
        window = round.state;
        sent =
            sent-alike x.reading y.reading t.sent u.sent _ _ s.reading
            (ap (λ (a : ArgumentsValue). texts_of (request a t.done)) round.asked
            ∙ ap (λ d. texts_of (request u.asked d)) round.done) h.sends.1 k.sends.1;
      }

  same-reply : (t u : Turn N I) (x y : At N I) → AsksAlike haves t u → Turns m x t → Turns m y u → t.after.reading.failures ≡ 0
      → u.after.reading.failures ≡ 0 → t.reply ≡ u.reply
  same-reply t u x y a h k z w =
      same-answer (answer_of m.version (flags t.done (not t.done))) m.version (view m.banded t.sent) (view m.banded u.sent)
      (view m.banded t.after.reading) (view m.banded u.after.reading) (viewed m.banded a.sent.pieces) t.reply
      u.reply (view-come m.banded t.sent a.sent.pieces a.sent.first) (view-come m.banded u.sent a.sent.pieces a.sent.second)
      (view-failures m.banded t.after.reading ∙ z) (view-failures m.banded u.after.reading ∙ w) h.answer
      (subst (λ d. Answered (answer_of m.version (flags d (not d))) m.version (view m.banded u.sent)
      (view m.banded u.after.reading) u.reply) (sym a.done) k.answer)

  pub turns-alike : (x y : At N I) (t u : Turn N I) → AtAlike haves x y → Turns m x t → Turns m y u → t.after.reading.failures ≡ 0
      → u.after.reading.failures ≡ 0 → (t.reply ≡ u.reply) × AtAlike haves t.after u.after
  turns-alike x y t u s h k z w =
      let a = asks-alike x y t u s h k in
      let reply = same-reply t u x y a h k z w in (
        reply,
        record {
          left = a.left;
          window = a.window;
          asked = h.rest ∙ ap (λ (z : TransportState). sent_off z.persists t.asked) s.reading.held
              ∙ ap (sent_off y.reading.held.persists) a.asked ∙ sym k.rest;
          previous = h.previous ∙ ap Some reply ∙ sym k.previous;
          reading = record {
            version = answered-version _ m.version m.banded _ t.after.reading t.reply h.answer
                ∙ sym (answered-version _ m.version m.banded _ u.after.reading u.reply k.answer);
            held = h.held ∙ a.sent.held ∙ sym k.held;
            alone = ap (λ (z : TransportState). z.persists) h.held ∙ a.sent.alone;
          };
        },
      )

  differ : (v w : AnswerValue) → v ≡ w → v.pack ≡ true → w.pack ≡ false → ⊥
  differ v w e p q = true≢false (sym p ∙ ap (λ (z : AnswerValue). z.pack) e ∙ q)

  -- the first pack comes after the same round of both
  rounds-alike : (ts us : List (Turn N I)) (x y b c : At N I) (t u : Turn N I) → AtAlike haves x y → Rounds m x ts b → Turns m b t
      → t.reply.pack ≡ true → t.after.reading.failures ≡ 0 → Rounds m y us c → Turns m c u
      → u.reply.pack ≡ true → u.after.reading.failures ≡ 0 → AtAlike haves t.after u.after
  rounds-alike [] [] x y b c t u s r h p z q k o w =
      (turns-alike x y t u s (subst (λ a. Turns m a t) r h) (subst (λ a. Turns m a u) q k) z w).1
  rounds-alike [] (v ∷ us) x y b c t u s r h p z q k o w =
      absurd (differ t.reply v.reply (turns-alike x y t v s (subst (λ a. Turns m a t) r h) q.0 z
      (rounds-none m us v.after c q.3 (turn-none m c u k w))).0 p q.2)
  rounds-alike (v ∷ ts) [] x y b c t u s r h p z q k o w =
      absurd (differ u.reply v.reply (sym (turns-alike x y v u s r.0 (subst (λ a. Turns m a u) q k)
      (rounds-none m ts v.after b r.3 (turn-none m b t h z)) w).0) o r.2)
  rounds-alike (l ∷ ts) (v ∷ us) x y b c t u s r h p z q k o w =
      rounds-alike ts us l.after v.after b c t u (turns-alike x y l v s r.0 q.0 (rounds-none m ts l.after b r.3 (turn-none m b t h z))
      (rounds-none m us v.after c q.3 (turn-none m c u k w))).1 r.3 h p z q.3 k o w

  pub packed-alike : (x y : At N I) (rs qs : List Round) (us vs : List ShallowUpdate) (a b : AnswerValue) (end other : At N I)
      → AtAlike haves x y → Packed m x rs us a end → end.reading.failures ≡ 0 → Packed m y qs vs b other
      → other.reading.failures ≡ 0 → end.reading.held ≡ other.reading.held
  packed-alike x y rs qs us vs a b end other s p z q w =
      let one : p.last.after.reading.failures ≡ 0 = ap (λ (a : At N I). a.reading.failures) (sym p.position) ∙ z in
      let two : q.last.after.reading.failures ≡ 0 = ap (λ (a : At N I). a.reading.failures) (sym q.position) ∙ w in
      let e = rounds-alike p.turns q.turns x y p.before q.before p.last q.last s p.run p.lasts p.pack one q.run q.lasts q.pack two in
      ap (λ (z : At N I). z.reading.held) p.position ∙ e.reading.held ∙ sym (ap (λ (z : At N I). z.reading.held) q.position)
