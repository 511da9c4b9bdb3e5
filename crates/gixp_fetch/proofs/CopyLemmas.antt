-- Copying a pack piece by piece.
use Rattle.std.proofs.Common.{◌≡◌, ℕ, ◌+◌, ◌≤◌, ◌<◌, List, [], ◌++◌, length, take, arith, refl, ap, sym, ◌∙◌, subst, Option, Some, None, IsSome, inl, inr}
use Rattle.std.proofs.lemmas.List.{append-nil, take_all}
use Rattle.std.specs.Prelude.{IfSome}
use Rattle.std.specs.Io.KnownBytes.{Appends}
use Rattle.gixp_packetline.specs.declared.protocol.MessageKind.{MessageKind}
use Rattle.gixp_packetline.specs.Pieces.{Pieces, Refusal}
use Rattle.std.specs.declared.io.Error.{Error as io_error}
use Rattle.gixp_packetline.specs.Reading.{Reading, AtStop, Fails}
use Rattle.gixp_sidebands.specs.Bands.{Side, IsFirstOf, side_content, side_reading, shown, content_bound, Passes, ShowsContent, EndsContent, RefusesContent, ReadsBytes}
use Rattle.gixp_sidebands.specs.Ends.{end-stays, end-joins}
use Rattle.gixp_sidebands.proofs.PassLemmas.{passes_none, passes_more}
use Rattle.gixp_fetch.specs.Receive.{ReadsOn}
use Rattle.gixp_fetch.specs.Consume.{Copied, ReadRefused, WriteRefused}
use Rattle.gixp_fetch.proofs.SentLemmas.{appends_nil, appends_trans}

pub copied_none : (w : Option (List ℕ)) (s : Side) → Copied w s [] w s
copied_none w s = record {
  content = passes_none s;
  ending = end-stays s.reading;
  failures = refl;
  held = refl;
  written = appends_nil w;
}

-- one more piece
pub copied_more : (old w w' : Option (List ℕ)) (start now mid next : Side) (read piece : List ℕ) → Copied old start read w now
    → ShowsContent now mid → ReadsBytes mid next piece → Appends w w' piece
    → Copied old start (read ++ piece) w' next
copied_more old w w' start now mid next read piece h s r a = record {
  content = passes_more start now next read piece h.content
      (passes_more now mid next [] piece s.content r.content);
  ending = end-joins start.reading now.reading next.reading h.ending
      (end-joins now.reading mid.reading next.reading s.ending r.ending);
  failures = r.failures ∙ s.failures ∙ h.failures;
  held = r.held ∙ (s.held ∙ h.held);
  written = appends_trans old w w' read piece h.written a;
}

pub at_stop_held : (old new : Reading) → AtStop old new → new.held ≡ old.held
at_stop_held old new (inl h) = h.stays.held
at_stop_held old new (inr h) = h.1.held

at_stop_stopped : (old new : Reading) → AtStop old new → IsSome new.stopped
at_stop_stopped old new (inl h) = subst (λ (s : Option MessageKind). IsSome s) (sym h.stays.stopped) h.was
at_stop_stopped old new (inr h) = subst (λ (s : Option MessageKind). IsSome s) (sym h.1.stopped) refl

at_stop_failures : (old new : Reading) → AtStop old new → new.failures ≡ old.failures
at_stop_failures old new (inl h) = h.failures
at_stop_failures old new (inr h) = h.1.failures

pub fails_held : (old new : Reading) (e : Refusal) → Fails old new e → new.held ≡ old.held
fails_held old new e (inl h) = h.held
fails_held old new e (inr (inl h)) = h.stays.held
fails_held old new e (inr (inr h)) = h.held

module _ (now mid next : Side) (piece : List ℕ) (n : ℕ) (s : ShowsContent now mid) (r : ReadsBytes mid next
    (take n (shown mid.place mid.reading))) (e : piece ≡ shown mid.place mid.reading) (l : n ≡ length piece) where
  whole_piece : take n (shown mid.place mid.reading) ≡ piece
  whole_piece = ap (λ x. take n x) (sym e) ∙ take_all n piece (omega (arith, l))

  -- a borrowed piece is copied and returned
  pub copied_piece : (old w w' : Option (List ℕ)) (start : Side) (read : List ℕ) → Copied old start read w now → Appends w w' piece
      → (read' : List ℕ) × Copied old start read' w' next
  copied_piece old w w' start read h a =
      (read ++ piece, copied_more old w w' start now mid next read piece h s (subst (λ x. ReadsBytes mid next x) whole_piece r) a)

  pub passed_piece : (start : Side) (read : List ℕ) → Copied None start read None now → (read' : List ℕ) × Copied None start read' None next
  passed_piece start read h = copied_piece None None None start read h tt

  -- fewer bytes are left
  pub falls : content_bound next < content_bound now
  falls =
      let some : 0 < length (shown mid.place mid.reading) = s.some in
      let same : length (take n (shown mid.place mid.reading)) ≡ length (shown mid.place mid.reading) = ap length (whole_piece ∙ e) in
      let low : length (take n (shown mid.place mid.reading)) + content_bound next ≤ content_bound mid = r.bound in
      let high : content_bound mid ≤ content_bound now = s.bound in
      omega arith

-- all pieces were copied
pub copied_all : (old w : Option (List ℕ)) (start now end : Side) (read : List ℕ) → Copied old start read w now → EndsContent now end
    → (whole : List ℕ) × Copied old start whole w end × IfSome start.reading.to_come (λ p. IsFirstOf start p → side_content start p ≡ whole)
    × IsSome end.reading.stopped
copied_all old w start now end read h t = (
  read,
  record {
    content = subst (λ x. Passes start end x) (append-nil read) (passes_more start now end read [] h.content t.rest);
    ending = end-joins start.reading now.reading end.reading h.ending t.ending;
    failures = at_stop_failures (side_reading now) (side_reading end) t.at_stop ∙ h.failures;
    held = at_stop_held (side_reading now) (side_reading end) t.at_stop ∙ h.held;
    written = h.written;
  },
  all start.reading.to_come now.reading.to_come h.content t.content,
  at_stop_stopped (side_reading now) (side_reading end) t.at_stop,
)
  where
    all : (o n : Option Pieces) → IfSome o (λ p. IsFirstOf start p → (q : Pieces) × (n ≡ Some q) × IsFirstOf now q
        × (side_content start p ≡ read ++ side_content now q))
        → IfSome n (λ q. side_content now q ≡ []) → IfSome o (λ p. IsFirstOf start p → side_content start p ≡ read)
    all None n x y = tt
    all (Some p) None x y = λ f. let e = (x f).1 in cc
    all (Some p) (Some r) x y = λ f.
        let u = x f in
        let same : u.0 ≡ r = cc in
        u.3 ∙ (ap (λ z. read ++ side_content now z) same ∙ (ap (λ z. read ++ z) y ∙ append-nil read))

-- a read failed, and its error was taken out of the reader
pub copied_refused : (old w : Option (List ℕ)) (start now failed end : Side) (read : List ℕ) (e : io_error) (refusal : Refusal)
    → Copied old start read w now → RefusesContent now failed e
    → IfSome failed.fault (λ r. refusal ≡ r) → end ≡ record failed { fault = None }
    → (read' : List ℕ) × (lost : List ℕ) × Appends old w read' × ReadsOn start end (read' ++ lost)
    × ((side_reading end).held ≡ (side_reading start).held) × ReadRefused old start read' w end refusal
copied_refused old w start now failed end read e refusal h t is taken = (
  read,
  t.lost,
  h.written,
  subst (λ s. ReadsOn start s (read ++ t.lost)) (sym taken)
      (record {
        content = passes_more start now failed read t.lost h.content t.rest;
        ending = λ u. end-joins start.reading now.reading failed.reading h.ending (t.ending (u.0 ∙ sym h.failures, u.1));
      }),
  ap (λ s. (side_reading s).held) taken ∙ (fails_held (side_reading now) (side_reading failed) t.refusal t.fails ∙ h.held),
  record {
    now = now;
    copied = h;
    failed = failed;
    error = e;
    refused = t;
    gives = subst (λ o. IfSome o (λ r. refusal ≡ r)) t.fault is;
    taken = taken;
  },
)

-- the writer failed
pub copied_unwritten : (old w : Option (List ℕ)) (start now mid : Side) (read : List ℕ) → Copied old start read w now → ShowsContent now mid
    → (read' : List ℕ) × ReadsOn start mid read' × ((side_reading mid).held ≡ (side_reading start).held) × WriteRefused old start mid
copied_unwritten old w start now mid read h s = (
  read ++ [],
  record {
    content = passes_more start now mid read [] h.content s.content;
    ending = λ _. end-joins start.reading now.reading mid.reading h.ending s.ending;
  },
  s.held ∙ h.held,
  record { now = now; mid = w; read = read; copied = h; shows = s },
)
