-- A pack that is copied piece by piece.
use Rattle.std.proofs.Common.{◌≡◌, ℕ, ◌+◌, ◌-◌, ◌^◌, ◌≤◌, ◌<◌, List, [], ◌++◌, length, take, arith, refl, ap, sym, ◌∙◌, subst, Option, Some, None, inl, inr}
use Rattle.std.proofs.lemmas.List.{append-nil, take_all}
use Rattle.std.specs.Prelude.{IfSome}
use Rattle.std.specs.Io.KnownBytes.{Appends}
use Rattle.std.proofs.KnownBytes.{Appends-nil, Appends-trans}
use Rattle.std.specs.declared.io.Error.{Error as io_error}
use Rattle.std.specs.declared.io.ErrorKind.{ErrorKind}
use Rattle.std.specs.IoError.{error_kind}
use Rattle.gixp_packetline.specs.Pieces.{Pieces, Refusal}
use Rattle.gixp_packetline.specs.Reading.{Reading, AtStop, Fails}
use Rattle.gixp_sidebands.specs.Bands.{Side, IsFirstOf, side_content, side_reading, shown, content_bound, Passes, ShowsContent, EndsContent, RefusesContent, ReadsBytes, KeepsEndUncounted}
use Rattle.gixp_sidebands.specs.Ends.{end-stays, end-joins}
use Rattle.gixp_sidebands.proofs.PassLemmas.{passes_none, passes_more}
use Rattle.gixp_fetch_common.specs.PackCopied.{ReceivesNext, CopiedNext, CopiedAll, RefusedAfter, ShownAfter}

pub copied_none : (w : Option (List ℕ)) (s : Side) → CopiedNext w s [] w s
copied_none w s = record {
  received = record { content = passes_none s; ending = λ _. end-stays s.reading; held = refl };
  failures = refl;
  written = Appends-nil w;
}

-- the end is kept up to a reader that counted no failure, and then kept again
ends_more : (start now end : Side) → KeepsEndUncounted start.reading now.reading → now.reading.failures ≡ start.reading.failures
    → KeepsEndUncounted now.reading end.reading → KeepsEndUncounted start.reading end.reading
ends_more start now end h s k u =
    let few : now.reading.failures < 2 ^ 64 - 1 = subst (λ n. n < 2 ^ 64 - 1) (u.0 ∙ sym s) u.1 in
    end-joins start.reading now.reading end.reading (h (s, few)) (k (u.0 ∙ sym s, u.1))

came_more : (old w : Option (List ℕ)) (start now end : Side) (read more : List ℕ) → CopiedNext old start read w now
    → Passes now end more → KeepsEndUncounted now.reading end.reading → (side_reading end).held ≡ (side_reading now).held
    → ReceivesNext start (read ++ more) end
came_more old w start now end read more h p k e = record {
  content = passes_more start now end read more h.received.content p;
  ending = ends_more start now end h.received.ending h.failures k;
  held = e ∙ h.received.held;
}

module _ (now mid next : Side) (piece : List ℕ) (n : ℕ) (s : ShowsContent now mid) (r : ReadsBytes mid next
    (take n (shown mid.place mid.reading))) (e : piece ≡ shown mid.place mid.reading) (l : n ≡ length piece) where
  whole_piece : take n (shown mid.place mid.reading) ≡ piece
  whole_piece = ap (λ x. take n x) (sym e) ∙ take_all n piece (omega (arith, l))

  -- a borrowed piece is written and consumed
  pub copied_piece : (old w w' : Option (List ℕ)) (start : Side) (read : List ℕ) → CopiedNext old start read w now → Appends w w' piece
      → CopiedNext old start (read ++ piece) w' next
  copied_piece old w w' start read h a =
      let whole = subst (λ x. ReadsBytes mid next x) whole_piece r in
      record {
        received = came_more old w start now next read piece h (passes_more now mid next [] piece s.content whole.content)
            (λ _. end-joins now.reading mid.reading next.reading s.ending r.ending) (r.held ∙ s.held);
        failures = r.failures ∙ s.failures ∙ h.failures;
        written = Appends-trans old w w' read piece h.written a;
      }

  -- and fewer bytes may still come
  pub falls : content_bound next < content_bound now
  falls =
      let some : 0 < length (shown mid.place mid.reading) = s.some in
      let same : length (take n (shown mid.place mid.reading)) ≡ length (shown mid.place mid.reading) = ap length (whole_piece ∙ e) in
      let low : length (take n (shown mid.place mid.reading)) + content_bound next ≤ content_bound mid = r.bound in
      let high : content_bound mid ≤ content_bound now = s.bound in
      omega arith

at_stop_held : (old new : Reading) → AtStop old new → new.held ≡ old.held
at_stop_held old new (inl h) = h.stays.held
at_stop_held old new (inr h) = h.1.held

at_stop_failures : (old new : Reading) → AtStop old new → new.failures ≡ old.failures
at_stop_failures old new (inl h) = h.failures
at_stop_failures old new (inr h) = h.1.failures

fails_held : (old new : Reading) (e : Refusal) → Fails old new e → new.held ≡ old.held
fails_held old new e (inl h) = h.held
fails_held old new e (inr (inl h)) = h.stays.held
fails_held old new e (inr (inr h)) = h.held

-- all was copied
pub copied_all : (old w : Option (List ℕ)) (start now end : Side) (read : List ℕ) → CopiedNext old start read w now
    → EndsContent now end → CopiedAll old start read w end
copied_all old w start now end read h t = record {
  copied = record {
    received = record {
      content = subst (λ x. Passes start end x) (append-nil read) (passes_more start now end read [] h.received.content t.rest);
      ending = ends_more start now end h.received.ending h.failures (λ _. t.ending);
      held = at_stop_held (side_reading now) (side_reading end) t.at_stop ∙ h.received.held;
    };
    failures = at_stop_failures (side_reading now) (side_reading end) t.at_stop ∙ h.failures;
    written = h.written;
  };
  all = at start.reading.to_come now.reading.to_come h.received.content t.content;
}
  where
    at : (o n : Option Pieces) → IfSome o (λ p. IsFirstOf start p → (q : Pieces) × (n ≡ Some q) × IsFirstOf now q
        × (side_content start p ≡ read ++ side_content now q))
        → IfSome n (λ q. side_content now q ≡ []) → IfSome o (λ p. IsFirstOf start p → side_content start p ≡ read)
    at None n x y = tt
    at (Some p) None x y = λ f. let e = (x f).1 in cc
    at (Some p) (Some r) x y = λ f.
        let u = x f in
        let same : u.0 ≡ r = cc in
        u.3 ∙ (ap (λ z. read ++ side_content now z) same ∙ (ap (λ z. read ++ z) y ∙ append-nil read))

-- a read failed
pub refused_read : (old w : Option (List ℕ)) (start now end : Side) (read : List ℕ) (e : io_error) (kind : ErrorKind)
    → CopiedNext old start read w now → RefusesContent now end e → kind ≡ error_kind e
    → (more : List ℕ) × ReceivesNext start more end × RefusedAfter old start w end kind
refused_read old w start now end read e kind h t is = (
  read
      ++ t.lost,
  came_more old w start now end read t.lost h t.rest t.ending (fails_held (side_reading now) (side_reading end) t.refusal t.fails),
  record { read = read; now = now; why = e; copied = h; refuses = t; reported = is },
)

-- a borrowed piece remains
pub lent_alone : (old w : Option (List ℕ)) (start now mid : Side) (read : List ℕ) → CopiedNext old start read w now
    → ShowsContent now mid → (more : List ℕ) × ReceivesNext start more mid
lent_alone old w start now mid read h s = (read ++ [], came_more old w start now mid read [] h s.content (λ _. s.ending) s.held)

-- and is still to be written
pub lent_unwritten : (old w : Option (List ℕ)) (start now mid : Side) (read : List ℕ) → CopiedNext old start read w now
    → ShowsContent now mid → (more : List ℕ) × ReceivesNext start more mid × ShownAfter old start mid
lent_unwritten old w start now mid read h s =
    let alone = lent_alone old w start now mid read h s in (
      alone.0,
      alone.1,
      record { read = read; now = now; mid = w; copied = h; shows = s },
    )
