-- The state of `Packets` after a read was made and recorded.
use Rattle.std.proofs.Common.{◌≡◌, ℕ, ◌+◌, ◌-◌, ◌<◌, inl, inr, Bool, true, false, List, ◌++◌, length, ◌≤◌, zero, suc, refl, sym, ap, subst, ◌∙◌, arith, rules, Option, Result, Ok, Err, take, drop, length-append, length-drop}
use Rattle.std.proofs.lemmas.List.{length-take-le}
use Rattle.std.specs.declared.io.ErrorKind.{ErrorKind}
use Rattle.std.specs.declared.io.ErrorKind.TheVariants.{UnexpectedEof}
use Rattle.std.specs.Io.KnownBytes.{Keeps, Consumes, IsAtEnd, prepend_known}
use Rattle.gixp_packetline.specs.declared.packet.Head.TheVariants.{Partial}
use Rattle.gixp_packetline.specs.declared.packets.Packets.{Packets}
use Rattle.gixp_packetline.specs.declared.read.Error.{Error}
use Rattle.gixp_packetline.specs.declared.read.Error.TheVariants.{Io}
use Rattle.gixp_packetline.specs.Frames.{head_of}
use Rattle.gixp_packetline.specs.Reading.{Rose, is_end}
use Rattle.gixp_packetline.specs.Window.{Shown, Receives}
use Rattle.gixp_packetline.specs.Packets.{known, Fills, NotesRead, Filled, Ended}
use Rattle.gixp_packetline.proofs.PacketLemmas.{keeps_received, keeps_kept, keeps_ended, same_pending}

end_kind : (kind : ErrorKind) → is_end kind ≡ true → kind ≡ UnexpectedEof
end_kind kind h = search rules

module _ {R : Type 0} where
  -- one read was used; it changed the window and the reader
  abbrev pub read_by : Packets R → Shown → R → Packets R
  read_by old w rd = record old { reads_left = old.reads_left - 1; window = w; reader = rd }

  same_bytes : (rem : R → Option (List ℕ)) (old : Packets R) (w : Shown) (rd : R) → old.ended ≡ false
      → Keeps (prepend_known old.window.pending (rem old.reader)) (prepend_known w.pending (rem rd))
      → Keeps (known rem old) (known rem (record old { reads_left = old.reads_left - 1; window = w; reader = rd; ended = false }))
  same_bytes rem old w rd going keeps = rw going keeps

  failed : (rem : R → Option (List ℕ)) (old : Packets R) (w : Shown) (rd : R) (kind : ErrorKind) (k : ℕ) (b : Bool) → is_end kind ≡ b
      → 0 < old.reads_left → head_of old.window.pending ≡ Partial → old.ended ≡ false
      → (w.pending ≡ old.window.pending) × Keeps (rem old.reader) (rem rd) → Rose old.failures k
      → Fills {X = Unit {0}} rem old (record (read_by old w rd) { failures = k; ended = b }) (Err (Io kind))
  failed rem old w rd kind k true e some front going got rose = inr (inr (record {
    error = ap Io (end_kind kind e);
    front = rw got.0 front;
    was_open = going;
    ended = refl;
    place = refl;
    version = refl;
    left = let l = ap length got.0 in omega arith;
    failures = rose;
    reads = let l = ap length got.0 in omega arith;
  }))
  failed rem old w rd kind k false e some front going got rose = inr (inl (record {
    kept = record {
      bytes = same_bytes rem old w rd going (keeps_kept (rem old.reader) (rem rd) old.window.pending w.pending got.0 got.1);
      place = refl;
      version = refl;
      left = let l = ap length got.0 in omega arith;
    };
    error = e;
    front = rw got.0 front;
    was_open = going;
    is_open = refl;
    failures = rose;
    reads = let l = ap length got.0 in omega arith;
  }))

  received : (rem : R → Option (List ℕ)) (old : Packets R) (w : Shown) (rd : R) (n : ℕ) (got : List ℕ) → 0 < n → 0 < old.reads_left
      → old.ended ≡ false
      → w.pending ≡ old.window.pending ++ got → length got ≡ n → Consumes (rem old.reader) (rem rd) got → length w.pending ≤ 65520
      → Filled rem old (record (read_by old w rd) { ended = false })
  received rem old w rd n got more some going e len takes bound =
      let l : length w.pending ≡ length old.window.pending + length got = ap length e ∙ length-append old.window.pending got in
      record {
        kept = record {
          bytes = same_bytes rem old w rd going (keeps_received (rem old.reader) (rem rd) old.window.pending w.pending got e takes);
          place = refl;
          version = refl;
          left = omega arith;
        };
        longer = omega arith;
        bound = bound;
        ended = sym going;
        failures = refl;
        reads = omega arith;
      }

  ended : (rem : R → Option (List ℕ)) (old : Packets R) (w : Shown) (rd : R) (got : List ℕ) → 0 < old.reads_left
      → head_of old.window.pending ≡ Partial → old.ended ≡ false
      → w.pending ≡ old.window.pending ++ got → length got ≡ 0 → Consumes (rem old.reader) (rem rd) got → IsAtEnd (rem rd)
      → Ended rem old (record (read_by old w rd) { ended = true }) (Io UnexpectedEof)
  ended rem old w rd got some front going e none takes at =
      let same : w.pending ≡ old.window.pending = same_pending old.window.pending w.pending got e none in
      let l = ap length same in
      record {
        kept = record {
          bytes = rw going (keeps_ended (rem old.reader) (rem rd) old.window.pending w.pending got e none takes at);
          place = refl;
          version = refl;
          left = omega arith;
        };
        error = refl;
        front = rw same front;
        ended = refl;
        failures = refl;
        reads = omega arith;
      }

  noted : (rem : R → Option (List ℕ)) (old new : Packets R) (w : Shown) (rd : R) (got : Result ℕ ErrorKind)
      (r : Result (Unit {0}) Error) → 0 < old.reads_left → head_of old.window.pending ≡ Partial → old.ended ≡ false
      → Receives (rem old.reader) (rem rd) old.window.pending w.pending got → NotesRead (read_by old w rd) new got r → Fills rem old new r
  noted rem old new w rd (Err kind) r some front going got h =
      let F : Packets R → Result (Unit {0}) Error → Type 0 = Fills rem old in
      let P : Packets R → Type 0 = λ x. F x (Err (Io kind)) in
      subst (F new) (sym h.0) (subst P (sym h.2) (failed rem old w rd kind new.failures (is_end kind) refl some front going got h.1))
  noted rem old new w rd (Ok n) r some front going got h = by n refl
    where
      by : (k : ℕ) → n ≡ k → Fills rem old new r
      by zero e =
          let F : Packets R → Result (Unit {0}) Error → Type 0 = Fills rem old in
          let P : Packets R → Type 0 = λ x. F x (Err (Io UnexpectedEof)) in
          let at = h.0 e in
          let none : length got.0 ≡ 0 = got.2 ∙ e in
          subst (F new) (sym at.0) (subst P (sym at.1) (inl (ended rem old w rd got.0 some front going got.1 none got.3 (got.4 e))))
      by (suc k) e =
          let F : Packets R → Result (Unit {0}) Error → Type 0 = Fills rem old in
          let P : Packets R → Type 0 = λ x. F x (Ok tt) in
          let more : 0 < n = omega arith in
          let at = h.1 more in
          let filled = received rem old w rd n got.0 more some going got.1 got.2 got.3 got.5 in
          let shut : record (read_by old w rd) { ended = false } ≡ read_by old w rd =
          ap (λ (b : Bool). record (read_by old w rd) { ended = b }) (sym going) in
          subst (F new) (sym at.0) (subst P (shut ∙ sym at.1) filled)

  -- the same, where the result was recorded
  pub fills_noted : (rem : R → Option (List ℕ)) (old spent new : Packets R) (w : Shown) (rd : R) (got : Result ℕ ErrorKind)
      (r : Result (Unit {0}) Error) → spent ≡ record old { reads_left = old.reads_left - 1 } → 0 < old.reads_left
      → head_of old.window.pending ≡ Partial → old.ended ≡ false
      → Receives (rem spent.reader) (rem rd) spent.window.pending w.pending got
      → NotesRead (record spent { window = w; reader = rd }) new got r → Fills rem old new r
  fills_noted rem old spent new w rd got r e some front going read h =
      let A : Packets R → Type 0 = λ s. Receives (rem s.reader) (rem rd) s.window.pending w.pending got in
      let B : Packets R → Type 0 = λ s. NotesRead (record s { window = w; reader = rd }) new got r in
      noted rem old new w rd got r some front going (subst A e read) (subst B e h)

  -- one read was used, whatever it returned
  pub counts_noted : (old spent new : Packets R) (w : Shown) (rd : R) (got : Result ℕ ErrorKind) (r : Result (Unit {0}) Error)
      → spent ≡ record old { reads_left = old.reads_left - 1 }
      → NotesRead (record spent { window = w; reader = rd }) new got r → 0 < old.reads_left → old.reads_left ≡ new.reads_left + 1
  counts_noted old spent new w rd got r e h some =
      let same : new.reads_left ≡ spent.reads_left = kept got h in
      let less : spent.reads_left ≡ old.reads_left - 1 = ap (λ (p : Packets R). p.reads_left) e in
      omega arith
    where
      kept : (g : Result ℕ ErrorKind) → NotesRead (record spent { window = w; reader = rd }) new g r → new.reads_left ≡ spent.reads_left
      kept (Err kind) k = ap (λ (p : Packets R). p.reads_left) k.2
      kept (Ok n) k = by n refl
        where
          by : (m : ℕ) → n ≡ m → new.reads_left ≡ spent.reads_left
          by zero q = ap (λ (p : Packets R). p.reads_left) (k.0 q).1
          by (suc m) q = ap (λ (p : Packets R). p.reads_left) (k.1 (omega arith)).1

-- a line of this size was taken from the front
pub line_spent : (size reads before : ℕ) (xs ys lent : List ℕ) → 4 ≤ size → size ≤ length xs → lent ≡ drop 4 (take size xs)
    → ys ≡ drop size xs → before ≤ reads + length xs → before ≤ reads + length ys + 4 + length lent
line_spent size reads before xs ys lent four fits e h le =
    let whole = length-take-le size xs fits in
    let part = length-drop 4 (take size xs) in
    let rest = length-drop size xs in
    let a : length lent ≡ length (drop 4 (take size xs)) = ap length e in
    let b : length ys ≡ length (drop size xs) = ap length h in
    omega arith
