-- The output of several texts in sequence.
use Rattle.std.proofs.Common.{◌≡◌, ℕ, Bool, List, [], ◌∷◌, ◌++◌, Option, Some, None, refl, sym, ap, subst, ◌∙◌, append_assoc, append-nil, length, arith}
use Rattle.std.specs.Io.KnownBytes.{Appends}
use Rattle.gixp_client.specs.Listening.{ShownLines, ShowsLines, then_shown, unshown, after_byte, after_text}

pub appends_more : (a b c : Option (List ℕ)) (xs ys : List ℕ) → Appends a b xs → Appends b c ys → Appends a c (xs ++ ys)
appends_more None b c xs ys h k = tt
appends_more (Some a) None c xs ys h k = absurd h
appends_more (Some a) (Some b) None xs ys h k = absurd k
appends_more (Some a) (Some b) (Some c) xs ys h k = k ∙ (ap (λ (z : List ℕ). z ++ ys) h ∙ append_assoc a xs ys)

pub appends_none : (a : Option (List ℕ)) → Appends a a []
appends_none None = tt
appends_none (Some a) = sym (append-nil a)

pub shows_none : (cut : Bool) (held : Option (List ℕ)) (line : List ℕ) → ShowsLines cut held cut held line (unshown line)
shows_none cut held line e = (e, appends_none held, refl)

-- an output, then another
pub shows_then : (cut cut' cut'' : Bool) (held held' held'' : Option (List ℕ)) (line line' : List ℕ)
    (s : ShownLines) (next : List ℕ → ShownLines)
    → ShowsLines cut held cut' held' line s → ShowsLines cut' held' cut'' held'' line' (next line)
    → ShowsLines cut held cut'' held'' line' (then_shown s next)
shows_then cut cut' cut'' held held' held'' line line' s next h k e =
    let b = k e in let a = h b.0 in (
      a.0,
      appends_more held held' held'' s.written (next s.line).written a.1
          (subst (λ (l : List ℕ). Appends held' held'' (next l).written) a.2 b.1),
      b.2 ∙ ap (λ l. (next l).line) a.2,
    )

-- the output of a byte, then of the rest of the text
pub shows_byte : (cut cut' cut'' : Bool) (held held' held'' : Option (List ℕ)) (line line' line'' : List ℕ) (b : ℕ) (text rest : List ℕ)
    → text ≡ b ∷ rest → ShowsLines cut held cut' held' line' (after_byte line b)
    → ShowsLines cut' held' cut'' held'' line'' (after_text line' rest)
    → ShowsLines cut held cut'' held'' line'' (after_text line text)
shows_byte cut cut' cut'' held held' held'' line line' line'' b text rest e h k =
    subst (λ (t : List ℕ). ShowsLines cut held cut'' held'' line'' (after_text line t)) (sym e)
    (shows_then cut cut' cut'' held held' held'' line' line'' (after_byte line b) (λ l. after_text l rest) h k)

-- an empty rest has no output
pub shows_end : (cut : Bool) (held : Option (List ℕ)) (line text : List ℕ) → length text ≡ 0
    → ShowsLines cut held cut held line (after_text line text)
shows_end cut held line [] h = shows_none cut held line
shows_end cut held line (b ∷ text) h = absurd (omega (arith, h))
