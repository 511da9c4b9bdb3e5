-- The calls of the interrupt in several reads after one another (gitprotocol-pack, "Packfile Data").
use Rattle.std.proofs.Common.{subst, ap, sym, ◌∙◌, refl, inl, inr, arith, append_assoc, length-append}
use Rattle.std.specs.Prelude.{◌≡◌, ℕ, ◌+◌, Bool, false, List, [], ◌∷◌, ◌++◌, length, Option, Some, None, IfSome}
use Rattle.gixp_packetline.specs.Pieces.{Refusal, io, unexpected_frame, Piece, line, mark, Pieces, no_pieces}
use Rattle.std.specs.declared.io.ErrorKind.TheVariants.{UnexpectedEof}
use Rattle.gixp_packetline.specs.Reading.{Reading}
use Rattle.gixp_sidebands.specs.Bands.{IsUncounted}
use Rattle.gixp_sidebands.specs.Questions.{one_if, texts_in, IsLeft, TakesTexts, NoFewer, PollsEach, Asked, AskedBelow}

texts-append : (xs ys : List Piece) → texts_in (xs ++ ys) ≡ texts_in xs + texts_in ys
texts-append [] ys = omega arith
texts-append (line text ∷ xs) ys = let e = texts-append xs ys in omega arith
texts-append (mark kind ∷ xs) ys = texts-append xs ys

-- packet lines that are only an error begin with no packet line
none-first : (e : Refusal) (xs : List Piece) (q : Pieces) → no_pieces e ≡ record { list = xs ++ q.list; end = q.end }
    → (xs ≡ []) × (q ≡ no_pieces e)
none-first e [] q h = (refl, sym h)
none-first e (x ∷ xs) q h = absurd (let i = ap (λ (p : Pieces). p.list) h in cc)

counted-before : (a b c : Reading) → NoFewer a b → NoFewer b c → (IsUncounted a b → ⊥) → IsUncounted a c → ⊥
counted-before a b c f g h k = let e = k.0 in let l = k.1 in h (omega (arith, f, g, e, l), omega (arith, f, g, e, l))

counted-after : (a b c : Reading) → NoFewer a b → NoFewer b c → (IsUncounted b c → ⊥) → IsUncounted a c → ⊥
counted-after a b c f g h k = let e = k.0 in let l = k.1 in h (omega (arith, f, g, e, l), k.1)

-- the packet lines still to come after two reads
left-after : (a b c : Reading) (rest left : Pieces) → NoFewer a b → NoFewer b c → IsLeft b c rest left
    → IsLeft a c rest left
left-after a b c rest left f g (inl e) = inl e
left-after a b c rest left f g (inr (inl e)) = inr (inl e)
left-after a b c rest left f g (inr (inr h)) = inr (inr (h.0, counted-after a b c f g h.1))

-- after the end nothing more was taken
takes-none : (m n : ℕ) (a b c : Reading) (p : Pieces) (e : Refusal) → NoFewer a b → NoFewer b c
    → (g : TakesTexts m a b p) → g.left ≡ no_pieces e → IsLeft a c g.rest (no_pieces e) → TakesTexts n b c g.left
    → TakesTexts (m + n) a c p
takes-none m n a b c p e f k g i s h =
    let none = none-first e h.taken h.rest (sym i ∙ h.begins) in
    let zero : 0 ≡ n = sym (ap texts_in none.0) ∙ h.texts in
    record {
      taken = g.taken;
      rest = g.rest;
      begins = g.begins;
      texts = let t = g.texts in omega (arith, t, zero);
      left = h.left;
      to_come = h.to_come;
      is_left = by h.is_left none.1;
    }
  where
    by : IsLeft b c h.rest h.left → h.rest ≡ no_pieces e → IsLeft a c g.rest h.left
    by (inl x) r = subst (IsLeft a c g.rest) (sym (x ∙ r)) s
    by (inr (inl x)) r = inr (inl x)
    by (inr (inr x)) r = inr (inr (x.0, counted-after a b c f k x.1))

takes-joins : (m n : ℕ) (a b c : Reading) (p : Pieces) → NoFewer a b → NoFewer b c → TakesTexts m a b p
    → IfSome b.to_come (TakesTexts n b c) → TakesTexts (m + n) a c p
takes-joins m n a b c p f k g h = by (subst (λ o. IfSome o (TakesTexts n b c)) g.to_come h) g.is_left
  where
    by : TakesTexts n b c g.left → IsLeft a b g.rest g.left → TakesTexts (m + n) a c p
    by h (inl e) = record {
      taken = g.taken ++ h.taken;
      rest = h.rest;
      begins = g.begins ∙ ap (λ (q : Pieces). record { list = g.taken ++ q.list; end = q.end }) (sym e ∙ h.begins)
          ∙ ap (λ xs. record { list = xs; end = h.rest.end }) (sym (append_assoc g.taken h.taken h.rest.list));
      texts = texts-append g.taken h.taken ∙ ap (λ x. x + texts_in h.taken) g.texts ∙ ap (λ x. m + x) h.texts;
      left = h.left;
      to_come = h.to_come;
      is_left = left-after a b c h.rest h.left f k h.is_left;
    }
    by h (inr (inl e)) = takes-none m n a b c p unexpected_frame f k g e (inr (inl refl)) h
    by h (inr (inr e)) = takes-none m n a b c p (io UnexpectedEof) f k g e.0 (inr (inr (refl, counted-before a b c f k e.1))) h

pub takes-all : (m n : ℕ) (a b c : Reading) → NoFewer a b → NoFewer b c → IfSome a.to_come (TakesTexts m a b)
    → IfSome b.to_come (TakesTexts n b c) → IfSome a.to_come (TakesTexts (m + n) a c)
takes-all m n a b c f k g h = at a.to_come g
  where
    at : (o : Option Pieces) → IfSome o (TakesTexts m a b) → IfSome o (TakesTexts (m + n) a c)
    at None g = tt
    at (Some p) g = takes-joins m n a b c p f k g h

-- nothing was taken
pub takes-nothing : (a b : Reading) → IfSome a.to_come (λ p. b.to_come ≡ Some p) → IfSome a.to_come (TakesTexts 0 a b)
takes-nothing a b h = at a.to_come h
  where
    at : (o : Option Pieces) → IfSome o (λ p. b.to_come ≡ Some p) → IfSome o (TakesTexts 0 a b)
    at None h = tt
    at (Some p) h = record { taken = []; rest = p; begins = refl; texts = refl; left = p; to_come = h; is_left = inl refl }

come-same : (o : Option Pieces) → IfSome o (λ p. o ≡ Some p)
come-same None = tt
come-same (Some p) = refl

module _ {I : Type 0} (polls : I → Bool → I → Type 0) where
  polls-then : (xs ys : List I) (stops : Bool) (a b c : I) → PollsEach polls xs false a b → PollsEach polls ys stops b c
      → PollsEach polls (xs ++ ys) stops a c
  polls-then [] ys stops a b c g h = subst (λ x. PollsEach polls ys stops x c) g h
  polls-then (x ∷ xs) ys stops a b c g h = (g.0, polls-then xs ys stops x b c g.1 h)

  -- the interrupt was not called
  pub asked-none : (a b : Reading) (x : I) → NoFewer a b → IfSome a.to_come (TakesTexts 0 a b) → Asked polls false a b x x
  asked-none a b x f h = record { after = []; polled = refl; failures = f; each = h }

  pub asked-stays : (r : Reading) (x : I) → Asked polls false r r x x
  asked-stays r x = asked-none r r x (omega arith) (takes-nothing r r (come-same r.to_come))

  -- calls of the interrupt, and then more calls
  pub asked-joins : (stops : Bool) (ra rb rc : Reading) (a b c : I) → Asked polls false ra rb a b → Asked polls stops rb rc b c
      → Asked polls stops ra rc a c
  asked-joins stops ra rb rc a b c g h = record {
    after = g.after ++ h.after;
    polled = polls-then g.after h.after stops a b c g.polled h.polled;
    failures = let x = g.failures in let y = h.failures in omega (arith, x, y);
    each =
        let n : (length g.after + 0) + (length h.after + one_if stops) ≡ length (g.after ++ h.after) + one_if stops =
        let l = length-append g.after h.after in omega (arith, l) in
        subst (λ n. IfSome ra.to_come (TakesTexts n ra rc)) n
        (takes-all (length g.after + 0) (length h.after + one_if stops) ra rb rc g.failures h.failures g.each h.each);
  }

  pub below-joins : (plain stops : Bool) (ra rb rc : Reading) (a b c : I) → AskedBelow polls plain false ra rb a b
      → AskedBelow polls plain stops rb rc b c → AskedBelow polls plain stops ra rc a c
  below-joins plain stops ra rb rc a b c (inr g) h = absurd (let e = g.1 in cc)
  below-joins plain stops ra rb rc a b c (inl g) (inl h) = inl (asked-joins stops ra rb rc a b c g h)
  below-joins plain stops ra rb rc a b c (inl g) (inr h) = inr (h.0, h.1, asked-joins false ra rb rc a b c g h.2)
