-- The lines of an answer, one after the other.
use Rattle.std.proofs.Common.{◌≡◌, ℕ, ◌+◌, ◌<◌, zero, suc, Bool, true, false, List, [], ◌∷◌, ◌++◌, length, take, flat_map, get_or, Option, Some, None, IfSome, ap, refl, sym, ◌∙◌, subst, append-nil, append_assoc, arith}
use Rattle.std.specs.Prelude.{◌&&◌}
use Rattle.std.specs.Io.BufRead.{take_through, drop_through, DropsThrough}
use Rattle.std.specs.Io.KnownBytes.{Appends, Keeps}
use Rattle.std.proofs.lemmas.List.{take_more}
use Rattle.std.proofs.lemmas.Grind.{flat_map-append}
use Rattle.bstr.specs.Owned.{bstring_bytes}
use Rattle.bstr.specs.declared.bstring.BString.{BString}
use Rattle.gixp_remote_rules.specs.declared.relay_answer.AnswerLine.{AnswerLine}
use Rattle.gixp_remote_rules.specs.declared.relay_answer.AnswerLine.TheVariants.{Text, Cut}
use Rattle.gixp_remote_rules.specs.RelayAnswer.{answer_line, is_text, after_lines, line_at, first_lines, are_text, last_line, CopiesAnswer, RepliesAll, RepliesNotAll}

-- so many lines were copied
pub record CopiedSoFar (output : List ℕ) (left written now : Option (List ℕ)) (n : ℕ) : Type 0 where
  pub text : are_text n output ≡ true
  pub rest : left ≡ Some (after_lines n output)
  pub copied : Appends written now (first_lines n output)

abbrev pub Copying : (before left written now : Option (List ℕ)) → Type 0
Copying before left written now = IfSome before (λ output. (n : ℕ) × CopiedSoFar output left written now n)

-- the line that was read
abbrev pub ReadsLineOf : (left : Option (List ℕ)) → List ℕ → Type 0
ReadsLineOf left line = IfSome left (λ output. line ≡ take_through 10 output)

pub appends_nothing : (known : Option (List ℕ)) → Appends known known []
appends_nothing None = tt
appends_nothing (Some xs) = sym (append-nil xs)

pub appends_both : (old mid new : Option (List ℕ)) (xs ys : List ℕ) → Appends old mid xs → Appends mid new ys → Appends old new (xs ++ ys)
appends_both None mid new xs ys p q = tt
appends_both (Some a) None new xs ys p q = absurd p
appends_both (Some a) (Some b) None xs ys p q = absurd q
appends_both (Some a) (Some b) (Some c) xs ys p q = q ∙ ap (λ v. v ++ ys) p ∙ append_assoc a xs ys

appends_kept : (old mid new : Option (List ℕ)) (xs : List ℕ) → Appends old mid xs → Keeps mid new → Appends old new xs
appends_kept None mid new xs p q = tt
appends_kept (Some a) None new xs p q = absurd p
appends_kept (Some a) (Some b) None xs p q = absurd q
appends_kept (Some a) (Some b) (Some c) xs p q = q ∙ p

-- a text more
pub text_sent : (options : List BString) (i : ℕ) (x : BString) (old mid wrote new : Option (List ℕ)) (text : List ℕ)
    → i < length options → x ≡ get_or options i x → text ≡ bstring_bytes x
    → Appends old mid (flat_map bstring_bytes (take i options)) → Appends mid wrote text → Keeps wrote new
    → Appends old new (flat_map bstring_bytes (take (i + 1) options))
text_sent options i x old mid wrote new text l e h a b k =
    let flat : flat_map bstring_bytes (take (i + 1) options) ≡ flat_map bstring_bytes (take i options) ++ bstring_bytes x =
    ap (λ (xs : List BString). flat_map bstring_bytes xs) (take_more options i x l ∙ ap (λ y. take i options ++ y ∷ []) (sym e))
    ∙ flat_map-append bstring_bytes (take i options) (x ∷ [])
    ∙ ap (λ t. flat_map bstring_bytes (take i options) ++ t) (append-nil (bstring_bytes x))
    in
    subst (λ t. Appends old new t) (sym flat)
    (appends_kept old wrote new _ (appends_both old mid wrote (flat_map bstring_bytes (take i options)) (bstring_bytes x) a
    (subst (λ t. Appends mid wrote t) h b)) k)

both_true : (a b : Bool) → a ≡ true → b ≡ true → (a && b) ≡ true
both_true true b p q = q
both_true false b p q = p

the_line : (left : Option (List ℕ)) (output line : List ℕ) → left ≡ Some output → ReadsLineOf left line → line ≡ take_through 10 output
the_line left output line e r = subst (λ (v : Option (List ℕ)). ReadsLineOf v line) e r

the_rest : (left next : Option (List ℕ)) (output : List ℕ) → left ≡ Some output → DropsThrough left next 10 → next ≡ Some (drop_through 10 output)
the_rest left next output e d = subst (λ (v : Option (List ℕ)). DropsThrough v next 10) e d

pub copy_begins : (before written : Option (List ℕ)) → Copying before before written written
unfolding after_lines first_lines are_text
copy_begins None written = tt
copy_begins (Some output) written = (zero, record { text = refl; rest = refl; copied = appends_nothing written })

-- a line more
pub copy_goes_on : (before left next written now after : Option (List ℕ)) (line : List ℕ) → Copying before left written now
    → ReadsLineOf left line → DropsThrough left next 10 → answer_line line ≡ Text → Appends now after line
    → Copying before next written after
unfolding after_lines first_lines are_text
copy_goes_on None left next written now after line c r d k a = tt
copy_goes_on (Some output) left next written now after line c r d k a =
    let e : line ≡ line_at c.0 output = the_line left (after_lines c.0 output) line c.1.rest r in (
      suc c.0,
      record {
        text = both_true (are_text c.0 output) (is_text (answer_line (line_at c.0 output))) c.1.text
            (ap (λ l. is_text (answer_line l)) (sym e) ∙ ap is_text k);
        rest = the_rest left next (after_lines c.0 output) c.1.rest d;
        copied = appends_both written now after (first_lines c.0 output) (line_at c.0 output) c.1.copied
            (subst (λ l. Appends now after l) e a);
      },
    )

-- the last line
pub copy_ends : (is_whole : Bool) (before left next written now : Option (List ℕ)) (line : List ℕ) → Copying before left written now
    → ReadsLineOf left line → DropsThrough left next 10 → answer_line line ≡ last_line is_whole
    → CopiesAnswer is_whole before next written now
unfolding after_lines
copy_ends is_whole None left next written now line c r d k = tt
copy_ends is_whole (Some output) left next written now line c r d k =
    let e : line ≡ line_at c.0 output = the_line left (after_lines c.0 output) line c.1.rest r in (
      c.0,
      record {
        text = c.1.text;
        last = ap answer_line (sym e) ∙ k;
        rest = the_rest left next (after_lines c.0 output) c.1.rest d;
        copied = c.1.copied;
      },
    )

next_lines : (n : ℕ) (output : List ℕ) → after_lines (n + 1) output ≡ drop_through 10 (after_lines n output)
unfolding after_lines
next_lines n output = let e : n + 1 ≡ suc n = omega arith in ap (λ k. after_lines k output) e

pub replies_begin : (before : Option (List ℕ)) → RepliesAll 0 before before
unfolding after_lines
replies_begin None = tt
replies_begin (Some output) = refl

-- a reply more
pub replies_go_on : (n : ℕ) (before left next : Option (List ℕ)) → RepliesAll n before left → DropsThrough left next 10
    → RepliesAll (n + 1) before next
replies_go_on n None left next r d = tt
replies_go_on n (Some output) left next r d =
    the_rest left next (after_lines n output) r d ∙ ap Some (sym (next_lines n output))

-- no reply
pub replies_stop : (n count : ℕ) (before left : Option (List ℕ)) (line : List ℕ) → n < count → RepliesAll n before left
    → ReadsLineOf left line → answer_line line ≡ Cut → RepliesNotAll count before
replies_stop n count None left line l r d k = tt
replies_stop n count (Some output) left line l r d k =
    (n, l, ap answer_line (sym (the_line left (after_lines n output) line r d)) ∙ k)
