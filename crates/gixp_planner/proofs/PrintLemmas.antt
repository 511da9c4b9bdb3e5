-- What of a text is written so far, and what of it is held or to come.
use Rattle.std.proofs.Common.{inl, inr, ◌≡◌, ℕ, zero, suc, None, Some, ◌≤◌, arith, ◌+◌, List, [], ◌∷◌, ◌++◌, take, drop, flat_map, codes, Option, Result, Ok, Err, IfErr, refl, sym, ap, ◌∙◌, append_assoc, append-nil, length, get_or, ◌<◌, take-append-drop, subst}
use Rattle.std.specs.Io.{WritesAtMost}
use Rattle.std.specs.declared.io.Error.{Error as IoError}
use Rattle.std.specs.declared.io.ErrorKind.{ErrorKind}
use Rattle.std.specs.declared.io.ErrorKind.TheVariants.{Interrupted, OutOfMemory}
use Rattle.std.specs.IoError.{error_kind}
use Rattle.std.specs.Io.KnownBytes.{Appends, Keeps, WriteAppends}
use Rattle.std.proofs.KnownBytes.{Appends-nil, Appends-trans, Appends-kept}
use Rattle.gixp_packetline.specs.Frames.{Frame, frames_of, with_frame}
use Rattle.std.specs.Option.{option_map}
use Rattle.bstr.specs.Owned.{bstring_bytes}
use Rattle.gixp_matching.specs.declared.match_group.validate.Fix.{Fix}
use Rattle.gixp_matching.specs.Validate.{removed_of}
use Rattle.gixp_refmap.specs.declared.refmap.mapping.Mapping.{Mapping}
use Rattle.gixp_refmap.specs.Mapping.{source_id, source_name}
use Rattle.gixp_planner.specs.declared.error.PlanError.{PlanError}
use Rattle.gixp_planner.specs.Refusal.{refusal_of, IsUnwritten, amount_value, failed_amount, written_amount, device_refusal, AnswersWrite}
use Rattle.gixp_planner.specs.Written.{WritesPart, WritesBeginning, WritesPlan, WritesSome, HoldsRest, EndsInFlush, flushed, unwritten}
use Rattle.gixp_planner.proofs.ListLemmas.{left-at}
use Rattle.gixp_utils.specs.Pieces.{joined}
use Rattle.gixp_refmap.specs.MappingNames.{name_or_dash}
use Rattle.gixp_planner.specs.Text.{frame_content, frame_shown, request_shown, requests_after, id_shown, mapping_shown, fix_shown}

-- nothing of a text is written yet
pub part-none : (a : Option (List ℕ)) (text : List ℕ) → WritesPart a a text text
part-none a text = record { done = []; written = Appends-nil a; whole = refl }

pub part-all : (a b : Option (List ℕ)) (text : List ℕ) → Appends a b text → WritesPart a b [] text
part-all a b text k = record { done = text; written = k; whole = sym (append-nil text) }

-- of what was left some more is written
pub part-more : (a b c : Option (List ℕ)) (left rest text : List ℕ) → WritesPart a b left text → WritesPart b c rest left
    → WritesPart a c rest text
part-more a b c left rest text h k = record {
  done = h.done ++ k.done;
  written = Appends-trans a b c h.done k.done h.written k.written;
  whole = h.whole ∙ ap (λ l. h.done ++ l) k.whole ∙ sym (append_assoc h.done k.done rest);
}

-- more is to come behind it
pub part-following : (a b : Option (List ℕ)) (left text more : List ℕ) → WritesPart a b left text
    → WritesPart a b (left ++ more) (text ++ more)
part-following a b left text more h = record {
  done = h.done;
  written = h.written;
  whole = ap (λ l. l ++ more) h.whole ∙ append_assoc h.done left more;
}

-- none of it is written
pub written_none : (a : Option (List ℕ)) (text : List ℕ) → WritesBeginning a a text
written_none a text = (text, part-none a text)

-- all of it is
pub written-all : (a b : Option (List ℕ)) (text : List ℕ) → Appends a b text → WritesBeginning a b text
written-all a b text k = ([], part-all a b text k)

-- where a write failed and isn't refused, it was interrupted, and took nothing
none-taken : (kind : ErrorKind) (n : ℕ) → Ok n ≡ failed_amount kind → n ≡ 0
none-taken Interrupted n h = cc
none-taken _ n h = cc

-- what is kept grows by nothing
appends-nothing : (a b : Option (List ℕ)) → Keeps a b → Appends a b []
appends-nothing None b k = tt
appends-nothing (Some xs) None k = absurd k
appends-nothing (Some xs) (Some ys) k = k ∙ sym (append-nil xs)

keeps-nothing : (a b : Option (List ℕ)) → Appends a b [] → Keeps a b
keeps-nothing None b k = tt
keeps-nothing (Some xs) None k = absurd k
keeps-nothing (Some xs) (Some ys) k = k ∙ append-nil xs

-- what a write took of a text is as much as is told of it
pub some-written : (a b : Option (List ℕ)) (text : List ℕ) (written : Result ℕ IoError) (r : Result ℕ PlanError)
    → WritesAtMost written text → WriteAppends a b written text → amount_value r ≡ written_amount written → IfErr r IsUnwritten
    → WritesSome a b text r
some-written a b text (Ok zero) (Ok n) most k h u = cc
some-written a b text (Ok zero) (Err e) most k h u = (keeps-nothing a b k, u)
some-written a b text (Ok (suc m)) (Ok n) most k h u =
    let same : n ≡ suc m = cc in
    subst (λ it. (it ≤ length text) × Appends a b (take it text)) (sym same) (most, k)
some-written a b text (Ok (suc m)) (Err e) most k h u = cc
some-written a b text (Err x) (Ok n) most k h u =
    subst (λ it. (it ≤ length text) × Appends a b (take it text)) (sym (none-taken (error_kind x) n h)) (omega arith, appends-nothing a b k)
some-written a b text (Err x) (Err e) most k h u = (k, u)

-- of a text so many bytes more are written
pub written-more : (a b c : Option (List ℕ)) (left all : List ℕ) (n : ℕ) → WritesPart a b left all → Appends b c (take n left)
    → WritesPart a c (drop n left) all
written-more a b c left all n h k =
    part-more a b c left (drop n left) all h (record { done = take n left; written = k; whole = sym (take-append-drop n left) })

-- all of it is, and none of it is left in the writer, though that may fail
pub written-flushed : (a b c : Option (List ℕ)) (text : List ℕ) (r : Result (Unit {0}) PlanError) → Appends a b text → Keeps b c
    → IfErr r IsUnwritten → WritesPlan a c text r
written-flushed a b c text (Ok x) h k u = Appends-kept a b c text h k
written-flushed a b c text (Err e) h k u = (written-all a c text (Appends-kept a b c text h k), u)

-- by whichever kind a flush failed
device-unwritten : (kind : ErrorKind) (e : PlanError) → refusal_of e ≡ device_refusal kind → IsUnwritten e
device-unwritten OutOfMemory e h = inr h
device-unwritten _ e h = inl h

answer-unwritten : (answer : Result (Unit {0}) IoError) (r : Result (Unit {0}) PlanError) → AnswersWrite answer r → IfErr r IsUnwritten
answer-unwritten answer (Ok x) h = tt
answer-unwritten (Ok x) (Err e) h = cc
answer-unwritten (Err x) (Err e) h = device-unwritten (error_kind x) e h

-- a text is written, of which a flush that keeps what the writer has left none in it
pub ended-in-flush : {W : Type 0} (contents : W → Option (List ℕ)) (Flushes : W → Result (Unit {0}) IoError → W → Type 0) (text : List ℕ)
    (old new : W) (r : Result (Unit {0}) PlanError)
    → ((mid : W) (answer : Result (Unit {0}) IoError) (last : W) → Flushes mid answer last → Keeps (contents mid) (contents last))
    → EndsInFlush contents Flushes text old new r → WritesPlan (contents old) (contents new) text r
ended-in-flush contents Flushes text old new r keeps (flushed mid answer written made h) =
    written-flushed _ _ _ text r written (keeps mid answer new made) (answer-unwritten answer r h)
ended-in-flush contents Flushes text old new r keeps (unwritten e is begun h) = rw is (begun, h)

-- what was left is written at the end
pub part-end : (a b c : Option (List ℕ)) (left text : List ℕ) (r : Result (Unit {0}) PlanError) → WritesPart a b left text
    → WritesPlan b c left r → WritesPlan a c text r
part-end a b c left text (Ok x) h k = subst (Appends a c) (sym h.whole) (Appends-trans a b c h.done left h.written k)
part-end a b c left text (Err e) h k = ((k.0.0, part-more a b c left k.0.0 text h k.0.1), k.1)

-- a text behind another that is held
pub then-part : (a b : Option (List ℕ)) (held next x y : List ℕ) → WritesPart a b next (held ++ x)
    → WritesPart a b (next ++ y) (held ++ (x ++ y))
then-part a b held next x y h =
    subst (λ text. WritesPart a b (next ++ y) text) (append_assoc held x y) (part-following a b next (held ++ x) y h)

pub then-more : (a b c : Option (List ℕ)) (held next last x y : List ℕ) → WritesPart a b next (held ++ x)
    → WritesPart b c last (next ++ y) → WritesPart a c last (held ++ (x ++ y))
then-more a b c held next last x y h k = part-more a b c (next ++ y) last (held ++ (x ++ y)) (then-part a b held next x y h) k

pub then-fails : (a b : Option (List ℕ)) (held x y all : List ℕ) → WritesBeginning a b (held ++ x) → all ≡ x ++ y
    → WritesBeginning a b (held ++ all)
then-fails a b held x y all h e =
    subst (λ t. WritesBeginning a b (held ++ t)) (sym e) (h.0 ++ y, then-part a b held h.0 x y h.1)

pub then-rest : (a b c : Option (List ℕ)) (held next last x y all : List ℕ) (r : Result (Unit {0}) PlanError)
    → WritesPart a b next (held ++ x) → HoldsRest b c last (next ++ y) r → all ≡ x ++ y → HoldsRest a c last (held ++ all) r
then-rest a b c held next last x y all (Ok u) h k e =
    subst (λ t. WritesPart a c last (held ++ t)) (sym e) (then-more a b c held next last x y h k)
then-rest a b c held next last x y all (Err error) h k e =
    (subst (λ t. WritesBeginning a c (held ++ t)) (sym e) (k.0.0, then-more a b c held next k.0.0 x y h k.0.1), k.1)

-- two texts, the first of which fails, or is there once the second is
pub first_fails : (a b : Option (List ℕ)) (held x y : List ℕ) → WritesBeginning a b (held ++ x) → WritesBeginning a b (held ++ (x ++ y))
first_fails a b held x y h = then-fails a b held x y (x ++ y) h refl

pub second_rests : (a b c : Option (List ℕ)) (held next last x y : List ℕ) (r : Result (Unit {0}) PlanError)
    → WritesPart a b next (held ++ x) → HoldsRest b c last (next ++ y) r → HoldsRest a c last (held ++ (x ++ y)) r
second_rests a b c held next last x y r h k = then-rest a b c held next last x y (x ++ y) r h k refl

-- the same where nothing was held before, and nothing is afterwards
pub course_fails : (a b : Option (List ℕ)) (held x y : List ℕ) → WritesBeginning a b (held ++ x) → held ≡ []
    → WritesBeginning a b (x ++ y)
course_fails a b held x y h e = subst (λ t. WritesBeginning a b (t ++ (x ++ y))) e (first_fails a b held x y h)

pub course_ends : (a b c : Option (List ℕ)) (held next x y : List ℕ) (r : Result (Unit {0}) PlanError) → held ≡ []
    → WritesPart a b next (held ++ x) → WritesPlan b c (next ++ y) r → WritesPlan a c (x ++ y) r
course_ends a b c held next x y r e h k = part-end a b c (next ++ y) (x ++ y) r
    (subst (λ t. WritesPart a b (next ++ y) (t ++ (x ++ y))) e (then-part a b held next x y h)) k

-- the next of what is to come behind a text that is held
pub next-part : (a b c : Option (List ℕ)) (held next left x rest whole : List ℕ) → WritesPart a b (held ++ left) whole
    → left ≡ x ++ rest → WritesPart b c next (held ++ x) → WritesPart a c (next ++ rest) whole
next-part a b c held next left x rest whole h e k =
    part-more a b c (held ++ left) (next ++ rest) whole h
    (subst (λ l. WritesPart b c (next ++ rest) (held ++ l)) (sym e) (then-part b c held next x rest k))

pub next-fails : (a b c : Option (List ℕ)) (held left x rest whole : List ℕ) → WritesPart a b (held ++ left) whole
    → left ≡ x ++ rest → WritesBeginning b c (held ++ x) → WritesBeginning a c whole
next-fails a b c held left x rest whole h e k = (k.0 ++ rest, next-part a b c held k.0 left x rest whole h e k.1)

-- each of a list
pub each-next : {X : Type 0} (show : X → List ℕ) (xs : List X) (i : ℕ) (x : X) → i < length xs → x ≡ get_or xs i x
    → flat_map show (drop i xs) ≡ show x ++ flat_map show (drop (i + 1) xs)
each-next show xs i x h e = ap (flat_map show) (left-at xs i x h e)

pub requests-next : (k : ℕ) (left rest : List (List ℕ)) (r s : List ℕ) → left ≡ r ∷ rest → s ≡ r
    → requests_after k left ≡ request_shown (k + 1) (frames_of s).list ++ requests_after (k + 1) rest
requests-next k left rest r s e f = ap (requests_after k) e
    ∙ ap (λ t. request_shown (k + 1) (frames_of t).list ++ requests_after (k + 1) rest) (sym f)

pub lines-next : (rest following text : List ℕ) (f : Frame) → frames_of rest ≡ with_frame f (frames_of following) → text ≡ frame_content f
    → flat_map frame_shown (frames_of rest).list
    ≡ joined (codes "> " ∷ text ∷ codes "\n" ∷ []) ++ flat_map frame_shown (frames_of following).list
lines-next rest following text f e k = ap (λ fs. flat_map frame_shown fs.list) e
    ∙ ap (λ t. joined (codes "> " ∷ t ∷ codes "\n" ∷ []) ++ flat_map frame_shown (frames_of following).list) (sym k)

-- a mapping by its pieces
pub mapping-pieces : (m : Mapping) (id name local : List ℕ) → id ≡ id_shown (source_id m.remote)
    → name ≡ name_or_dash (source_name m.remote) → local ≡ name_or_dash (option_map bstring_bytes m.local)
    → joined (codes "map " ∷ id ∷ codes " " ∷ name ∷ codes " " ∷ local ∷ codes "\n" ∷ []) ≡ mapping_shown m
mapping-pieces m id name local e f g =
    ap (λ t. joined (codes "map " ∷ t ∷ codes " " ∷ name ∷ codes " " ∷ local ∷ codes "\n" ∷ [])) e
    ∙ ap (λ t. joined (codes "map " ∷ id_shown (source_id m.remote) ∷ codes " " ∷ t ∷ codes " " ∷ local ∷ codes "\n" ∷ [])) f
    ∙ ap (λ t. joined (codes "map " ∷ id_shown (source_id m.remote) ∷ codes " " ∷ name_or_dash (source_name m.remote) ∷ codes " " ∷ t
    ∷ codes "\n" ∷ [])) g

-- a mapping that was taken out by its pieces
pub fix-pieces : (f : Fix) (name spec : List ℕ) → name ≡ name_or_dash (removed_of f).name → spec ≡ (removed_of f).spec
    → joined (codes "fix " ∷ name ∷ codes " " ∷ spec ∷ codes "\n" ∷ []) ≡ fix_shown f
fix-pieces f name spec d e = ap (λ t. joined (codes "fix " ∷ t ∷ codes " " ∷ spec ∷ codes "\n" ∷ [])) d
    ∙ ap (λ t. joined (codes "fix " ∷ name_or_dash (removed_of f).name ∷ codes " " ∷ t ∷ codes "\n" ∷ [])) e
