-- The refs of lines, read one line at a time.
use Rattle.std.proofs.Common.{◌≡◌, ℕ, inl, inr, Bool, true, List, [], ◌∷◌, ◌++◌, map, refl, sym, ap, subst, ◌∙◌, Option, Some, None, IfSome, Result, Ok, Err, append-nil, append_assoc}
use Rattle.std.proofs.lemmas.List.{map-append}
use Rattle.gixp_packetline.specs.Pieces.{Refusal, Pieces}
use Rattle.gixp_packetline.specs.Lines.{Ending, stop, refusal, before, lines_to}
use Rattle.gixp_packetline.specs.Reading.{Reading, TakesLine, AtStop, Fails, IsPlain, lines_ahead}
use Rattle.gixp_refs.specs.declared.handshake.Ref.{Ref}
use Rattle.gixp_refs.specs.declared.handshake.refs.parse.Error.{Error}
use Rattle.gixp_refs.specs.declared.handshake.refs.parse.Error.TheVariants.{Memory}
use Rattle.gixp_refs.specs.Ref.{RefValue, ref_value}
use Rattle.gixp_refs.specs.RefLine.{RefsRefusal, refusal_from, v2_line}
use Rattle.gixp_refs.specs.ParseError.{AnswersRefs, parse_refusal}
use Rattle.gixp_refs.specs.Refs.{with_ref, refs_from, v2_refs, AreRefs, ReadsRefs, RefsFail, RefsSoFar, NextRef, NextOfRefs}
use Rattle.gixp_packetline.proofs.ReadingLemmas.{so_far-start, so_far-line, so_far-at_stop, so_far-refuses}

-- these refs before the others
abbrev following : List RefValue → Result (List RefValue) RefsRefusal → Result (List RefValue) RefsRefusal
following vs (Ok ws) = Ok (vs ++ ws)
following vs (Err e) = Err e

with_ref-following : (v : RefValue) (vs : List RefValue) (r : Result (List RefValue) RefsRefusal)
    → with_ref (Ok v) (following vs r) ≡ following (v ∷ vs) r
with_ref-following v vs (Ok ws) = refl
with_ref-following v vs (Err e) = refl

none_after : (r : Result (List RefValue) RefsRefusal) → r ≡ following [] r
none_after (Ok ws) = refl
none_after (Err e) = refl

-- lines that have refs, before other lines
refs_following : (ts rest : List (List ℕ)) (vs : List RefValue) (ending : Ending) → AreRefs ts vs
    → refs_from (ts ++ rest) ending ≡ following vs (refs_from rest ending)
refs_following [] rest [] ending h = none_after (refs_from rest ending)
refs_following [] rest (v ∷ vs) ending h = absurd h
refs_following (t ∷ ts) rest [] ending h = absurd h
refs_following (t ∷ ts) rest (v ∷ vs) ending h =
    let one : v2_line t ≡ Ok v = h.0 in
    rw (one, refs_following ts rest vs ending h.1) (with_ref-following v vs (refs_from rest ending))

AreRefs-push : (ts : List (List ℕ)) (vs : List RefValue) (t : List ℕ) (v : RefValue) → AreRefs ts vs → v2_line t ≡ Ok v
    → AreRefs (ts ++ t ∷ []) (vs ++ v ∷ [])
AreRefs-push [] [] t v h e = (e, tt)
AreRefs-push [] (w ∷ vs) t v h e = absurd h
AreRefs-push (s ∷ ts) [] t v h e = absurd h
AreRefs-push (s ∷ ts) (w ∷ vs) t v h e = (h.0, AreRefs-push ts vs t v h.1 e)

-- lines that have refs, and then an end
refs_all : (texts : List (List ℕ)) (vs : List RefValue) (ending : Ending) → AreRefs texts vs
    → v2_refs (lines_to texts ending) ≡ following vs (refs_from [] ending)
refs_all texts vs ending h = ap (λ l. refs_from l ending) (sym (append-nil texts)) ∙ refs_following texts [] vs ending h

all_known : (r : Reading) (o n : Option Pieces) (texts : List (List ℕ)) (vs : List RefValue) (kind : _) → AreRefs texts vs
    → IfSome o (λ p. (q : Pieces) × (n ≡ Some q) × (lines_ahead r p ≡ lines_to texts (stop kind q)))
    → IfSome o (λ p. v2_refs (lines_ahead r p) ≡ Ok vs)
all_known r None n texts vs kind h k = tt
all_known r (Some p) n texts vs kind h k = ap v2_refs k.2 ∙ refs_all texts vs (stop kind k.0) h ∙ ap Ok (append-nil vs)

-- before the first call there are no refs
pub refs-start : (r : Reading) → RefsSoFar r r []
refs-start r = record { texts = []; read = so_far-start r; refs = tt }

-- at the stop all lines were read
pub refs-stop : (old mid new : Reading) (refs : List Ref) → RefsSoFar old mid (map ref_value refs) → AtStop mid new → ReadsRefs old new refs
refs-stop old mid new refs h k =
    let all = so_far-at_stop old mid new h.texts h.read k in
    record {
      kind = all.kind;
      texts = h.texts;
      lines = all.lines;
      values = h.refs;
      value = all_known old old.to_come new.to_come h.texts (map ref_value refs) all.kind h.refs all.lines;
      stopped = all.stopped;
      version = all.version;
      failures = all.failures;
      held = all.held;
    }

line_refused : (r s : Reading) (o n : Option Pieces) (texts : List (List ℕ)) (t : List ℕ) (vs : List RefValue) (e : RefsRefusal)
    → AreRefs texts vs → v2_line t ≡ Err e
    → IfSome o (λ p. (q : Pieces) × (n ≡ Some q) × (lines_ahead r p ≡ before (texts ++ t ∷ []) (lines_ahead s q)))
    → IfSome o (λ p. v2_refs (lines_ahead r p) ≡ Err e)
line_refused r s None n texts t vs e h is a = tt
line_refused r s (Some p) n texts t vs e h is a =
    let rest = lines_ahead s a.0 in
    ap v2_refs a.2 ∙ ap (λ l. refs_from l rest.ending) (append_assoc texts (t ∷ []) rest.lines)
    ∙ refs_following texts (t ∷ rest.lines) vs rest.ending h ∙ (rw is refl)

-- an error of a line is the first error
pub refs-refused : (plain : Bool) (old mid new : Reading) (vs : List RefValue) (e : Error) (o : Result RefValue RefsRefusal)
    → RefsSoFar old mid vs → TakesLine mid new
    → v2_line new.line ≡ o → AnswersRefs ref_value o (Err e) → RefsFail plain old new e
refs-refused plain old mid new vs e (Ok v) h k is a =
    inr (inr (inr (record {
      taken = h.texts ++ new.line ∷ [];
      read = so_far-line old mid new h.texts h.read k;
      stopped = k.stopped;
      error = a;
    })))
refs-refused plain old mid new vs e (Err r) h k is a =
    let read = so_far-line old mid new h.texts h.read k in
    inl (record {
      taken = h.texts ++ new.line ∷ [];
      read = read;
      refusal = r;
      last = record { before = h.texts; text = new.line; split = refl; refs = (vs, h.refs); line = is };
      first = line_refused old new old.to_come new.to_come h.texts new.line vs r h.refs is read.next;
      error = a;
    })

reader_known : (r : Reading) (o : Option Pieces) (texts : List (List ℕ)) (vs : List RefValue) (e : Refusal) → AreRefs texts vs
    → IfSome o (λ p. lines_ahead r p ≡ lines_to texts (refusal e)) → IfSome o (λ p. v2_refs (lines_ahead r p) ≡ Err (refusal_from e))
reader_known r None texts vs e h a = tt
reader_known r (Some p) texts vs e h a = ap v2_refs a ∙ refs_all texts vs (refusal e) h

-- an error of the reader is the first one, or it is an I/O error, an interrupt or an allocation failure
pub refs-reader : (plain : Bool) (old mid new : Reading) (vs : List RefValue) (r : Refusal) (e : Error) → RefsSoFar old mid vs
    → Fails mid new r
    → (plain ≡ true → IsPlain new r) → parse_refusal e ≡ refusal_from r → RefsFail plain old new e
refs-reader plain old mid new vs r e h (inl k) p is =
    inr (inl (record {
      taken = h.texts;
      now = mid;
      read = h.read;
      refusal = r;
      refused = k;
      first = reader_known old old.to_come h.texts vs r h.refs (so_far-refuses old mid new h.texts r h.read k);
      error = is;
    }))
refs-reader plain old mid new vs r e h (inr k) p is =
    inr (inr (inl (record { taken = h.texts; now = mid; read = h.read; refusal = r; failed = k; is_plain = p; error = is })))

map_push : (refs more : List Ref) (r : Ref) → more ≡ refs ++ r ∷ [] → map ref_value more ≡ map ref_value refs ++ ref_value r ∷ []
map_push refs more r e = rw e (map-append ref_value refs (r ∷ []))

pub refs-pushed : (old mid new : Reading) (refs more : List Ref) (r : Ref) (o : Result RefValue RefsRefusal)
    → RefsSoFar old mid (map ref_value refs) → TakesLine mid new
    → v2_line new.line ≡ o → AnswersRefs ref_value o (Ok r) → more ≡ refs ++ r ∷ [] → RefsSoFar old new (map ref_value more)
refs-pushed old mid new refs more r (Ok v) h k is a e =
    let same : v2_line new.line ≡ Ok (ref_value r) = is ∙ ap Ok (sym a) in
    subst (RefsSoFar old new) (sym (map_push refs more r e))
    (record {
      texts = h.texts ++ new.line ∷ [];
      read = so_far-line old mid new h.texts h.read k;
      refs = AreRefs-push h.texts (map ref_value refs) new.line (ref_value r) h.refs same;
    })
refs-pushed old mid new refs more r (Err x) h k is a e = absurd a

-- an allocation failed after a line
pub refs-memory : (plain : Bool) (old mid new : Reading) (vs : List RefValue) → RefsSoFar old mid vs → TakesLine mid new
    → RefsFail plain old new Memory
refs-memory plain old mid new vs h k =
    inr (inr (inr (record {
      taken = h.texts ++ new.line ∷ [];
      read = so_far-line old mid new h.texts h.read k;
      stopped = k.stopped;
      error = refl;
    })))

first_known : (r s : Reading) (o n : Option Pieces) (t : List ℕ) (v : RefValue) → v2_line t ≡ Ok v
    → IfSome o (λ p. (q : Pieces) × (n ≡ Some q) × (lines_ahead r p ≡ before (t ∷ []) (lines_ahead s q)))
    → IfSome o (λ p. (q : Pieces) × (n ≡ Some q) × (v2_refs (lines_ahead r p) ≡ with_ref (Ok v) (v2_refs (lines_ahead s q))))
first_known r s None n t v is a = tt
first_known r s (Some p) n t v is a = (a.0, a.1, ap v2_refs a.2 ∙ (rw is refl))

-- the ref of a line that was taken is the first one to come
pub next-value : (old new : Reading) (v : RefValue) → TakesLine old new → v2_line new.line ≡ Ok v
    → IfSome old.to_come (λ p. (q : Pieces) × (new.to_come ≡ Some q)
    × (v2_refs (lines_ahead old p) ≡ with_ref (Ok v) (v2_refs (lines_ahead new q))))
next-value old new v k is =
    first_known old new old.to_come new.to_come new.line v is (so_far-line old old new [] (so_far-start old) k).next

-- the ref of a line is the first one to come
pub next-found : (plain : Bool) (old new : Reading) (r : Ref) (o : Result RefValue RefsRefusal) → TakesLine old new
    → v2_line new.line ≡ o → AnswersRefs ref_value o (Ok r)
    → NextOfRefs plain old new (Ok (Some r))
next-found plain old new r (Ok v) k is a = next-value old new (ref_value r) k (is ∙ ap Ok (sym a))
next-found plain old new r (Err x) k is a = absurd a

-- at a stop there are no refs
pub next-none : (plain : Bool) (old new : Reading) → AtStop old new → NextOfRefs plain old new (Ok None)
next-none plain old new k = refs-stop old old new [] (refs-start old) k

-- an error of one call is the error of all
pub next-refused : (plain : Bool) (old mid new : Reading) (vs : List RefValue) (e : Error) → RefsSoFar old mid vs
    → NextRef plain mid new (Err e) → RefsFail plain old new e
next-refused plain old mid new vs e h (inl k) = refs-refused plain old mid new vs e (v2_line new.line) h k.0 refl k.1
next-refused plain old mid new vs e h (inr k) = refs-reader plain old mid new vs k.refusal e h k.failed k.is_plain k.error

-- one more ref, by the contract of the call for it
pub next-pushed : (plain : Bool) (old mid new : Reading) (refs more : List Ref) (r : Ref) → RefsSoFar old mid (map ref_value refs)
    → NextRef plain mid new (Ok (Some r)) → more ≡ refs ++ r ∷ []
    → RefsSoFar old new (map ref_value more)
next-pushed plain old mid new refs more r h k e = refs-pushed old mid new refs more r (v2_line new.line) h k.0 refl k.1 e
