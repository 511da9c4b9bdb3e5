-- The groups of lines, read one line at a time.
use Rattle.std.proofs.Common.{◌≡◌, ℕ, inl, inr, Bool, true, List, [], ◌∷◌, ◌++◌, map, refl, sym, ap, subst, ◌∙◌, Option, Some, None, IfSome, MatchResult, Result, Ok, Err, append-nil, append_assoc}
use Rattle.gixp_packetline.specs.Pieces.{Refusal, Pieces}
use Rattle.gixp_packetline.specs.Lines.{refusal, before, lines_to}
use Rattle.gixp_packetline.specs.Reading.{Reading, TakesLine, AtStop, Fails, IsPlain, refusal_of, lines_ahead}
use Rattle.gixp_packetline.specs.declared.read.Error.{Error as ReadError}
use Rattle.gixp_refs.specs.declared.handshake.Ref.{Ref}
use Rattle.gixp_shallow.specs.declared.update.ShallowUpdate.{ShallowUpdate}
use Rattle.gixp_shallow.specs.declared.update.ShallowUpdate.TheVariants.{Shallow}
use Rattle.gixp_refs.specs.declared.handshake.refs.parse.Error.{Error}
use Rattle.gixp_refs.specs.declared.handshake.refs.parse.Error.TheVariants.{Memory}
use Rattle.gixp_refs.specs.Ref.{RefValue, ref_value}
use Rattle.gixp_refs.specs.RefLine.{RefsRefusal, refusal_from, and_then}
use Rattle.gixp_refs.specs.ParseError.{AnswersRefs, parse_refusal}
use Rattle.gixp_refs.specs.Refs.{with_ref}
use Rattle.gixp_packetline.specs.Runs.{SoFar}
use Rattle.gixp_refs.specs.RefAdvertisement.{Symref, V1Line, nothing, peels, names, shallows, v1_line, NamedRef, pair, closed, in_front, group_with, groups, v1_refs, with_update, v1_updates}
use Rattle.gixp_refs.specs.V1Line.{SoFarValue, nothing_so_far, with_pair, with_line, with_text}
use Rattle.gixp_refs.specs.V1Refs.{ReadsV1, V1Fails}
use Rattle.gixp_packetline.proofs.ReadingLemmas.{so_far-start, so_far-line, so_far-at_stop, so_far-refuses}

in_front_none : {A : Type 0} (r : Result (List A) RefsRefusal) → r ≡ in_front [] r
in_front_none (Ok xs) = refl
in_front_none (Err e) = refl

in_front_twice : {A : Type 0} (xs ys : List A) (r : Result (List A) RefsRefusal) → in_front xs (in_front ys r) ≡ in_front (xs ++ ys) r
in_front_twice xs ys (Ok zs) = ap Ok (sym (append_assoc xs ys zs))
in_front_twice xs ys (Err e) = refl

front_ref : (xs : List RefValue) (v : RefValue) (r : Result (List RefValue) RefsRefusal)
    → in_front xs (with_ref (Ok v) r) ≡ in_front (xs ++ v ∷ []) r
front_ref xs v (Ok vs) = ap Ok (sym (append_assoc xs (v ∷ []) vs))
front_ref xs v (Err e) = refl

abbrev Behind : Type 0
Behind = Option NamedRef → Result (List RefValue) RefsRefusal

-- after one line was added, the refs of all lines are those so far and those of the rest
abbrev Goes : SoFarValue → Result (List RefValue) RefsRefusal → Behind → SoFarValue → Type 0
Goes s all k now = in_front s.refs all ≡ in_front now.refs (k now.open_line)

pair_step : (s now : SoFarValue) (o : Result RefValue RefsRefusal) (k : Behind) → with_pair s o ≡ Ok now
    → Goes s (with_ref o (k None)) k now
pair_step s now (Ok v) k h =
    let made : SoFarValue = record { refs = s.refs ++ v ∷ []; open_line = None; updates = s.updates } in
    let e : made ≡ now = cc in
    subst (Goes s (with_ref (Ok v) (k None)) k) e (front_ref s.refs v (k None))
pair_step s now (Err x) k h = cc

line_step : (t : List Symref) (s now : SoFarValue) (l : Result V1Line RefsRefusal) (k : Behind) → and_then l (with_line t s) ≡ Ok now
    → Goes s (group_with t s.open_line l k) k now
line_step t s now (Err x) k h = cc
line_step t s now (Ok nothing) k h =
    let e : s ≡ now = cc in
    subst (Goes s (k s.open_line) k) e refl
line_step t s now (Ok (shallows id)) k h =
    let made : SoFarValue =
    record { refs = s.refs; open_line = s.open_line; updates = s.updates ++ Shallow (record { bytes = id }) ∷ [] } in
    let e : made ≡ now = cc in
    subst (Goes s (k s.open_line) k) e refl
line_step t s now (Ok (names object name)) k h =
    let line : NamedRef = record { object = object; name = name } in
    let made : SoFarValue = record { refs = s.refs ++ closed t s.open_line; open_line = Some line; updates = s.updates } in
    let e : made ≡ now = cc in
    subst (Goes s (in_front (closed t s.open_line) (k (Some line))) k) e (in_front_twice s.refs (closed t s.open_line) (k (Some line)))
line_step t s now (Ok (peels left base)) k h = pair_step s now (pair t s.open_line left base) k h

pair_updates : (s now : SoFarValue) (o : Result RefValue RefsRefusal) → with_pair s o ≡ Ok now → s.updates ≡ now.updates
pair_updates s now (Ok v) h =
    let made : SoFarValue = record { refs = s.refs ++ v ∷ []; open_line = None; updates = s.updates } in
    let e : made ≡ now = cc in
    ap (λ (x : SoFarValue). x.updates) e
pair_updates s now (Err x) h = cc

update_step : (t : List Symref) (s now : SoFarValue) (l : Result V1Line RefsRefusal) (us : List ShallowUpdate)
    → and_then l (with_line t s) ≡ Ok now → s.updates ++ with_update l us ≡ now.updates ++ us
update_step t s now (Err x) us h = cc
update_step t s now (Ok nothing) us h =
    let e : s ≡ now = cc in
    ap (λ (x : SoFarValue). x.updates ++ us) e
update_step t s now (Ok (shallows id)) us h =
    let one : ShallowUpdate = Shallow (record { bytes = id }) in
    let made : SoFarValue = record { refs = s.refs; open_line = s.open_line; updates = s.updates ++ one ∷ [] } in
    let e : made ≡ now = cc in
    sym (append_assoc s.updates (one ∷ []) us) ∙ ap (λ (x : SoFarValue). x.updates ++ us) e
update_step t s now (Ok (names object name)) us h =
    let made : SoFarValue = record {
      refs = s.refs ++ closed t s.open_line;
      open_line = Some (record { object = object; name = name });
      updates = s.updates;
    } in
    let e : made ≡ now = cc in
    ap (λ (x : SoFarValue). x.updates ++ us) e
update_step t s now (Ok (peels left base)) us h = ap (λ x. x ++ us) (pair_updates s now (pair t s.open_line left base) h)

pair_refused : (s : SoFarValue) (o : Result RefValue RefsRefusal) (r : RefsRefusal) (rest : Result (List RefValue) RefsRefusal)
    → with_pair s o ≡ Err r → with_ref o rest ≡ Err r
pair_refused s (Ok v) r rest h = cc
pair_refused s (Err e) r rest h =
    let same : e ≡ r = cc in
    ap Err same

line_refused : (t : List Symref) (s : SoFarValue) (l : Result V1Line RefsRefusal) (r : RefsRefusal) (k : Behind)
    → and_then l (with_line t s) ≡ Err r → group_with t s.open_line l k ≡ Err r
line_refused t s (Err e) r k h = cc
line_refused t s (Ok nothing) r k h = cc
line_refused t s (Ok (shallows id)) r k h = cc
line_refused t s (Ok (names object name)) r k h = cc
line_refused t s (Ok (peels left base)) r k h = pair_refused s (pair t s.open_line left base) r (k None) h

-- what the lines so far mean for the lines to come
pub record GroupsSoFar (t : List Symref) (texts : List (List ℕ)) (s : SoFarValue) : Type 0 where
  pub refs : (rest : List (List ℕ)) (end : Option RefsRefusal)
      → groups (texts ++ rest) end t None ≡ in_front s.refs (groups rest end t s.open_line)
  pub updates : (rest : List (List ℕ)) → v1_updates (texts ++ rest) ≡ s.updates ++ v1_updates rest

groups-start : (t : List Symref) → GroupsSoFar t [] nothing_so_far
groups-start t = record { refs = λ rest end. in_front_none (groups rest end t None); updates = λ rest. refl }

groups-line : (t : List Symref) (texts : List (List ℕ)) (text : List ℕ) (s now : SoFarValue) → GroupsSoFar t texts s
    → with_text t s text ≡ Ok now → GroupsSoFar t (texts ++ text ∷ []) now
groups-line t texts text s now h e = record {
  refs = λ rest end. ap (λ x. groups x end t None) (append_assoc texts (text ∷ []) rest) ∙ h.refs (text ∷ rest) end
      ∙ line_step t s now (v1_line text) (λ last. groups rest end t last) e;
  updates = λ rest. ap v1_updates (append_assoc texts (text ∷ []) rest) ∙ h.updates (text ∷ rest)
      ∙ update_step t s now (v1_line text) (v1_updates rest) e;
}

groups-refused : (t : List Symref) (texts : List (List ℕ)) (text : List ℕ) (rest : List (List ℕ)) (end : Option RefsRefusal)
    (s : SoFarValue) (r : RefsRefusal) → GroupsSoFar t texts s
    → with_text t s text ≡ Err r → groups ((texts ++ text ∷ []) ++ rest) end t None ≡ Err r
groups-refused t texts text rest end s r h e =
    ap (λ x. groups x end t None) (append_assoc texts (text ∷ []) rest) ∙ h.refs (text ∷ rest) end
    ∙ ap (in_front s.refs) (line_refused t s (v1_line text) r (λ last. groups rest end t last) e)

groups-all : (t : List Symref) (texts : List (List ℕ)) (end : Option RefsRefusal) (s : SoFarValue) → GroupsSoFar t texts s
    → groups texts end t None ≡ in_front s.refs (groups [] end t s.open_line)
groups-all t texts end s h = ap (λ x. groups x end t None) (sym (append-nil texts)) ∙ h.refs [] end

updates-all : (t : List Symref) (texts : List (List ℕ)) (s : SoFarValue) → GroupsSoFar t texts s → s.updates ≡ v1_updates texts
updates-all t texts s h = sym (append-nil s.updates) ∙ sym (h.updates []) ∙ ap v1_updates (append-nil texts)

-- the lines read so far, and the state after them
pub record V1Known (t : List Symref) (old now : Reading) (s : SoFarValue) : Type 0 where
  pub texts : List (List ℕ)
  pub read : SoFar old now texts
  pub lines : GroupsSoFar t texts s

pub v1-start : (t : List Symref) (r : Reading) (s : SoFarValue) → s ≡ nothing_so_far → V1Known t r r s
v1-start t r s e = subst (V1Known t r r) (sym e) (record { texts = []; read = so_far-start r; lines = groups-start t })

pub v1-line : (t : List Symref) (old mid new : Reading) (s now : SoFarValue) (o : Result SoFarValue RefsRefusal) → V1Known t old mid s
    → TakesLine mid new
    → with_text t s new.line ≡ o → AnswersRefs (λ (u : Unit {0}). now) o (Ok tt) → V1Known t old new now
v1-line t old mid new s now (Ok made) h k is a = record {
  texts = h.texts ++ new.line ∷ [];
  read = so_far-line old mid new h.texts h.read k;
  lines = groups-line t h.texts new.line s now h.lines (is ∙ ap Ok (sym a));
}
v1-line t old mid new s now (Err r) h k is a = absurd a

first_refused : (t : List Symref) (r s : Reading) (o n : Option Pieces) (texts : List (List ℕ)) (text : List ℕ) (v : SoFarValue)
    (e : RefsRefusal) → GroupsSoFar t texts v → with_text t v text ≡ Err e
    → IfSome o (λ p. (q : Pieces) × (n ≡ Some q) × (lines_ahead r p ≡ before (texts ++ text ∷ []) (lines_ahead s q)))
    → IfSome o (λ p. v1_refs t (lines_ahead r p) ≡ Err e)
first_refused t r s None n texts text v e h is a = tt
first_refused t r s (Some p) n texts text v e h is a =
    let rest = lines_ahead s a.0 in
    ap (v1_refs t) a.2 ∙ groups-refused t texts text rest.lines _ v e h is

-- an error of a line is the first error, unless an allocation failed
pub v1-refused : (t : List Symref) (plain : Bool) (old mid new : Reading) (s : SoFarValue) (e : Error)
    (o : Result SoFarValue RefsRefusal) {X : Type 0} (view : X → SoFarValue) → V1Known t old mid s → TakesLine mid new
    → with_text t s new.line ≡ o → AnswersRefs view o (Err e) → V1Fails t plain old new e
v1-refused t plain old mid new s e (Ok made) view h k is a =
    inl (inr (inr (inr (record {
      taken = h.texts ++ new.line ∷ [];
      read = so_far-line old mid new h.texts h.read k;
      stopped = k.stopped;
      error = a;
    }))))
v1-refused t plain old mid new s e (Err r) view h k is a =
    let read = so_far-line old mid new h.texts h.read k in
    inl (inl (record {
      taken = h.texts ++ new.line ∷ [];
      read = read;
      refusal = r;
      last = record {
        before = h.texts;
        text = new.line;
        split = refl;
        refs = (s.refs ++ closed t s.open_line, groups-all t h.texts None s h.lines);
        line = ap (λ x. groups x None t None) (sym (append-nil (h.texts ++ new.line ∷ [])))
            ∙ groups-refused t h.texts new.line [] None s r h.lines is;
      };
      first = first_refused t old new old.to_come new.to_come h.texts new.line s r h.lines is read.next;
      error = a;
    }))

reader_known : (t : List Symref) (r : Reading) (o : Option Pieces) (texts : List (List ℕ)) (s : SoFarValue) (e : Refusal)
    → GroupsSoFar t texts s
    → IfSome o (λ p. lines_ahead r p ≡ lines_to texts (refusal e)) → IfSome o (λ p. v1_refs t (lines_ahead r p) ≡ Err (refusal_from e))
reader_known t r None texts s e h a = tt
reader_known t r (Some p) texts s e h a = ap (v1_refs t) a ∙ groups-all t texts (Some (refusal_from e)) s h

-- an error of the reader is the first one, or it is an I/O error, an interrupt or an allocation failure
pub v1-reader : (t : List Symref) (plain : Bool) (old mid new : Reading) (s : SoFarValue) (r : ReadError) (e : Error)
    → V1Known t old mid s → Fails mid new (refusal_of r)
    → (plain ≡ true → IsPlain new (refusal_of r)) → parse_refusal e ≡ refusal_from (refusal_of r) → V1Fails t plain old new e
v1-reader t plain old mid new s r e h (inl k) p is =
    inl (inr (inl (record {
      taken = h.texts;
      now = mid;
      read = h.read;
      refusal = refusal_of r;
      refused = k;
      first = reader_known t old old.to_come h.texts s (refusal_of r) h.lines (so_far-refuses old mid new h.texts (refusal_of r) h.read k);
      error = is;
    })))
v1-reader t plain old mid new s r e h (inr k) p is =
    inl (inr (inr (inl (record {
      taken = h.texts;
      now = mid;
      read = h.read;
      refusal = refusal_of r;
      failed = k;
      is_plain = p;
      error = is;
    }))))

-- at the stop all lines were read
pub v1-stop : (t : List Symref) (old mid new : Reading) (s : SoFarValue) (refs : List Ref) (updates : List ShallowUpdate)
    → V1Known t old mid s → AtStop mid new
    → map ref_value refs ≡ s.refs ++ closed t s.open_line → updates ≡ s.updates → ReadsV1 t old new refs updates
v1-stop t old mid new s refs updates h k is same =
    let all = so_far-at_stop old mid new h.texts h.read k in
    record {
      kind = all.kind;
      texts = h.texts;
      lines = all.lines;
      values = groups-all t h.texts None s h.lines ∙ ap Ok (sym is);
      shallow = same ∙ updates-all t h.texts s h.lines;
      stopped = all.stopped;
      version = all.version;
      failures = all.failures;
      held = all.held;
    }

-- an allocation failed after the stop
pub v1-memory : (t : List Symref) (plain : Bool) (old mid new : Reading) (s : SoFarValue) (e : Error) → V1Known t old mid s
    → AtStop mid new → e ≡ Memory → V1Fails t plain old new e
v1-memory t plain old mid new s e h k is = inr (record { texts = h.texts; now = mid; read = h.read; at = k; error = is })

-- the result after the stop
pub v1-finish : {A : Type 0} (r : Result A Error) (refs_of : A → List Ref) (updates_of : A → List ShallowUpdate) (t : List Symref)
    (plain : Bool) (old mid new : Reading) (s : SoFarValue) → V1Known t old mid s → AtStop mid new
    → MatchResult r (λ found. (map ref_value (refs_of found) ≡ s.refs ++ closed t s.open_line) × (updates_of found ≡ s.updates))
    (λ e. e ≡ Memory)
    → MatchResult r (λ found. ReadsV1 t old new (refs_of found) (updates_of found)) (V1Fails t plain old new)
v1-finish (Ok found) refs_of updates_of t plain old mid new s h k m = v1-stop t old mid new s (refs_of found) (updates_of found) h k m.0 m.1
v1-finish (Err e) refs_of updates_of t plain old mid new s h k m = v1-memory t plain old mid new s e h k m
