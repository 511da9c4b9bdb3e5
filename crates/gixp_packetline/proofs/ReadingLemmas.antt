-- Several calls of a reader of lines.
use Rattle.std.proofs.Common.{◌≡◌, ℕ, List, [], ◌∷◌, ◌++◌, Option, Some, None, IfSome, IsSome, refl, sym, ap, ◌∙◌, append_assoc, append-nil, inl, inr}
use Rattle.gixp_packetline.specs.declared.protocol.MessageKind.{MessageKind}
use Rattle.gixp_packetline.specs.Pieces.{Refusal, Pieces, no_pieces}
use Rattle.gixp_packetline.specs.Lines.{gives, stops, refuses, next_of, Lines, Ending, stop, refusal, lines_of, no_lines, before, lines_to}
use Rattle.gixp_packetline.specs.Reading.{Reading, TakesLine, TakesStop, WasStopped, AtStop, Refuses, Fails, lines_from_stop, lines_ahead}
use Rattle.gixp_packetline.proofs.LineLemmas.{gives_line, stops_here, refuses_here}
use Rattle.gixp_packetline.specs.Runs.{SoFar}

-- a reader that is not at a stop returns the lines of its packet lines
ahead_running : (r : Reading) (p : Pieces) → r.stopped ≡ None → lines_ahead r p ≡ lines_of r.version p
ahead_running r p h = ap (λ s. lines_from_stop s r.version p) h

-- a reader at a stop returns no line
ahead_stopped : (r : Reading) (p : Pieces) (kind : MessageKind) → r.stopped ≡ Some kind → lines_ahead r p ≡ no_lines (stop kind p)
ahead_stopped r p kind h = ap (λ s. lines_from_stop s r.version p) h

-- a relation of the known packet lines before and after a call
abbrev pub Known : Option Pieces → Option Pieces → (Pieces → Pieces → Type 0) → Type 0
Known old new P = IfSome old (λ p. (q : Pieces) × (new ≡ Some q) × P p q)

-- two calls compose
pub known_steps : (a b c : Option Pieces) (P Q R : Pieces → Pieces → Type 0) → ((p q r : Pieces) → P p q → Q q r → R p r)
    → Known a b P → Known b c Q → Known a c R
known_steps None b c P Q R f h k = tt
known_steps (Some p) None c P Q R f h k = absurd (let e = h.1 in cc)
known_steps (Some p) (Some q) c P Q R f h k =
    let e : q ≡ h.0 = let e = h.1 in cc in
    (k.0, k.1, f p q k.0 (rw e h.2) k.2)

-- packet lines that are unchanged are related
known_stays : (a b : Option Pieces) → IfSome a (λ p. b ≡ Some p) → Known a b (λ p q. q ≡ p)
known_stays None b h = tt
known_stays (Some p) b h = (p, h, refl)

start_next : (r : Reading) (o : Option Pieces) → Known o o (λ p q. lines_ahead r p ≡ before [] (lines_ahead r q))
start_next r None = tt
start_next r (Some p) = (p, refl, refl)

-- before the first call nothing was read
pub so_far-start : (r : Reading) → SoFar r r []
so_far-start r = record { next = start_next r r.to_come; stopped = refl; version = refl; failures = refl; held = refl }

append_before : (texts : List (List ℕ)) (text : List ℕ) (rest : Lines) → before texts (before (text ∷ []) rest)
    ≡ before (texts ++ text ∷ []) rest
append_before texts text rest = rw append_assoc refl

pub so_far-line : (old mid new : Reading) (texts : List (List ℕ)) → SoFar old mid texts → TakesLine mid new
    → SoFar old new (texts ++ new.line ∷ [])
so_far-line old mid new texts h k = let text = new.line in record {
  next = known_steps old.to_come mid.to_come new.to_come
      (λ p q. lines_ahead old p ≡ before texts (lines_ahead mid q))
      (λ q r. next_of mid.version q ≡ gives text r)
      (λ p r. lines_ahead old p ≡ before (texts ++ text ∷ []) (lines_ahead new r))
      (λ p q r a b.
      let following : lines_ahead new r ≡ lines_of mid.version r = ahead_running new r k.stopped ∙ ap (λ v. lines_of v r) k.version in
      a ∙ ap (before texts) (ahead_running mid q k.running ∙ gives_line mid.version q.list q.end text r b
      ∙ ap (before (text ∷ [])) (sym following))
      ∙ append_before texts text (lines_ahead new r))
      h.next k.next;
  stopped = k.stopped ∙ sym k.running ∙ h.stopped;
  version = k.version ∙ h.version;
  failures = k.failures ∙ h.failures;
  held = k.held ∙ h.held;
}

-- lines, and an end with no line before it
before_none : (texts : List (List ℕ)) (ending : Ending) → before texts (no_lines ending) ≡ lines_to texts ending
before_none texts ending = rw append-nil refl

-- these were all lines before a stop, and the reader is at it
pub record AllRead (old new : Reading) (texts : List (List ℕ)) : Type 0 where
  pub kind : MessageKind
  pub lines : Known old.to_come new.to_come (λ p q. lines_ahead old p ≡ lines_to texts (stop kind q))
  pub stopped : new.stopped ≡ Some kind
  pub version : new.version ≡ old.version
  pub failures : new.failures ≡ old.failures
  pub held : new.held ≡ old.held

takes_stop : (old mid new : Reading) (texts : List (List ℕ)) (kind : MessageKind) → SoFar old mid texts → TakesStop mid new kind
    → AllRead old new texts
takes_stop old mid new texts kind h k = record {
  kind = kind;
  lines = known_steps old.to_come mid.to_come new.to_come
      (λ p q. lines_ahead old p ≡ before texts (lines_ahead mid q))
      (λ q r. next_of mid.version q ≡ stops kind r)
      (λ p r. lines_ahead old p ≡ lines_to texts (stop kind r))
      (λ p q r a b. a ∙ ap (before texts) (ahead_running mid q k.running ∙ stops_here mid.version q.list q.end kind r b)
      ∙ before_none texts (stop kind r))
      h.next k.next;
  stopped = k.stopped;
  version = k.version ∙ h.version;
  failures = k.failures ∙ h.failures;
  held = k.held ∙ h.held;
}

was_stopped : (old mid new : Reading) (texts : List (List ℕ)) (kind : MessageKind) → mid.stopped ≡ Some kind → SoFar old mid texts
    → WasStopped mid new → AllRead old new texts
was_stopped old mid new texts kind at h k = record {
  kind = kind;
  lines = known_steps old.to_come mid.to_come new.to_come
      (λ p q. lines_ahead old p ≡ before texts (lines_ahead mid q))
      (λ q r. r ≡ q)
      (λ p r. lines_ahead old p ≡ lines_to texts (stop kind r))
      (λ p q r a same.
      a ∙ ap (before texts) (ahead_stopped mid q kind at ∙ ap (λ x. no_lines (stop kind x)) (sym same)) ∙ before_none texts (stop kind r))
      h.next (known_stays mid.to_come new.to_come k.stays.to_come);
  stopped = k.stays.stopped ∙ at;
  version = k.stays.version ∙ h.version;
  failures = k.failures ∙ h.failures;
  held = k.stays.held ∙ h.held;
}

some_kind : (o : Option MessageKind) → IsSome o → (kind : MessageKind) × (o ≡ Some kind)
some_kind None h = absurd (cc)
some_kind (Some kind) h = (kind, refl)

-- a call at a stop, or one that takes it, ends the run
pub so_far-at_stop : (old mid new : Reading) (texts : List (List ℕ)) → SoFar old mid texts → AtStop mid new → AllRead old new texts
so_far-at_stop old mid new texts h (inl k) = let at = some_kind mid.stopped k.was in was_stopped old mid new texts at.0 at.1 h k
so_far-at_stop old mid new texts h (inr k) = takes_stop old mid new texts k.0 h k.1

refused_next : (old mid : Reading) (a b c : Option Pieces) (texts : List (List ℕ)) (e : Refusal) → mid.stopped ≡ None
    → Known a b (λ p q. lines_ahead old p ≡ before texts (lines_ahead mid q))
    → IfSome b (λ p. (c ≡ Some (no_pieces e)) × (next_of mid.version p ≡ refuses e))
    → IfSome a (λ p. lines_ahead old p ≡ lines_to texts (refusal e))
refused_next old mid None b c texts e run h k = tt
refused_next old mid (Some p) None c texts e run h k = absurd (let e = h.1 in cc)
refused_next old mid (Some p) (Some q) c texts e run h k =
    let e1 : h.0 ≡ q = let e = h.1 in cc in
    h.2 ∙ ap (λ x. before texts (lines_ahead mid x)) e1
    ∙ ap (before texts) (ahead_running mid q run ∙ refuses_here mid.version q.list q.end e k.1) ∙ before_none texts (refusal e)

-- an error that is next ends the run
pub so_far-refuses : (old mid new : Reading) (texts : List (List ℕ)) (e : Refusal) → SoFar old mid texts → Refuses mid new e
    → IfSome old.to_come (λ p. lines_ahead old p ≡ lines_to texts (refusal e))
so_far-refuses old mid new texts e h k = refused_next old mid old.to_come mid.to_come new.to_come texts e k.running h.next k.next

-- what no call for a line changes
pub record Keeps (old new : Reading) : Type 0 where
  pub version : new.version ≡ old.version
  pub held : new.held ≡ old.held

pub fails-keep : (old new : Reading) (e : Refusal) → Fails old new e → Keeps old new
fails-keep old new e (inl k) = record { version = k.version; held = k.held }
fails-keep old new e (inr (inl k)) = record { version = k.stays.version; held = k.stays.held }
fails-keep old new e (inr (inr k)) = record { version = k.version; held = k.held }

pub at_stop-keeps : (old new : Reading) → AtStop old new → Keeps old new
at_stop-keeps old new (inl k) = record { version = k.stays.version; held = k.stays.held }
at_stop-keeps old new (inr k) = record { version = k.1.version; held = k.1.held }
