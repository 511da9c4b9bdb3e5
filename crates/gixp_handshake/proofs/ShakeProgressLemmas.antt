-- The calls of a progress reporter, in a row.
use Rattle.std.proofs.Common.{◌≡◌, Bool, true, List, [], ◌∷◌, ◌++◌, Result, Ok, Err, ap, sym, ◌∙◌, subst, append_assoc}
use Rattle.std.proofs.lemmas.List.{append-nil}
use Rattle.gixp_progress.specs.Progress.{ProgressCall, ReportedCalls}
use Rattle.gixp_handshake.specs.ShakeProgress.{authenticating_calls, calls_if_denied, ReportedPart, ReportedUpTo}

module _ {P : Type 0} (reported : P → ProgressCall → P → Type 0) where
  told_append : (a b c : P) (xs ys : List ProgressCall) → ReportedCalls reported a xs b → ReportedCalls reported b ys c → ReportedCalls reported a (xs ++ ys) c
  told_append a b c [] ys first rest = let Q : P → Type 0 = λ p. ReportedCalls reported p ys c in subst Q first rest
  told_append a b c (x ∷ xs) ys first rest = (first.0, first.1, told_append first.0 b c xs ys first.2 rest)

  part_after : (a b c : P) (xs ys : List ProgressCall) → ReportedCalls reported a xs b → ReportedPart reported b ys c → ReportedPart reported a (xs ++ ys) c
  part_after a b c xs ys first part = record {
    made = xs ++ part.made;
    left = part.left;
    split = ap (λ zs. xs ++ zs) part.split ∙ sym (append_assoc xs part.made part.left);
    reports = told_append a b c xs part.made first part.reports;
  }

  module _ {X E : Type 0} where
    -- all calls were made, whatever the result is
    pub told_all : (a b : P) (calls : List ProgressCall) (r : Result X E) → ReportedCalls reported a calls b → ReportedUpTo reported a calls r b
    told_all a b calls (Ok x) all = all
    told_all a b calls (Err e) all = record { made = calls; left = []; split = sym (append-nil calls); reports = all }

    -- calls before others
    pub told_before : (a b c : P) (xs ys : List ProgressCall) (r : Result X E) → ReportedCalls reported a xs b → ReportedUpTo reported b ys r c
        → ReportedUpTo reported a (xs ++ ys) r c
    told_before a b c xs ys (Ok x) first rest = told_append a b c xs ys first rest
    told_before a b c xs ys (Err e) first rest = part_after a b c xs ys first rest

    -- the server requires credentials
    pub told_if : (a b : P) (denied : Bool) (r : Result X E) → denied ≡ true → ReportedUpTo reported a authenticating_calls r b
        → ReportedUpTo reported a (calls_if_denied denied) r b
    told_if a b denied r is all = let Q : Bool → Type 0 = λ d. ReportedUpTo reported a (calls_if_denied d) r b in subst Q (sym is) all
