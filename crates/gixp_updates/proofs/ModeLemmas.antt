-- Steps that choose a mode.
use Rattle.std.proofs.Common.{◌≡◌, ℕ, ◌∙◌, ◌≤◌, inl, inr, ⊎_elim, Bool, true, false, List, [], ◌∷◌, ◌++◌, Option, refl, ap, subst, arith}
use Rattle.std.specs.Prelude.{Result, Ok, Err, IfOk}
use Rattle.std.specs.Bool.{MatchBool}
use Rattle.std.specs.List.{AllZip}
use Rattle.gixp_graph.specs.declared.objects.ObjectError.TheVariants.{Memory as no_memory}
use Rattle.gixp_graph.specs.Object.{Objects}
use Rattle.gixp_hash.specs.Failures.{HasRisen}
use Rattle.gixp_graph.specs.GraphData.{GraphValue}
use Rattle.gixp_graph.specs.Refusals.{ErrorIsRefusal, writing}
use Rattle.gixp_updates.specs.declared.refs.error.Error.{Error}
use Rattle.gixp_updates.specs.declared.refs.error.Error.TheVariants.{FindObject, TooManyCommits, Memory}
use Rattle.gixp_updates.specs.declared.refs.mode.Wanted.{Wanted}
use Rattle.gixp_updates.specs.declared.refs.edit.Update.{Update}
use Rattle.gixp_updates.specs.Modes.{LocalSide, IsUpdate}
use Rattle.gixp_updates.specs.UpdateError.{ErrorIsCausedIfRefused, Consults}
use Rattle.gixp_updates.proofs.LookLemmas.{looks_none, looks_on}

pub on_true : (b : Bool) (P Q : Type 0) → b ≡ true → P → MatchBool b P Q
on_true true P Q e p = p
on_true false P Q e p = absurd (cc)

pub on_false : (b : Bool) (P Q : Type 0) → b ≡ false → Q → MatchBool b P Q
on_false true P Q e q = absurd (cc)
on_false false P Q e q = q

-- a count that rose from a later state on rose from an earlier one
risen_on : (a b c : ℕ) → a ≤ b → HasRisen b c → HasRisen a c
risen_on a b c l h = ⊎_elim (λ e. inl (omega (arith, e))) (λ e. inr e) h

-- an error has the same cause from a state on after which no call failed
tells_on : {T : Type 0} (limit : Option ℕ) (r : Result T Error) (a b c : GraphValue) → b.refusals ≡ a.refusals → a.failures ≤ b.failures
    → ErrorIsCausedIfRefused limit r b c → ErrorIsCausedIfRefused limit r a c
tells_on limit (Ok x) a b c e l t = t ∙ e
tells_on limit (Err (FindObject x)) a b c e l t = (t.0, t.1 ∙ ap (λ w. writing w x) e, risen_on a.failures b.failures c.failures l t.2)
tells_on limit (Err TooManyCommits) a b c e l t = (t.0, t.1 ∙ e)
tells_on limit (Err Memory) a b c e l t = subst (λ w. ErrorIsRefusal no_memory w c.refusals) e t

-- two look-ups in a row
pub consults_on : {S T : Type 0} (limit : Option ℕ) (x : S) (r : Result T Error) (a b c : GraphValue)
    → Consults {T = S} limit (Ok x) a b → Consults limit r b c → Consults limit r a c
consults_on limit x r a b c m n = record {
  looks = looks_on a.graph b.graph c.graph m.looks n.looks;
  failures = omega (arith, m.failures, n.failures);
  reports = tells_on limit r a b c m.reports m.failures n.reports;
}

pub consults_as : {S T : Type 0} (limit : Option ℕ) (x : S) (y : T) (a b : GraphValue) → Consults {T = S} limit (Ok x) a b
    → Consults {T = T} limit (Ok y) a b
consults_as limit x y a b m = record { looks = m.looks; failures = m.failures; reports = m.reports }

pub consults_err : {S T : Type 0} (limit : Option ℕ) (e : Error) (a b : GraphValue) → Consults {T = S} limit (Err e) a b
    → Consults {T = T} limit (Err e) a b
consults_err limit e a b m = record { looks = m.looks; failures = m.failures; reports = m.reports }

-- nothing is looked up
pub consults_none : {T : Type 0} (limit : Option ℕ) (x : T) (a : GraphValue) → Consults {T = T} limit (Ok x) a a
consults_none limit x a = record { looks = looks_none a.graph; failures = omega arith; reports = refl }

pub ok_weaker : {T : Type 0} (r : Result T Error) (P Q : T → Type 0) → ((x : T) → P x → Q x) → IfOk r P → IfOk r Q
ok_weaker (Ok x) P Q f p = f x p
ok_weaker (Err e) P Q f p = p

-- an update by equal parts
pub update_moved : (l : LocalSide) (commits : Objects) → commits ≡ l.commits → (w v : Wanted) → w ≡ v → (n p : Option (List ℕ)) → n ≡ p
    → (u : Update) → IsUpdate (record l { commits = commits }) w n u → IsUpdate l v p u
update_moved l commits same w v is n p name u h =
    subst (λ x. IsUpdate l v x u) name (subst (λ x. IsUpdate l x n u) is
    (subst (λ (o : Objects). IsUpdate (record l { commits = o }) w n u) same h))

pub pushed : {A B : Type 0} (R : A → B → Type 0) (xs : List A) (ys : List B) (x : A) (y : B) → AllZip R xs ys → R x y
    → AllZip R (xs ++ x ∷ []) (ys ++ y ∷ [])
pushed R [] [] x y h r = (r, tt)
pushed R [] (b ∷ ys) x y h r = absurd h
pushed R (a ∷ xs) [] x y h r = absurd h
pushed R (a ∷ xs) (b ∷ ys) x y h r = (h.0, pushed R xs ys x y h.1 r)
