-- Options that ask for a depth, and operands.
use Rattle.std.proofs.Common.{◌≡◌, ◌<◌, ◌≤◌, ℕ, Bool, true, false, ◌&&◌, ◌||◌, List, [], ◌∷◌, length, map, drop, get_or, codes, Option, Some, is_some, Result, Ok, Err, IfOk, refl, ap, arith}
use Rattle.gixp_shallow.specs.declared.shallow.Shallow.{Shallow}
use Rattle.gixp_shallow.specs.Shallow.{ShallowValue, at_remote, shallow_value}
use Rattle.std.specs.Prelude.{slice_get, zero, suc}
use Rattle.gixp_fetch_cli.specs.declared.command_line.Setting.{Setting}
use Rattle.gixp_fetch_cli.specs.CommandLine.{LineParts, setting_value}
use Rattle.gixp_fetch_cli.specs.Choices.{value, has, has_cut, has_conflict, CutsHistory, AsksHistory}

-- an absent option has no value
no_value : {X : Type 0} (v : Option (List ℕ)) (word : List ℕ) → is_some v ≡ false → v ≡ Some word → X
no_value v word none some = let there : is_some v ≡ true = ap is_some some in absurd (cc)

-- `--unshallow` alone
all_alone : (d e u c : Bool) → (((d && e) || (u && (d || e))) || (c && (u || d || e))) ≡ false → u ≡ true → (d ≡ false) × (e ≡ false)
all_alone false false u c h k = (refl, refl)
all_alone true false true c h k = absurd (cc)
all_alone true true true c h k = absurd (cc)
all_alone false true true c h k = absurd (cc)
all_alone d e false c h k = absurd (cc)

-- ---- options that can't be used together, each by whether it is present

pub not_both : (d e : Bool) → (d || e) ≡ false → (d && e) ≡ false
not_both true e h = absurd (cc)
not_both false e h = refl

pub two_of_all : (d e u : Bool) → u ≡ true → (d || e) ≡ true → ((d && e) || (u && (d || e))) ≡ true
two_of_all d e false h k = absurd (cc)
two_of_all true true true h k = refl
two_of_all true false true h k = refl
two_of_all false true true h k = refl
two_of_all false false true h k = absurd (cc)

pub two_of_counted : (d e u : Bool) → d ≡ true → e ≡ true → ((d && e) || (u && (d || e))) ≡ true
two_of_counted true true u h k = refl
two_of_counted false e u h k = absurd (cc)
two_of_counted true false u h k = absurd (cc)

pub two_of_none : (d e u : Bool) → (d && e) ≡ false → (u && (d || e)) ≡ false → ((d && e) || (u && (d || e))) ≡ false
two_of_none d e u h k = rw (h, k) refl

pub conflicts_by_two : (two c x : Bool) → two ≡ true → (two || (c && x)) ≡ true
conflicts_by_two true c x h = refl
conflicts_by_two false c x h = absurd (cc)

pub conflicts_by_cut : (two c x : Bool) → c ≡ true → x ≡ true → (two || (c && x)) ≡ true
conflicts_by_cut true true true h k = refl
conflicts_by_cut false true true h k = refl
conflicts_by_cut two false x h k = absurd (cc)
conflicts_by_cut two true false h k = absurd (cc)

pub no_conflict : (two c x : Bool) → two ≡ false → (c && x) ≡ false → (two || (c && x)) ≡ false
no_conflict two c x h k = rw (h, k) refl

pub ruleset two_extents = (not_both, two_of_all, two_of_none, two_of_counted)

pub ruleset conflicts = (conflicts_by_two, conflicts_by_cut, no_conflict)

-- a line without these options
pub by_cut : (line : LineParts) (wanted : ShallowValue) → has_conflict line ≡ false → has line (codes "--depth") ≡ false
    → has line (codes "--deepen") ≡ false → has line (codes "--unshallow") ≡ false → CutsHistory line wanted → AsksHistory line wanted
by_cut line wanted apart d e u cut = record {
  alone = apart;
  depth = λ word is. no_value (value line (codes "--depth")) word d is;
  deepen = λ word is. no_value (value line (codes "--deepen")) word e is;
  unshallow = λ is. absurd (cc);
  cut = λ _ _ _. cut;
}

-- a line with `--unshallow`
pub by_all : (line : LineParts) (wanted : ShallowValue) → has_conflict line ≡ false → has line (codes "--unshallow") ≡ true
    → wanted ≡ at_remote 2147483647 → AsksHistory line wanted
by_all line wanted apart u is =
    let others : (has line (codes "--depth") ≡ false) × (has line (codes "--deepen") ≡ false) =
    all_alone (has line (codes "--depth")) (has line (codes "--deepen")) (has line (codes "--unshallow")) (has_cut line) apart u in
    record {
      alone = apart;
      depth = λ word there. no_value (value line (codes "--depth")) word others.0 there;
      deepen = λ word there. no_value (value line (codes "--deepen")) word others.1 there;
      unshallow = λ _. is;
      cut = λ _ _ no. absurd (cc);
    }

-- a call that returns the depth
pub cut_ok : {E : Type 0} (line : LineParts) (r : Result Shallow E) → has_conflict line ≡ false → has line (codes "--depth") ≡ false
    → has line (codes "--deepen") ≡ false → has line (codes "--unshallow") ≡ false
    → IfOk r (λ s. CutsHistory line (shallow_value s)) → IfOk r (λ s. AsksHistory line (shallow_value s))
cut_ok line (Ok s) apart d e u cut = by_cut line (shallow_value s) apart d e u cut
cut_ok line (Err e) apart d f u cut = tt

-- two operands
pub two_words : {X : Type 0} (f : X → List ℕ) (xs : List X) (d : X) → 2 ≤ length xs → length xs < 3
    → map f xs ≡ f (get_or xs 0 d) ∷ f (get_or xs 1 d) ∷ []
two_words f [] d h k = absurd (omega arith)
two_words f (x ∷ []) d h k = absurd (omega arith)
two_words f (x ∷ y ∷ []) d h k = refl
two_words f (x ∷ y ∷ z ∷ rest) d h k = absurd (omega arith)

-- three operands or more
pub three_words : {X : Type 0} (f : X → List ℕ) (xs : List X) (d : X) → 3 ≤ length xs
    → map f xs ≡ f (get_or xs 0 d) ∷ f (get_or xs 1 d) ∷ f (get_or xs 2 d) ∷ map f (drop 3 xs)
three_words f [] d h = absurd (omega arith)
three_words f (x ∷ []) d h = absurd (omega arith)
three_words f (x ∷ y ∷ []) d h = absurd (omega arith)
three_words f (x ∷ y ∷ z ∷ rest) d h = refl

-- an option at an index
pub setting_at : (settings : List Setting) (k : ℕ) (d : Setting) (name : List ℕ) → k < length settings
    → (get_or settings k d).name.now ≡ name → slice_get (map setting_value settings) k ≡ Some (name, (get_or settings k d).value.now)
setting_at [] k d name h e = absurd (omega (arith, h))
setting_at (s ∷ settings) zero d name h e = ap (λ n. Some (n, s.value.now)) e
setting_at (s ∷ settings) (suc k) d name h e = setting_at settings k d name (omega (arith, h)) e
