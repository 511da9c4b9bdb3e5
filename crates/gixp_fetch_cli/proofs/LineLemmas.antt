-- Command lines that are parsed word by word.
use Rattle.std.proofs.Common.{◌≡◌, ◌<◌, ◌+◌, ℕ, Bool, true, false, cond, List, [], ◌∷◌, ◌++◌, length, take, map, Option, Some, None, Result, Ok, Err, if◌then◌else◌, refl, ap, ◌∙◌}
use Rattle.std.proofs.Math.ListN.{get_or}
use Rattle.std.proofs.lemmas.List.{take_more, map-append}
use Rattle.std.proofs.lemmas.List.Elements.{filter-append}
use Rattle.std.specs.Str.{bytes_eq}
use Rattle.gixp_fetch_cli.specs.declared.command_line.LineError.{LineError}
use Rattle.gixp_fetch_cli.specs.declared.command_line.LineError.TheVariants.{Unknown, NoValue, Memory}
use Rattle.gixp_fetch_cli.specs.declared.command_line.Setting.{Setting}
use Rattle.gixp_fetch_cli.specs.OptionNames.{later, value_in, values_in}
use Rattle.gixp_fetch_cli.specs.CommandLine.{setting_value, LineParts, LineFault, Parting, NextWord, after_word, line_from, ParsesLine, AddsWord, IsLineMemory}

later_none : (a : Option (List ℕ)) → later a None ≡ later None a
later_none None = refl
later_none (Some x) = refl

later_assoc : (a b c : Option (List ℕ)) → later a (later b c) ≡ later (later a b) c
later_assoc a b None = refl
later_assoc a b (Some x) = refl

-- one more option
pub value_in-append : (xs : List (List ℕ × List ℕ)) (s : List ℕ × List ℕ) (name : List ℕ)
    → value_in (xs ++ s ∷ []) name ≡ later (value_in xs name) (if bytes_eq s.0 name then Some s.1 else None)
value_in-append [] s name = later_none (if bytes_eq s.0 name then Some s.1 else None)
value_in-append (x ∷ xs) s name =
    ap (λ v. later (if bytes_eq x.0 name then Some x.1 else None) v) (value_in-append xs s name)
    ∙ later_assoc (if bytes_eq x.0 name then Some x.1 else None) (value_in xs name) (if bytes_eq s.0 name then Some s.1 else None)

memory_takes : (r : Result LineParts LineFault) → ParsesLine r (Err Memory)
memory_takes (Ok line) = tt
memory_takes (Err e) = tt

forgets : (r : Result LineParts LineFault) (e : LineError) → IsLineMemory e → ParsesLine r (Err e)
forgets r Memory h = memory_takes r
forgets r (Unknown word) h = absurd h
forgets r (NoValue word) h = absurd h

-- a word that is refused, or an allocation failure
pub refused_word : (line new : LineParts) (next : NextWord) (word : List ℕ) (words : List (List ℕ)) (e : LineError)
    → AddsWord (after_word line next word) new (Err e) → ParsesLine (line_from line next (word ∷ words)) (Err e)
refused_word line new next word words e = at (after_word line next word)
  where
    at : (r : Result Parting LineFault) → AddsWord r new (Err e)
        → ParsesLine (elim r [ Err e ↦ Err e | Ok p ↦ line_from p.line p.next words ]) (Err e)
    at (Ok p) h = forgets (line_from p.line p.next words) e h
    at (Err fault) h = h

-- one more option of a line
pub value_more : (settings : List Setting) (i : ℕ) (d : Setting) (name : List ℕ) → i < length settings
    → value_in (map setting_value (take (i + 1) settings)) name
    ≡ later (value_in (map setting_value (take i settings)) name)
    (if bytes_eq (get_or settings i d).name.now name then Some (get_or settings i d).value.now else None)
value_more settings i d name h = rw (take_more settings i d h, map-append)
    (value_in-append (map setting_value (take i settings)) (setting_value (get_or settings i d)) name)

one_value : (b : Bool) (s : List ℕ × List ℕ) → map (λ t. t.1) (cond b (s ∷ []) []) ≡ (if b then s.1 ∷ [] else [])
one_value true s = refl
one_value false s = refl

values_in-append : (xs : List (List ℕ × List ℕ)) (s : List ℕ × List ℕ) (name : List ℕ)
    → values_in (xs ++ s ∷ []) name ≡ values_in xs name ++ (if bytes_eq s.0 name then s.1 ∷ [] else [])
values_in-append xs s name = rw (filter-append, map-append) (ap (λ l. values_in xs name ++ l) (one_value (bytes_eq s.0 name) s))

-- one more option of a line, where all values count
pub values_more : (settings : List Setting) (i : ℕ) (d : Setting) (name : List ℕ) → i < length settings
    → values_in (map setting_value (take (i + 1) settings)) name
    ≡ values_in (map setting_value (take i settings)) name
    ++ (if bytes_eq (get_or settings i d).name.now name then (get_or settings i d).value.now ∷ [] else [])
values_more settings i d name h = rw (take_more settings i d h, map-append)
    (values_in-append (map setting_value (take i settings)) (setting_value (get_or settings i d)) name)
