-- The calls of a progress reporter for a text that the server sent.
use Rattle.std.specs.Prelude.{ℕ, Bool, true, false, List, [], ◌∷◌, ◌++◌, codes, Option, Some, None}
use Rattle.std.specs.List.{before_first}
use Rattle.std.specs.Str.Lossy.{utf8_lossy}
use Rattle.gixp_progress.specs.Progress.{ProgressCall, init, set, set_name, fail}
use Rattle.gixp_progress.specs.Line.{LineValue, is_colon, progress_line}

-- the new name: the current name up to its first colon, and this text
abbrev pub name_for : Option (List ℕ) → List ℕ → List ℕ
name_for None text = utf8_lossy text
name_for (Some shown) text = before_first is_colon shown ++ codes ": " ++ utf8_lossy text

-- the call for an error text; an empty one is ignored
abbrev pub error_calls : List ℕ → List ProgressCall
error_calls [] = []
error_calls (b ∷ text) = fail (utf8_lossy (b ∷ text)) ∷ []

abbrev pub set_calls : Option ℕ → List ProgressCall
set_calls None = []
set_calls (Some n) = set n ∷ []

-- the calls for a progress line, or for any other text
abbrev pub line_calls : Option LineValue → List ℕ → Option (List ℕ) → List ProgressCall
line_calls None text shown = set_name (name_for shown text) ∷ []
line_calls (Some l) text shown = set_name (name_for shown l.action) ∷ init l.max (codes "objects") ∷ set_calls l.step

-- the calls for a text; the current name becomes part of the new one
abbrev pub calls_for : Bool → List ℕ → Option (List ℕ) → List ProgressCall
calls_for true text shown = error_calls text
calls_for false text shown = line_calls (progress_line text) text shown
