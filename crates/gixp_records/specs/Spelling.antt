-- The lines of a text of refspecs, in which `@` means `HEAD` (gitrevisions, "@").
use Rattle.std.specs.Prelude.{ℕ, List, map}
use Rattle.gixp_refspec.specs.Spelling.{spelled}
use Rattle.gixp_utils.specs.Lines.{text_lines}

-- the lines, each with `HEAD` for a source that is `@` alone
abbrev pub spec_lines : List ℕ → List (List ℕ)
spec_lines text = map spelled (text_lines text)
