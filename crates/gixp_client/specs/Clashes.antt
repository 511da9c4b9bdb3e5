-- Two sources that map to one local name (git-fetch, "<refspec>").
use Rattle.std.specs.Prelude.{ℕ, not, List, [], ◌∷◌, Option, None}
use Rattle.std.specs.Option.{option_map}
use Rattle.std.specs.List.{find}
use Rattle.bstr.specs.Owned.{bstring_bytes}
use Rattle.gixp_matching.specs.Mappings.{Source, source_eq}
use Rattle.gixp_matching.specs.MatchGroup.{source_of}
use Rattle.gixp_matching.specs.Validation.{Conflict as ConflictValue}
use Rattle.gixp_matching.specs.Validate.{conflicts_in}
use Rattle.gixp_client.specs.declared.conflict.Conflict.{Conflict}
use Rattle.gixp_client.specs.declared.error.Error.{Error}
use Rattle.gixp_client.specs.declared.error.Error.TheVariants.{Conflicts}

-- a local name and two of its sources
pub record Clash : Type 0 where
  pub destination : List ℕ
  pub one : Source
  pub other : Source

abbrev pub clash_value : Conflict → Clash
clash_value c = record { destination = bstring_bytes c.destination.now; one = source_of c.one.now; other = source_of c.other.now }

-- the first source, and the first one that differs from it
abbrev pub clash_in : List ℕ → List Source → Option Clash
clash_in name [] = None
clash_in name (one ∷ rest) =
    option_map (λ other. record { destination = name; one = one; other = other }) (find (λ s. not (source_eq one s)) rest)

-- the two sources of the first conflict
abbrev pub clash_of : List ConflictValue → Option Clash
clash_of [] = None
clash_of (c ∷ cs) = clash_in c.destination c.sources

-- the two sources in an error of a session
abbrev pub conflict_in : Error → Option Clash
conflict_in (Conflicts e) = clash_of (conflicts_in e.issues)
conflict_in _ = None
