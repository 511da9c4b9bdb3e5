-- The paths of a repository, as git prints them, one in each line (git-rev-parse,
-- "--show-object-format", "--git-path").
use Rattle.std.specs.Prelude.{◌≡◌, ℕ, ◌++◌, ◌==◌, ◌||◌, nat_eq, Bool, if◌then◌else◌, List, [], ◌∷◌, length, codes, Option, Some, None, string_bytes}
use Rattle.std.specs.List.{starts_with}
use Rattle.std.specs.Str.{bytes_eq}
use Rattle.bstr.specs.Owned.{bstring_bytes}
use Rattle.gixp_remote_session.specs.declared.paths.RepositoryPaths.{RepositoryPaths}

-- the lines in order, and an empty one after the last line feed; the lock is git's own
pub record AreListedPaths (lines : List (List ℕ)) (paths : RepositoryPaths) : Type 0 where
  pub listed : lines ≡ bstring_bytes paths.format ∷ string_bytes paths.shallow ∷ string_bytes paths.objects ∷ [] ∷ []
  pub lock : string_bytes paths.shallow_lock ≡ string_bytes paths.shallow ++ codes ".lock"

-- the hash function of the server is SHA-1; a clone gets that of the server
abbrev pub fits_format : Bool → List ℕ → Bool
fits_format is_cloning format = is_cloning || bytes_eq format (codes "sha1")

-- the file of the boundary, by GIT_SHALLOW_FILE; none if that is empty; a relative path (47 begins
-- others) begins at the shell's working directory
abbrev pub boundary_file : List ℕ → Option (List ℕ) → Option (List ℕ)
boundary_file own None = Some own
boundary_file own (Some path) =
    if length path == 0 then None
    else if starts_with nat_eq path (codes "/") then Some path
    else Some (codes "../cwd/" ++ path)
