-- The depth of a fetch, by git's options (gitremote-helpers, "option depth").
use Rattle.std.specs.Prelude.{◌≡◌, ◌≢◌, ◌==◌, ◌||◌, ℕ, ℤ, Bool, true, false, not, if◌then◌else◌, List, [], length, map, Option, Some, None, is_some}
use Rattle.bstr.specs.Owned.{bstring_bytes}
use Rattle.bstr.specs.declared.bstring.BString.{BString}
use Rattle.gix_protocol.specs.Shallow.{ShallowValue, no_change, at_remote, deepens, since, excludes}
use Rattle.gixp_remote_rules.specs.declared.options.Depth.{Depth}
use Rattle.gixp_remote_rules.specs.declared.options.Depth.TheVariants.{Any, Commits, All}

-- this many commits, from the refs or from the boundary; 0 is no limit
abbrev pub of_commits : ℕ → Bool → ShallowValue
of_commits count is_relative = if count == 0 then no_change else if is_relative then deepens count else at_remote count

-- a time and excluded refs, which one request can combine
abbrev pub IsPart : List BString → Bool → ShallowValue → Type 0
IsPart names has_time no_change = (names ≡ []) × (has_time ≡ false)
IsPart names has_time (since cutoff) = (names ≡ []) × (has_time ≡ true)
IsPart names has_time (excludes texts cutoff) = (names ≢ []) × (texts ≡ map bstring_bytes names) × (is_some cutoff ≡ has_time)
IsPart names has_time _ = ⊥

-- the limits by excluded refs, and by a time in seconds
abbrev pub limit_of_time : Option ℤ → ShallowValue
limit_of_time None = no_change
limit_of_time (Some cutoff) = since cutoff

abbrev pub limits_by : List BString → Option ℤ → ShallowValue
limits_by names cutoff = if length names == 0 then limit_of_time cutoff else excludes (map bstring_bytes names) cutoff

-- a depth, and a time or an excluded ref too: no server accepts both (gitprotocol-v2,
-- "deepen-since")
abbrev pub has_two_limits : Depth → List BString → Bool → Bool
has_two_limits Any names has_time = false
has_two_limits _ names has_time = has_time || not (length names == 0)

-- the whole history is the largest depth
abbrev pub IsRequested : Depth → Bool → List BString → Bool → ShallowValue → Type 0
IsRequested All is_relative names has_time s = s ≡ at_remote 2147483647
IsRequested (Commits count) is_relative names has_time s = s ≡ of_commits count is_relative
IsRequested Any is_relative names has_time s = IsPart names has_time s
