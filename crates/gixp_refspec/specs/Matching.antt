-- Which names a refspec matches, the local name for each, and the prefixes that cover them.
use Rattle.std.specs.Prelude.{ℕ, ◌≡◌, ◌+◌, ◌-◌, ◌==◌, nat_eq, nat_lt, Bool, true, false, ◌||◌, if◌then◌else◌, List, [], ◌∷◌, ◌++◌, length, take, drop, map, codes, Option, Some, None, is_some, option_map}
use Rattle.std.specs.List.{list_any, starts_with, before_first, after_first}
use Rattle.std.specs.Str.{bytes_eq}
use Rattle.std.specs.Borrow.{Bor}
use Rattle.gixp_refspec.specs.Spec.{Spec, stars, is_id, is_full, is_negative}

abbrev pub is_star : ℕ → Bool
is_star b = b == 42

-- the text before the asterisk of a pattern
abbrev pub before_star : List ℕ → List ℕ
before_star text = before_first is_star text

-- the text after the asterisk of a pattern
abbrev pub after_star : List ℕ → List ℕ
after_star text = after_first is_star text

-- whether a text is a pattern: it has an asterisk
abbrev pub is_pattern : List ℕ → Bool
is_pattern text = nat_lt 0 (stars text)

-- the kinds of sources: an object id, a pattern, a full name, or a short name
pub data Kind : Type 0 where
  Id : Kind
  Pattern : Kind
  Exact : Kind
  Short : Kind

-- an object id comes first, then a text with an asterisk, then `HEAD` and names that begin with `refs/`; all others are short names
unfoldable pub kind_of : List ℕ → Kind
kind_of source = if is_id source then Id else if is_pattern source then Pattern else if is_full source then Exact else Short

-- the text before and after a short name in each of its expansions (gitrevisions)
abbrev pub rules : List (List ℕ × List ℕ)
rules =
    ([], []) ∷ (codes "refs/", []) ∷ (codes "refs/tags/", []) ∷ (codes "refs/heads/", []) ∷ (codes "refs/remotes/", [])
    ∷ (codes "refs/remotes/", codes "/HEAD") ∷ []

-- a short name, expanded by a rule
abbrev pub joined : List ℕ → List ℕ × List ℕ → List ℕ
joined name rule = rule.0 ++ (name ++ rule.1)

-- a rule of the code, as two texts
abbrev pub rule_of : Bor (List ℕ) × Bor (List ℕ) → List ℕ × List ℕ
rule_of rule = (rule.0.now, rule.1.now)

-- the six expansions of a short name
unfoldable pub candidates : List ℕ → List (List ℕ)
candidates name = map (joined name) rules

-- the part of any name between the lengths of front and back
abbrev pub inner : List ℕ → List ℕ → List ℕ → List ℕ
inner front back name = take (length name - (length front + length back)) (drop (length front) name)

-- the middle of a name that is front, middle and back
unfoldable pub between : List ℕ → List ℕ → List ℕ → Option (List ℕ)
between front back name = if bytes_eq name (front ++ (inner front back name ++ back)) then Some (inner front back name) else None

-- the empty middle where the test holds, otherwise none
abbrev pub where_true : Bool → Option (List ℕ)
where_true b = if b then Some [] else None

-- the middle of a name, by the kind of the source
abbrev pub middle_by : Kind → List ℕ → List ℕ → Option (List ℕ)
middle_by Id source name = None
middle_by Pattern source name = between (before_star source) (after_star source) name
middle_by Exact source name = where_true (bytes_eq name source)
middle_by Short source name = where_true (list_any (λ candidate. bytes_eq name candidate) (candidates source))

-- the middle of a name that the source matches: the part that the asterisk matches, or empty for a source that is not a pattern
unfoldable pub middle_of : List ℕ → List ℕ → Option (List ℕ)
middle_of source name = middle_by (kind_of source) source name

-- the source of the refspec matches the name
abbrev pub matches : Spec → List ℕ → Bool
matches s name = is_some (middle_of s.source name)

-- the full name of a destination that is not a pattern
unfoldable pub full_local : List ℕ → List ℕ
full_local destination =
    if starts_with nat_eq destination (codes "refs/") then destination
    else if starts_with nat_eq destination (codes "heads/") || starts_with nat_eq destination (codes "tags/")
    || starts_with nat_eq destination (codes "remotes/") then codes "refs/" ++ destination
    else codes "refs/heads/" ++ destination

-- the local name of a destination, where its asterisk becomes the middle
unfoldable pub local_in : List ℕ → List ℕ → List ℕ
local_in middle destination =
    if is_pattern destination then before_star destination ++ (middle ++ after_star destination) else full_local destination

-- the local name, if the refspec has a destination
abbrev pub local_of : Spec → List ℕ → Option (List ℕ)
local_of s middle = option_map (local_in middle) s.destination

-- the prefixes of a source, by its kind
abbrev pub prefixes_by : Kind → List ℕ → List (List ℕ)
prefixes_by Id source = []
prefixes_by Pattern source = before_star source ∷ []
prefixes_by Exact source = source ∷ []
prefixes_by Short source = candidates source

-- the prefixes of a refspec; each name that it matches begins with one of them
unfoldable pub prefixes_of : Spec → List (List ℕ)
prefixes_of s = if is_negative s.sign then [] else prefixes_by (kind_of s.source) s.source

-- whether the name begins with one of the prefixes
abbrev pub is_covered : List (List ℕ) → List ℕ → Bool
is_covered prefixes name = list_any (λ prefix. starts_with nat_eq name prefix) prefixes

-- each name that a positive refspec matches begins with one of the prefixes
abbrev pub Covers : List (List ℕ) → Spec → Type 0
Covers prefixes s = (name : List ℕ) → is_negative s.sign ≡ false → matches s name ≡ true → is_covered prefixes name ≡ true
