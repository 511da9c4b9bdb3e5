-- The options that git sets (gitremote-helpers, "OPTIONS").
use Rattle.std.specs.Prelude.{ℕ, ◌==◌, ◌||◌, ◌&&◌, Bool, true, false, not, if◌then◌else◌, List, [], ◌∷◌, ◌++◌, length, map, codes, is_some, Option, Some, None}
use Rattle.std.specs.Option.{option_map}
use Rattle.std.specs.Str.{bytes_eq}
use Rattle.bstr.specs.Owned.{bstring_bytes}
use Rattle.gixp_remote_rules.specs.declared.options.HelperOptions.{HelperOptions}
use Rattle.gixp_remote_rules.specs.declared.options.Depth.{Depth}
use Rattle.gixp_remote_rules.specs.declared.options.Depth.TheVariants.{Any}
use Rattle.gixp_remote_rules.specs.declared.options.OptionReply.{OptionReply}
use Rattle.gixp_remote_rules.specs.declared.options.OptionReply.TheVariants.{Ok as OkReply, Unsupported, Error}
use Rattle.gixp_remote_rules.specs.declared.options.Family.{Family}
use Rattle.gixp_remote_rules.specs.declared.options.Family.TheVariants.{All}
use Rattle.gixp_remote_rules.specs.OptionValues.{depth_of, family_of, set_flag}
use Rattle.gixp_remote_rules.specs.CQuoting.{text_value}

pub record HelperOptionsValue : Type 0 where
  pub is_quiet : Bool
  pub shows_progress : Bool
  pub depth : Depth
  pub is_relative : Bool
  pub since : Option (List ℕ)
  pub excluded : List (List ℕ)
  pub follows_tags : Bool
  pub is_cloning : Bool
  pub check_connectivity : Bool
  pub updates_shallow : Bool
  pub rejects_shallow : Bool
  pub lists_format : Bool
  pub is_refetch : Bool
  pub filter : Option (List ℕ)
  pub is_from_promisor : Bool
  pub family : Family

abbrev pub options_value : HelperOptions → HelperOptionsValue
options_value c = record {
  is_quiet = c.is_quiet;
  shows_progress = c.shows_progress;
  depth = c.depth;
  is_relative = c.is_relative;
  since = option_map bstring_bytes c.since;
  excluded = map bstring_bytes c.excluded.items;
  follows_tags = c.follows_tags;
  is_cloning = c.is_cloning;
  check_connectivity = c.check_connectivity;
  updates_shallow = c.updates_shallow;
  rejects_shallow = c.rejects_shallow;
  lists_format = c.lists_format;
  is_refetch = c.is_refetch;
  filter = option_map bstring_bytes c.filter;
  is_from_promisor = c.is_from_promisor;
  family = c.family;
}

-- before git sets any
abbrev pub default_options : HelperOptionsValue
default_options = record {
  is_quiet = false;
  shows_progress = false;
  depth = Any;
  is_relative = false;
  since = None;
  excluded = [];
  follows_tags = false;
  is_cloning = false;
  check_connectivity = false;
  updates_shallow = false;
  rejects_shallow = false;
  lists_format = false;
  is_refetch = false;
  filter = None;
  is_from_promisor = false;
  family = All;
}

-- a boolean option with its new value, and the reply
abbrev pub with_reply : (Bool → HelperOptionsValue) → Bool × OptionReply → Option (HelperOptionsValue × OptionReply)
with_reply with p = Some (with p.0, p.1)

-- a boolean option
abbrev pub with_switch : HelperOptionsValue → List ℕ → List ℕ → Option (HelperOptionsValue × OptionReply)
with_switch c name value =
    if bytes_eq name (codes "progress") then with_reply (λ b. record c { shows_progress = b }) (set_flag c.shows_progress value)
    else if bytes_eq name (codes "followtags") then with_reply (λ b. record c { follows_tags = b }) (set_flag c.follows_tags value)
    else if bytes_eq name (codes "cloning") then with_reply (λ b. record c { is_cloning = b }) (set_flag c.is_cloning value)
    else if bytes_eq name (codes "check-connectivity") then with_reply (λ b. record c { check_connectivity = b }) (set_flag c.check_connectivity value)
    else if bytes_eq name (codes "update-shallow") then with_reply (λ b. record c { updates_shallow = b }) (set_flag c.updates_shallow value)
    else if bytes_eq name (codes "deepen-relative") then with_reply (λ b. record c { is_relative = b }) (set_flag c.is_relative value)
    else if bytes_eq name (codes "refetch") then with_reply (λ b. record c { is_refetch = b }) (set_flag c.is_refetch value)
    else None

-- a depth, if the value is one
abbrev pub with_depth : HelperOptionsValue → Option Depth → HelperOptionsValue × OptionReply
with_depth c None = (c, Error)
with_depth c (Some depth) = (record c { depth = depth }, OkReply)

-- a time, the name of a ref and a filter, if the value isn't malformed
abbrev pub with_since : HelperOptionsValue → Option (List ℕ) → HelperOptionsValue × OptionReply
with_since c None = (c, Error)
with_since c (Some since) = (record c { since = Some since }, OkReply)

abbrev pub with_excluded : HelperOptionsValue → Option (List ℕ) → HelperOptionsValue × OptionReply
with_excluded c None = (c, Error)
with_excluded c (Some name) = (record c { excluded = c.excluded ++ name ∷ [] }, OkReply)

abbrev pub with_filter : HelperOptionsValue → Option (List ℕ) → HelperOptionsValue × OptionReply
with_filter c None = (c, Error)
with_filter c (Some filter) = (record c { filter = Some filter }, OkReply)

-- an option about the history or the objects
abbrev pub with_history : HelperOptionsValue → List ℕ → List ℕ → Option (HelperOptionsValue × OptionReply)
with_history c name value =
    if bytes_eq name (codes "depth") then Some (with_depth c (depth_of value))
    else if bytes_eq name (codes "deepen-since") then Some (with_since c (text_value value))
    else if bytes_eq name (codes "deepen-not") then Some (with_excluded c (text_value value))
    else if bytes_eq name (codes "filter") then Some (with_filter c (text_value value))
    else None

-- the hash function: it is to be listed, or must be SHA-1
abbrev pub with_format : HelperOptionsValue → List ℕ → HelperOptionsValue × OptionReply
with_format c value =
    if bytes_eq value (codes "true") || bytes_eq value [] then (record c { lists_format = true }, OkReply)
    else if bytes_eq value (codes "sha1") then (c, OkReply)
    else (c, Unsupported)

-- which addresses are used, if the value names them
abbrev pub with_family : HelperOptionsValue → Option Family → HelperOptionsValue × OptionReply
with_family c None = (c, Error)
with_family c (Some family) = (record c { family = family }, OkReply)

-- one of the other options
abbrev pub with_other : HelperOptionsValue → List ℕ → List ℕ → HelperOptionsValue × OptionReply
with_other c name value =
    if bytes_eq name (codes "verbosity") then (record c { is_quiet = bytes_eq value (codes "0") }, OkReply)
    else if bytes_eq name (codes "rejectshallow") then (record c { rejects_shallow = true }, OkReply)
    else if bytes_eq name (codes "from-promisor") then (record c { is_from_promisor = true }, OkReply)
    else if bytes_eq name (codes "object-format") then with_format c value
    else if bytes_eq name (codes "family") then with_family c (family_of value)
    else (c, Unsupported)

-- the first of these that exists
abbrev pub first_match : Option (HelperOptionsValue × OptionReply) → Option (HelperOptionsValue × OptionReply) → HelperOptionsValue × OptionReply → HelperOptionsValue × OptionReply
first_match (Some found) history other = found
first_match None (Some found) other = found
first_match None None other = other

-- an option and its value
abbrev pub with_option : HelperOptionsValue → List ℕ → List ℕ → HelperOptionsValue × OptionReply
with_option c name value = first_match (with_switch c name value) (with_history c name value) (with_other c name value)

abbrev pub limits : Depth → Bool
limits Any = false
limits _ = true

-- any depth, time or excluded ref is set
abbrev pub has_depth : HelperOptionsValue → Bool
has_depth c = limits c.depth || is_some c.since || not (length c.excluded == 0)

-- connectivity is to be checked: not with a depth or a promisor remote, since objects are missing
-- on purpose then
abbrev pub wants_connectivity : HelperOptionsValue → Bool
wants_connectivity c = c.check_connectivity && not (has_depth c) && not c.is_from_promisor
