-- The proxy command for `git://` servers (git-config, "core.gitProxy").
use Rattle.std.specs.Prelude.{ℕ, ◌+◌, ◌-◌, ◌==◌, ◌||◌, ◌&&◌, nat_eq, Bool, if◌then◌else◌, List, [], ◌∷◌, take, drop, length, codes, Option, Some, None}
use Rattle.std.specs.List.{ends_with}
use Rattle.std.specs.Str.{bytes_eq}
use Rattle.bstr.specs.Find.{first_of, matches}
use Rattle.gixp_remote_rules.specs.Config.{ConfigEntryValue, text_of}

-- nothing, or a text with a dot (46) at its end
abbrev pub is_front : List ℕ → Bool
is_front front = length front == 0 || ends_with nat_eq front (46 ∷ [])

-- a host is the domain, or within it
abbrev pub is_in_domain : List ℕ → List ℕ → Bool
is_in_domain domain host = ends_with nat_eq host domain && is_front (take (length host - length domain) host)

abbrev pub command_at : List ℕ → List ℕ → Option ℕ → Option (List ℕ)
command_at value host None = Some value
command_at value host (Some at) = if is_in_domain (drop (at + 5) value) host then Some (take at value) else None

-- the command of a value for this host: the whole value, or the text before ` for ` and a domain of
-- the host
abbrev pub command_for : List ℕ → List ℕ → Option (List ℕ)
command_for value host = command_at value host (first_of (matches value (codes " for ") 0))

-- the command of an entry, if it is `core.gitProxy` and applies to this host
abbrev pub command_of : ConfigEntryValue → List ℕ → Option (List ℕ)
command_of s host = if bytes_eq s.name (codes "core.gitproxy") then command_for (text_of s) host else None

abbrev pub or_else : Option (List ℕ) → Option (List ℕ) → Option (List ℕ)
or_else (Some found) other = Some found
or_else None other = other

-- the command of the first entry that applies to this host
abbrev pub first_command : List ConfigEntryValue → List ℕ → Option (List ℕ)
first_command [] host = None
first_command (s ∷ rest) host = or_else (command_of s host) (first_command rest host)

-- an empty command and `none` mean no command
abbrev pub unless_none : Option (List ℕ) → Option (List ℕ)
unless_none None = None
unless_none (Some command) = if bytes_eq command [] || bytes_eq command (codes "none") then None else Some command

-- the proxy command for a host: by the variable, else by the first entry that applies
abbrev pub proxy_for : Option (List ℕ) → List ConfigEntryValue → List ℕ → Option (List ℕ)
proxy_for variable settings host = unless_none (or_else variable (first_command settings host))
