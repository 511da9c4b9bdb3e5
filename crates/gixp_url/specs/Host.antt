-- The host and the port of a URL. Brackets may enclose the host.
use Rattle.std.specs.Prelude.{ℕ, ◌+◌, ◌-◌, ◌*◌, ◌==◌, ◌&&◌, ◌++◌, not, nat_le, Bool, true, if◌then◌else◌, List, [], ◌∷◌, take, drop, length, Option, Some, None}
use Rattle.gixp_url.specs.Text.{cut, starts_with_byte}
use Rattle.std.specs.Option.{option_map}
use Rattle.bstr.specs.Owned.{bstring_bytes}
use Rattle.gixp_url.specs.declared.host.Brackets.{Brackets}
use Rattle.gixp_url.specs.declared.host.Host.{Host}

-- a host in brackets, with the text before and after them
pub record BracketsValue : Type 0 where
  pub front : List ℕ
  pub inner : List ℕ
  pub after : List ℕ

abbrev pub brackets_value : Brackets → BracketsValue
brackets_value b = record { front = b.before.now; inner = b.inner.now; after = b.after.now }

-- `at` bytes were read: the offset of the bracket that may enclose the host, after the first `@`
-- (64) that a bracket (91) follows
abbrev pub bracket_from : ℕ → List ℕ → ℕ
bracket_from at [] = 0
bracket_from at (b ∷ bytes) = if b == 64 && starts_with_byte 91 bytes then at + 1 else bracket_from (at + 1) bytes

abbrev pub bracket_at : List ℕ → ℕ
bracket_at text = bracket_from 0 text

abbrev pub closed : List ℕ → Option (List ℕ × List ℕ) → Option BracketsValue
closed front None = None
closed front (Some p) = Some (record { front = front; inner = p.0; after = p.1 })

abbrev pub opened : List ℕ → List ℕ → Option BracketsValue
opened front [] = None
opened front (first ∷ rest) = if first == 91 then closed front (cut 93 rest) else None

-- the text in the brackets, before them and after them
abbrev pub brackets : List ℕ → Option BracketsValue
brackets text = opened (take (bracket_at text) text) (drop (bracket_at text) text)

abbrev pub after_brackets : ℕ → Option BracketsValue → ℕ
after_brackets size None = 0
after_brackets size (Some b) = size - length b.after

-- the offset from which the path is searched: after the brackets, else 0
abbrev pub search_from : List ℕ → ℕ
search_from text = after_brackets (length text) (brackets text)

-- all bytes are digits, and the number is at most 65,535
abbrev pub fits_port_after : ℕ → List ℕ → Bool
fits_port_after number [] = true
fits_port_after number (d ∷ ds) =
    nat_le 48 d && nat_le d 57 && nat_le (number * 10 + (d - 48)) 65535 && fits_port_after (number * 10 + (d - 48)) ds

abbrev pub is_port : List ℕ → Bool
is_port text = not (length text == 0) && fits_port_after 0 text

abbrev pub port_of : Option (List ℕ × List ℕ) → Option (List ℕ × List ℕ)
port_of None = None
port_of (Some p) = if is_port p.1 then Some p else None

-- the host, and the port after the first colon (58)
abbrev pub split_host_port : List ℕ → Option (List ℕ × List ℕ)
split_host_port text = port_of (cut 58 text)

pub record HostPort : Type 0 where
  pub host : List ℕ
  pub port : Option (List ℕ)

abbrev pub host_port_by : List ℕ → Option (List ℕ × List ℕ) → HostPort
host_port_by text None = record { host = text; port = None }
host_port_by text (Some p) = record { host = p.0; port = Some p.1 }

-- a colon at the end is dropped
abbrev pub without_colon : List ℕ → Option (List ℕ × List ℕ) → List ℕ
without_colon text None = text
without_colon text (Some p) = if length p.1 == 0 then p.0 else text

-- the host in brackets; the port follows the brackets, or is in them
abbrev pub bracketed_host : List ℕ → Option (List ℕ × List ℕ) → HostPort
bracketed_host name None = host_port_by name (split_host_port name)
bracketed_host name (Some p) = record { host = name; port = Some p.1 }

abbrev pub host_of : List ℕ → Option BracketsValue → HostPort
host_of text None = host_port_by (without_colon text (cut 58 text)) (split_host_port text)
host_of text (Some b) = bracketed_host (b.front ++ b.inner) (split_host_port b.after)

-- the host and the port of the text before a path
abbrev pub host_and_port : List ℕ → HostPort
host_and_port text = host_of text (brackets text)

abbrev pub host_value : Host → HostPort
host_value h = record { host = bstring_bytes h.name; port = option_map bstring_bytes h.port }
