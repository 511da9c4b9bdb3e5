-- The commands that git sends to a remote helper (gitremote-helpers, "COMMANDS").
use Rattle.std.specs.Prelude.{ℕ, ◌+◌, ◌==◌, if◌then◌else◌, List, [], take, drop, length, codes, Option, Some, None}
use Rattle.std.specs.List.{position}
use Rattle.std.specs.Str.{bytes_eq}
use Rattle.gixp_remote_rules.specs.declared.command.HelperCommand.{HelperCommand}
use Rattle.gixp_remote_rules.specs.declared.command.HelperCommand.TheVariants.{Capabilities, List as ListCommand, Option as OptionCommand, Fetch, End, Unknown}

-- a command of git
pub data CommandValue : Type 0 where
  capabilities : CommandValue
  list_refs : CommandValue
  option_of : List ℕ → List ℕ → CommandValue
  fetch_of : List ℕ → List ℕ → CommandValue
  end_batch : CommandValue
  unknown_line : CommandValue

abbrev pub command_value : HelperCommand → CommandValue
command_value Capabilities = capabilities
command_value ListCommand = list_refs
command_value (OptionCommand name value) = option_of name.now value.now
command_value (Fetch id name) = fetch_of id.now name.now
command_value End = end_batch
command_value Unknown = unknown_line

abbrev pub cut_at : List ℕ → Option ℕ → List ℕ × List ℕ
cut_at text None = (text, [])
cut_at text (Some at) = (take at text, drop (at + 1) text)

-- the text before the first space (32), and after it
abbrev pub cut_blank : List ℕ → List ℕ × List ℕ
cut_blank text = cut_at text (position (λ b. b == 32) text)

abbrev pub command_of : List ℕ → CommandValue
command_of line =
    if length line == 0 then end_batch
    else if bytes_eq line (codes "capabilities") then capabilities
    else if bytes_eq line (codes "list") then list_refs
    else if bytes_eq (cut_blank line).0 (codes "option") then option_of (cut_blank (cut_blank line).1).0 (cut_blank (cut_blank line).1).1
    else if bytes_eq (cut_blank line).0 (codes "fetch") then fetch_of (cut_blank (cut_blank line).1).0 (cut_blank (cut_blank line).1).1
    else unknown_line
