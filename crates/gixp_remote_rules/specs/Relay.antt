-- What git's own program for HTTP gets of git's commands if the server doesn't speak version 2
-- (gitremote-helpers, "option", "list", "fetch").
use Rattle.std.specs.Prelude.{ℕ, List, [], ◌++◌, map, codes}
use Rattle.bstr.specs.Owned.{bstring_bytes}
use Rattle.gixp_remote_rules.specs.Conversation.{ConversationValue, ReactionValue, replies, lists, fetches, stops, refuses}
use Rattle.gixp_remote_rules.specs.declared.relay.Relayed.{Relayed}

-- lines of options, each of which gets a reply, and then a command
pub record RelayedValue : Type 0 where
  pub options : List (List ℕ)
  pub command : List ℕ

abbrev pub relayed_value : Relayed → RelayedValue
relayed_value r = record { options = map bstring_bytes r.options.items; command = r.command.items }

-- a command without options
abbrev pub only_command : List ℕ → RelayedValue
only_command command = record { options = []; command = command }

-- a list and a batch follow the options that were accepted since the last of them; an empty line
-- ends a batch and the conversation; nothing else is passed on
abbrev pub passed_on : ConversationValue → ReactionValue → RelayedValue
passed_on t lists = record { options = t.option_lines; command = codes "list\n" }
passed_on t fetches = record { options = t.option_lines; command = t.fetch_lines ++ codes "\n" }
passed_on t stops = only_command (codes "\n")
passed_on t (replies text) = only_command []
passed_on t refuses = only_command []

-- without the options
abbrev pub without_option_lines : ConversationValue → ConversationValue
without_option_lines t = record t { option_lines = [] }

-- each option and each batch is passed on once
abbrev pub after_passing : ConversationValue → ReactionValue → ConversationValue
after_passing t lists = without_option_lines t
after_passing t fetches = record t { option_lines = []; wanted = []; fetch_lines = [] }
after_passing t stops = t
after_passing t (replies text) = t
after_passing t refuses = t
