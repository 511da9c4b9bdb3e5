-- What git's own program for HTTP gets in a whole conversation, by git's lines.
use Rattle.std.specs.Prelude.{ℕ, List, [], ◌∷◌, ◌++◌}
use Rattle.gixp_remote_rules.specs.Command.{CommandValue, option_of, command_of}
use Rattle.gixp_remote_rules.specs.Conversation.{ConversationValue, accepted_line, reaction_to}
use Rattle.gixp_remote_rules.specs.HelperOptions.{with_option}
use Rattle.gixp_remote_rules.specs.Relay.{RelayedValue, passed_on, after_passing}

-- the state after the helper handled a line
abbrev pub handled : ConversationValue → List ℕ → ConversationValue
handled t line = after_passing (reaction_to t line).0 (reaction_to t line).1

-- all that is passed on, and the state at the end
unfoldable pub relayed_by : ConversationValue → List (List ℕ) → List RelayedValue
relayed_by t [] = []
relayed_by t (line ∷ rest) = passed_on (reaction_to t line).0 (reaction_to t line).1 ∷ relayed_by (handled t line) rest

unfoldable pub all_handled : ConversationValue → List (List ℕ) → ConversationValue
all_handled t [] = t
all_handled t (line ∷ rest) = all_handled (handled t line) rest

-- the lines of the options that the helper accepts
abbrev pub accepted_by : ConversationValue → List ℕ → CommandValue → List (List ℕ)
accepted_by t line (option_of name value) = accepted_line (with_option t.options name value).1 line
accepted_by t line command = []

unfoldable pub accepted_options : ConversationValue → List (List ℕ) → List (List ℕ)
accepted_options t [] = []
accepted_options t (line ∷ rest) = accepted_by t line (command_of line) ++ accepted_options (handled t line) rest
