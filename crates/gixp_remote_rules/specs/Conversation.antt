-- The conversation with git, line by line (gitremote-helpers, "COMMANDS").
use Rattle.std.specs.Prelude.{ℕ, ◌==◌, ◌||◌, Bool, false, if◌then◌else◌, List, [], ◌∷◌, ◌++◌, length, map, codes, is_some}
use Rattle.bstr.specs.Owned.{bstring_bytes}
use Rattle.gixp_hash.specs.declared.object_id.ObjectId.{ObjectId}
use Rattle.gixp_hash.specs.ObjectId.{id_of}
use Rattle.gixp_remote_rules.specs.declared.conversation.Conversation.{Conversation}
use Rattle.gixp_remote_rules.specs.declared.conversation.Reaction.{Reaction}
use Rattle.gixp_remote_rules.specs.declared.conversation.Reaction.TheVariants.{Reply, List as ListReaction, Fetch as FetchReaction, Stop, Refuse}
use Rattle.gixp_remote_rules.specs.declared.options.OptionReply.{OptionReply}
use Rattle.gixp_remote_rules.specs.declared.options.OptionReply.TheVariants.{Ok as OkReply}
use Rattle.gixp_remote_rules.specs.Batch.{wanted_ids, fetch_lines, with_want, with_fetch_line}
use Rattle.gixp_remote_rules.specs.HelperOptions.{HelperOptionsValue, options_value, default_options, with_option}
use Rattle.gixp_remote_rules.specs.Command.{CommandValue, capabilities as ask_capabilities, list_refs, option_of, fetch_of, end_batch, unknown_line, command_of}
use Rattle.gixp_remote_rules.specs.OptionValues.{reply_text}
use Rattle.gixp_remote_rules.specs.FetchReply.{capabilities}

-- the options that git set, their lines that git's program for HTTP didn't get yet, the batch that
-- git is sending with its lines, and whether that program gets git's commands
pub record ConversationValue : Type 0 where
  pub options : HelperOptionsValue
  pub option_lines : List (List ℕ)
  pub wanted : List ObjectId
  pub fetch_lines : List ℕ
  pub is_relayed : Bool

abbrev pub conversation_value : Conversation → ConversationValue
conversation_value c = record {
  options = options_value c.options;
  option_lines = map bstring_bytes c.option_lines.items;
  wanted = wanted_ids c.batch;
  fetch_lines = fetch_lines c.batch;
  is_relayed = c.is_relayed;
}

-- before git's first line
abbrev pub first_state : ConversationValue
first_state = record { options = default_options; option_lines = []; wanted = []; fetch_lines = []; is_relayed = false }

-- write a reply, which may be empty; list the refs; fetch the batch; end; refuse the line
pub data ReactionValue : Type 0 where
  replies : List ℕ → ReactionValue
  lists : ReactionValue
  fetches : ReactionValue
  stops : ReactionValue
  refuses : ReactionValue

abbrev pub reaction_value : Reaction → ReactionValue
reaction_value (Reply text) = replies text.now
reaction_value ListReaction = lists
reaction_value FetchReaction = fetches
reaction_value Stop = stops
reaction_value Refuse = refuses

-- git's program for HTTP gets the line of an option that the helper accepted
abbrev pub accepted_line : OptionReply → List ℕ → List (List ℕ)
accepted_line OkReply line = (line ++ codes "\n") ∷ []
accepted_line _ line = []

abbrev pub with_option_line : ConversationValue → OptionReply → List ℕ → ConversationValue
with_option_line t reply line = record t { option_lines = t.option_lines ++ accepted_line reply line }

-- an option by its name and its value, and its whole line
abbrev pub set_option : ConversationValue → (name value line : List ℕ) → ConversationValue × ReactionValue
set_option t name value line = (
  with_option_line (record t { options = (with_option t.options name value).0 }) (with_option t.options name value).1 line,
  replies (reply_text (with_option t.options name value).1),
)

-- a `fetch` command by its id, which git's program for HTTP reads itself, and its whole line
abbrev pub is_wanted : ConversationValue → List ℕ → Bool
is_wanted t id = t.is_relayed || is_some (id_of id)

abbrev pub with_fetch : ConversationValue → (id line : List ℕ) → ConversationValue
with_fetch t id line = record t { wanted = with_want t.wanted id; fetch_lines = with_fetch_line t.fetch_lines line }

abbrev pub add_want : ConversationValue → (id line : List ℕ) → ConversationValue × ReactionValue
add_want t id line = if is_wanted t id then (with_fetch t id line, replies []) else (t, refuses)

-- an empty line ends the batch, or the conversation
abbrev pub end_of_batch : ConversationValue → ReactionValue
end_of_batch t = if length t.fetch_lines == 0 then stops else fetches

abbrev pub reaction_to_command : ConversationValue → List ℕ → CommandValue → ConversationValue × ReactionValue
reaction_to_command t line ask_capabilities = (t, replies capabilities)
reaction_to_command t line list_refs = (t, lists)
reaction_to_command t line (option_of name value) = set_option t name value line
reaction_to_command t line (fetch_of id name) = add_want t id line
reaction_to_command t line end_batch = (t, end_of_batch t)
reaction_to_command t line unknown_line = (t, refuses)

-- the reaction to a line
abbrev pub reaction_to : ConversationValue → List ℕ → ConversationValue × ReactionValue
reaction_to t line = reaction_to_command t line (command_of line)
