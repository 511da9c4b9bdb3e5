-- The options that are passed on, and those that wait.
use Rattle.std.proofs.Common.{◌≡◌, ℕ, Bool, true, false, if◌then◌else◌, List, [], ◌∷◌, ◌++◌, flat_map, ap, refl, sym, ◌∙◌, append-nil, append_assoc}
use Rattle.gixp_remote_rules.specs.Command.{CommandValue, capabilities, list_refs, option_of, fetch_of, end_batch, unknown_line, command_of}
use Rattle.gixp_remote_rules.specs.Conversation.{ConversationValue, ReactionValue, replies, stops, fetches, refuses, with_fetch, is_wanted, reaction_to_command, reaction_to}
use Rattle.gixp_remote_rules.specs.Relay.{RelayedValue, passed_on, after_passing}
use Rattle.gixp_remote_rules.specs.RelayRun.{handled, relayed_by, all_handled, accepted_by, accepted_options}
use Rattle.std.specs.Prelude.{◌==◌, length}

-- the options that are passed on after a reaction, and those that wait then
abbrev options_after : ConversationValue × ReactionValue → List (List ℕ)
options_after r = (passed_on r.0 r.1).options ++ (after_passing r.0 r.1).option_lines

after_fetch : (t : ConversationValue) (id line : List ℕ) (b : Bool)
    → t.option_lines ++ [] ≡ options_after (if b then (with_fetch t id line, replies []) else (t, refuses))
after_fetch t id line true = append-nil t.option_lines
after_fetch t id line false = append-nil t.option_lines

after_end : (t : ConversationValue) (b : Bool) → t.option_lines ++ [] ≡ options_after (t, if b then stops else fetches)
after_end t true = append-nil t.option_lines
after_end t false = refl

after_command : (t : ConversationValue) (line : List ℕ) (c : CommandValue)
    → t.option_lines ++ accepted_by t line c ≡ options_after (reaction_to_command t line c)
after_command t line capabilities = append-nil t.option_lines
after_command t line list_refs = refl
after_command t line (option_of name value) = refl
after_command t line (fetch_of id name) = after_fetch t id line (is_wanted t id)
after_command t line end_batch = after_end t (length t.fetch_lines == 0)
after_command t line unknown_line = append-nil t.option_lines

-- a line of git, and then the others
pub options_once : (t : ConversationValue) (lines : List (List ℕ))
    → t.option_lines ++ accepted_options t lines
    ≡ flat_map (λ (r : RelayedValue). r.options) (relayed_by t lines) ++ (all_handled t lines).option_lines
unfolding relayed_by all_handled accepted_options
options_once t [] = append-nil t.option_lines
options_once t (line ∷ rest) =
    let now : List (List ℕ) = (passed_on (reaction_to t line).0 (reaction_to t line).1).options in
    let later : List (List ℕ) = flat_map (λ (r : RelayedValue). r.options) (relayed_by (handled t line) rest) in
    sym (append_assoc t.option_lines (accepted_by t line (command_of line)) (accepted_options (handled t line) rest))
    ∙ ap (λ v. v ++ accepted_options (handled t line) rest) (after_command t line (command_of line))
    ∙ append_assoc now (handled t line).option_lines (accepted_options (handled t line) rest)
    ∙ ap (λ v. now ++ v) (options_once (handled t line) rest)
    ∙ sym (append_assoc now later (all_handled (handled t line) rest).option_lines)
