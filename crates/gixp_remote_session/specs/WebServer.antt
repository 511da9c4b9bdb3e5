-- The lines for git's own program for HTTP, and its replies (gitremote-helpers, "option verbosity",
-- "stateless-connect").
use Rattle.std.specs.Prelude.{◌≡◌, ℕ, ⊤, ◌==◌, ◌&&◌, Bool, true, false, if◌then◌else◌, List, [], ◌++◌, length, codes, Option, Some, None, is_some}
use Rattle.std.specs.Option.{IfSome, option_map}
use Rattle.std.specs.Io.BufRead.{take_through, drop_through, ends_with_byte, strip_last}
use Rattle.gixp_remote_rules.specs.declared.options.Family.{Family}
use Rattle.gixp_remote_rules.specs.declared.options.Family.TheVariants.{All, Ipv4, Ipv6}
use Rattle.gixp_remote_session.specs.declared.error.Error.{Error}
use Rattle.gixp_remote_session.specs.declared.error.Error.TheVariants.{Io, AlreadyReported}

-- a line without its line feed (10), if it has one
abbrev pub without_end : List ℕ → Option (List ℕ)
without_end line = if ends_with_byte 10 line then Some (strip_last 10 line) else None

-- a reply is the first line of the output
abbrev pub reply_in : List ℕ → Option (List ℕ)
reply_in output = without_end (take_through 10 output)

abbrev pub has_reply : List ℕ → Bool
has_reply output = is_some (reply_in output)

-- the reply to an option, if it was sent, and the output after it
abbrev pub has_replied : Bool → List ℕ → Bool
has_replied is_quiet output = if is_quiet then has_reply output else true

abbrev pub after_option : Bool → List ℕ → List ℕ
after_option is_quiet output = if is_quiet then drop_through 10 output else output

abbrev pub is_limited : Family → Bool
is_limited All = false
is_limited family = true

-- the replies to both options, each if it was sent
abbrev pub have_replied : Bool → Family → List ℕ → Bool
have_replied is_quiet family output = has_replied is_quiet output && has_replied (is_limited family) (after_option is_quiet output)

abbrev pub after_options : Bool → Family → List ℕ → List ℕ
after_options is_quiet family output = after_option (is_limited family) (after_option is_quiet output)

-- the output after the reply to `stateless-connect`
abbrev pub after_replies : Bool → Family → List ℕ → List ℕ
after_replies is_quiet family output = drop_through 10 (after_options is_quiet family output)

-- the reply to `stateless-connect`
abbrev pub connect_reply : Bool → Family → List ℕ → Option (List ℕ)
connect_reply is_quiet family output = reply_in (after_options is_quiet family output)

-- the program carries requests if that is empty: the server speaks version 2
abbrev pub carries : Bool → Family → List ℕ → Option Bool
carries is_quiet family output = option_map (λ line. length line == 0) (connect_reply is_quiet family output)

-- the program replied to the options and to `stateless-connect`; any reply to an option will do
abbrev pub has_connected : Bool → Family → List ℕ → Bool
has_connected is_quiet family output =
    have_replied is_quiet family output && has_reply (after_options is_quiet family output)

-- why a reply is missing
abbrev pub IsMissingReply : (List ℕ → Bool) → Option (List ℕ) → Error → Type 0
IsMissingReply replied output AlreadyReported = IfSome output (λ bytes. replied bytes ≡ false)
IsMissingReply replied output (Io kind) = ⊤
IsMissingReply replied output _ = ⊥

abbrev pub option_sent : Bool → List ℕ → List ℕ
option_sent is_set line = if is_set then line else []

abbrev pub family_line : Family → List ℕ
family_line All = codes "option family all\n"
family_line Ipv4 = codes "option family ipv4\n"
family_line Ipv6 = codes "option family ipv6\n"

-- the program is as quiet as git is, and has its addresses
abbrev pub options_sent : Bool → Family → List ℕ
options_sent is_quiet family =
    option_sent is_quiet (codes "option verbosity 0\n") ++ option_sent (is_limited family) (family_line family)

abbrev pub connect_sent : Bool → Family → List ℕ
connect_sent is_quiet family = options_sent is_quiet family ++ codes "stateless-connect git-upload-pack\n"
