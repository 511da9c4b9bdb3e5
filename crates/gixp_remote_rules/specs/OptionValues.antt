-- The values of git's options, and the replies (gitremote-helpers, "OPTIONS").
use Rattle.std.specs.Prelude.{ℕ, ◌==◌, Bool, true, false, if◌then◌else◌, List, codes, Option, Some, None}
use Rattle.std.specs.Str.{bytes_eq}
use Rattle.gixp_remote_rules.specs.Number.{number_of}
use Rattle.gixp_remote_rules.specs.declared.options.OptionReply.{OptionReply}
use Rattle.gixp_remote_rules.specs.declared.options.OptionReply.TheVariants.{Ok as OkReply, Unsupported, Error}
use Rattle.gixp_remote_rules.specs.declared.options.Depth.{Depth}
use Rattle.gixp_remote_rules.specs.declared.options.Depth.TheVariants.{Any, Commits, All}
use Rattle.gixp_remote_rules.specs.declared.options.Family.{Family}
use Rattle.gixp_remote_rules.specs.declared.options.Family.TheVariants.{All as FamilyAll, Ipv4, Ipv6}

abbrev pub reply_text : OptionReply → List ℕ
reply_text OkReply = codes "ok\n"
reply_text Unsupported = codes "unsupported\n"
reply_text Error = codes "error the value is malformed\n"

-- a boolean
abbrev pub switch_of : List ℕ → Option Bool
switch_of value = if bytes_eq value (codes "true") then Some true else if bytes_eq value (codes "false") then Some false else None

-- which addresses are used
abbrev pub family_of : List ℕ → Option Family
family_of value =
    if bytes_eq value (codes "ipv4") then Some Ipv4
    else if bytes_eq value (codes "ipv6") then Some Ipv6
    else if bytes_eq value (codes "all") then Some FamilyAll
    else None

abbrev pub set_flag_by : Bool → Option Bool → Bool × OptionReply
set_flag_by before None = (before, Error)
set_flag_by before (Some value) = (value, OkReply)

abbrev pub set_flag : Bool → List ℕ → Bool × OptionReply
set_flag before value = set_flag_by before (switch_of value)

abbrev pub depth_by : Option ℕ → Option Depth
depth_by None = None
depth_by (Some n) = if n == 0 then Some Any else if n == 2147483647 then Some All else Some (Commits n)

-- a depth: for the whole history git sends 2^31 - 1, and for no depth 0
abbrev pub depth_of : List ℕ → Option Depth
depth_of value = depth_by (number_of value)
