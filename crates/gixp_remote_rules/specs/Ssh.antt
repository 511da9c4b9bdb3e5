-- The arguments of ssh, by the variant of its program (git-config, "ssh.variant"; git,
-- "GIT_SSH_VARIANT").
use Rattle.std.specs.Prelude.{◌≡◌, ⊤, ℕ, ◌==◌, ◌||◌, Bool, true, false, if◌then◌else◌, List, [], ◌∷◌, ◌++◌, map, take, codes, Vec, Option, Some, None, Result, Ok, Err}
use Rattle.std.specs.List.{position}
use Rattle.std.specs.declared.alloc.Global.{Global}
use Rattle.std.specs.Option.{option_map}
use Rattle.std.specs.Str.{bytes_eq}
use Rattle.bstr.specs.declared.bstring.BString.{BString}
use Rattle.bstr.specs.Owned.{bstring_bytes}
use Rattle.gixp_remote_rules.specs.declared.options.Family.{Family}
use Rattle.gixp_remote_rules.specs.declared.options.Family.TheVariants.{All, Ipv4, Ipv6}
use Rattle.gixp_remote_rules.specs.declared.ssh.SshCall.{SshCall}
use Rattle.gixp_remote_rules.specs.declared.ssh.SshError.{SshError}
use Rattle.gixp_remote_rules.specs.declared.ssh.SshError.TheVariants.{Ipv4 as NoIpv4, Ipv6 as NoIpv6, Port as NoPort, Memory}
use Rattle.gixp_remote_rules.specs.declared.ssh.Variant.{Variant}
use Rattle.gixp_remote_rules.specs.declared.ssh.Variant.TheVariants.{Auto, Simple, Ssh, Plink, TortoisePlink}
use Rattle.gixp_remote_rules.specs.IgnoreCase.{is_word}
use Rattle.gixp_remote_rules.specs.Quoting.{quoted}

-- the variant that the user's word names; an unknown word means OpenSSH
abbrev pub named_variant : List ℕ → Variant
named_variant word =
    if bytes_eq word (codes "auto") then Auto
    else if bytes_eq word (codes "plink") || bytes_eq word (codes "putty") then Plink
    else if bytes_eq word (codes "tortoiseplink") then TortoisePlink
    else if bytes_eq word (codes "simple") then Simple
    else Ssh

-- the text after the last slash (47), or `base` if there is none
abbrev pub base_name_or : List ℕ → List ℕ → List ℕ
base_name_or base [] = base
base_name_or base (b ∷ rest) = if b == 47 then base_name_or rest rest else base_name_or base rest

-- the name of a program without its folder
abbrev pub base_name : List ℕ → List ℕ
base_name program = base_name_or program program

-- the variant of a program of this name
abbrev pub variant_named : List ℕ → Variant
variant_named name =
    if is_word name (codes "ssh") || is_word name (codes "ssh.exe") then Ssh
    else if is_word name (codes "plink") || is_word name (codes "plink.exe") then Plink
    else if is_word name (codes "tortoiseplink") || is_word name (codes "tortoiseplink.exe") then TortoisePlink
    else Auto

abbrev pub variant_of_program : List ℕ → Variant
variant_of_program program = variant_named (base_name program)

-- a text without the spaces (32) and tabs (9) that it begins with
abbrev pub trim_blanks : List ℕ → List ℕ
trim_blanks [] = []
trim_blanks (b ∷ rest) = if b == 32 || b == 9 then trim_blanks rest else b ∷ rest

abbrev pub until_offset : List ℕ → Option ℕ → List ℕ
until_offset text None = text
until_offset text (Some at) = take at text

-- the text before a byte
abbrev pub before : List ℕ → ℕ → List ℕ
before text byte = until_offset text (position (λ b. b == byte) text)

-- up to the next quote (39 or 34) of the same kind, or to the next space (32)
abbrev pub word_at : List ℕ → List ℕ
word_at [] = []
word_at (b ∷ rest) = if b == 39 || b == 34 then before rest b else before (b ∷ rest) 32

-- the first word of a shell command, without quotes
abbrev pub first_word : List ℕ → List ℕ
first_word text = word_at (trim_blanks text)

-- a named variant counts, unless it is `auto`
abbrev pub unless_auto : Variant → List ℕ → Variant
unless_auto Auto program = variant_of_program program
unless_auto variant program = variant

-- the named variant, else the variant of the program
abbrev pub variant_of : Option (List ℕ) → List ℕ → Variant
variant_of (Some word) program = unless_auto (named_variant word) program
variant_of None program = variant_of_program program

-- the connection that ssh opens
pub record SshCallValue : Type 0 where
  pub sends_version : Bool
  pub family : Family
  pub port : Option (List ℕ)
  pub host : List ℕ

abbrev pub call_value : SshCall → SshCallValue
call_value c = record {
  sends_version = c.sends_version;
  family = c.family;
  port = option_map (λ p. p.now) c.port;
  host = c.host.now;
}

-- OpenSSH gets the version by an environment variable
abbrev pub is_sent : Variant → Bool → Bool
is_sent Ssh sends_version = sends_version
is_sent variant sends_version = false

abbrev pub version_argv : Variant → Bool → List (List ℕ)
version_argv variant sends_version =
    if is_sent variant sends_version then codes "-o" ∷ codes "SendEnv=GIT_PROTOCOL" ∷ [] else []

-- the variant can be limited to IPv4 or IPv6 addresses
abbrev pub has_families : Variant → Bool
has_families Simple = false
has_families variant = true

abbrev pub family_option : Family → List (List ℕ)
family_option All = []
family_option Ipv4 = codes "-4" ∷ []
family_option Ipv6 = codes "-6" ∷ []

abbrev pub family_argv : Variant → Family → List (List ℕ)
family_argv variant family = if has_families variant then family_option family else []

-- TortoisePlink then doesn't ask the user
abbrev pub batch_argv : Variant → List (List ℕ)
batch_argv TortoisePlink = codes "-batch" ∷ []
batch_argv variant = []

-- the option that precedes a port
abbrev pub port_option : Variant → Option (List ℕ)
port_option Ssh = Some (codes "-p")
port_option Plink = Some (codes "-P")
port_option TortoisePlink = Some (codes "-P")
port_option variant = None

abbrev pub port_argv : Option (List ℕ) → Option (List ℕ) → List (List ℕ)
port_argv (Some option) (Some port) = option ∷ port ∷ []
port_argv option port = []

-- the options in git's order, and the host
abbrev pub call_argv : Variant → SshCallValue → List (List ℕ)
call_argv variant c =
    version_argv variant c.sends_version
    ++ (family_argv variant c.family ++ (batch_argv variant ++ (port_argv (port_option variant) c.port ++ c.host ∷ [])))

abbrev pub family_error : Family → Option SshError
family_error All = None
family_error Ipv4 = Some NoIpv4
family_error Ipv6 = Some NoIpv6

abbrev pub family_refusal : Variant → Family → Option SshError
family_refusal variant family = if has_families variant then None else family_error family

abbrev pub port_error : Option (List ℕ) → Option (List ℕ) → Option SshError
port_error None (Some port) = Some NoPort
port_error option port = None

abbrev pub port_refusal : Variant → Option (List ℕ) → Option SshError
port_refusal variant port = port_error (port_option variant) port

abbrev pub first_error : Option SshError → Option SshError → Option SshError
first_error (Some e) other = Some e
first_error None other = other

-- why a variant can't open a connection: it can't be limited to these addresses, or doesn't take a
-- port
abbrev pub refusal_of : Variant → Family → Option (List ℕ) → Option SshError
refusal_of variant family port = first_error (family_refusal variant family) (port_refusal variant port)

abbrev pub unless_refused : Option SshError → List (List ℕ) → Result (List (List ℕ)) SshError
unless_refused (Some e) argv = Err e
unless_refused None argv = Ok argv

-- the arguments after the name of ssh
abbrev pub ssh_argv : Variant → SshCallValue → Result (List (List ℕ)) SshError
ssh_argv variant c = unless_refused (refusal_of variant c.family c.port) (call_argv variant c)

-- the server's command, for the shell on its machine
abbrev pub server_command : List ℕ → List ℕ
server_command path = codes "git-upload-pack " ++ quoted path

abbrev pub with_command : List ℕ → List ℕ → List (List ℕ) → List (List ℕ)
with_command command path argv = command ∷ (argv ++ server_command path ∷ [])

abbrev pub commanded : List ℕ → List ℕ → Result (List (List ℕ)) SshError → Result (List (List ℕ)) SshError
commanded command path (Ok argv) = Ok (with_command command path argv)
commanded command path (Err e) = Err e

-- the arguments that start a server, after the user's command for ssh
abbrev pub server_argv : List ℕ → Variant → SshCallValue → List ℕ → Result (List (List ℕ)) SshError
server_argv command variant c path = commanded command path (ssh_argv variant c)

abbrev pub with_probe : List ℕ → List (List ℕ) → List (List ℕ)
with_probe command argv = command ∷ codes "-G" ∷ argv

-- the arguments that ask a program whether it is OpenSSH
abbrev pub probe_argv : List ℕ → SshCallValue → List (List ℕ)
probe_argv command c = with_probe command (call_argv Ssh c)

-- the function returns these arguments or this error, or an allocation fails
abbrev pub ReturnsArgv : Result (List (List ℕ)) SshError → Result (Vec BString Global) SshError → Type 0
ReturnsArgv (Ok argv) (Ok found) = map bstring_bytes found.items ≡ argv
ReturnsArgv (Err e) (Ok found) = ⊥
ReturnsArgv _ (Err Memory) = ⊤
ReturnsArgv (Ok argv) (Err f) = ⊥
ReturnsArgv (Err e) (Err f) = f ≡ e
