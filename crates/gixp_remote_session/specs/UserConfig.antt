-- The user's choices, by environment variables and configuration.
use Rattle.std.specs.Prelude.{◌≡◌, ℕ, ◌==◌, ◌&&◌, not, Bool, if◌then◌else◌, List, length, codes, Option, Some, None, unwrap_or}
use Rattle.std.specs.Str.{bytes_eq}
use Rattle.gix_protocol.specs.ProtocolType.{Protocol}
use Rattle.gix_protocol.specs.ProtocolType.TheVariants.{V2}
use Rattle.gix_protocol.specs.AlgorithmType.{Algorithm}
use Rattle.gix_protocol.specs.AlgorithmType.TheVariants.{Noop, Skipping}
use Rattle.gix_protocol.specs.NegotiatorAlgorithm.{IsNameOf}
use Rattle.gixp_fetch_common.specs.declared.haves.Haves.{Haves}
use Rattle.gixp_fetch_common.specs.declared.haves.Haves.TheVariants.{By, InOrder}
use Rattle.gixp_url.specs.declared.address.Scheme.{Scheme}
use Rattle.gixp_url.specs.declared.address.Scheme.TheVariants.{Git}
use Rattle.gixp_remote_rules.specs.Proxy.{or_else}
use Rattle.gixp_remote_rules.specs.ShellRequests.{program_of}
use Rattle.gixp_remote_rules.specs.Ssh.{first_word, variant_of}
use Rattle.gixp_remote_rules.specs.declared.shell_request.Program.{Program}
use Rattle.gixp_remote_rules.specs.declared.shell_request.Program.TheVariants.{Shell, Command}
use Rattle.gixp_remote_rules.specs.declared.ssh.Variant.{Variant}
use Rattle.gixp_remote_rules.specs.declared.ssh.Variant.TheVariants.{Simple, Ssh}
use Rattle.gixp_remote_session.specs.Version.{protocol_of}

-- the version of the protocol (git-config, "protocol.version"); the default is 2
abbrev pub choose_version : Option (List ℕ) → Option (List ℕ) → Protocol
choose_version (Some word) setting = protocol_of word
choose_version None (Some word) = protocol_of word
choose_version None None = V2

-- the algorithm for haves, by the variable; another name means all commits in git's order
abbrev pub IsNamedHaves : List ℕ → Haves → Type 0
IsNamedHaves text (By algorithm) = IsNameOf algorithm text
IsNamedHaves text InOrder = (algorithm : Algorithm) → IsNameOf algorithm text → ⊥

-- by the setting (git-config, "fetch.negotiationAlgorithm"); any other value means git's own order
abbrev pub haves_by_setting : Option (List ℕ) → Haves
haves_by_setting None = InOrder
haves_by_setting (Some text) =
    if bytes_eq text (codes "noop") then By Noop else if bytes_eq text (codes "skipping") then By Skipping else InOrder

-- the user's command, else a program
abbrev pub ssh_command_by : Option (List ℕ) → Option (List ℕ) → List ℕ × Program
ssh_command_by (Some command) program = (command, program_of command)
ssh_command_by None program = (unwrap_or program (codes "ssh"), Command)

-- the user's command for ssh (git, "GIT_SSH_COMMAND"; git-config, "core.sshCommand"), else the
-- program (git, "GIT_SSH")
abbrev pub choose_ssh : Option (List ℕ) → Option (List ℕ) → Option (List ℕ) → List ℕ × Program
choose_ssh variable setting program = ssh_command_by (or_else variable setting) program

-- the program of a command
abbrev pub program_name_of : Program → List ℕ → List ℕ
program_name_of Shell command = first_word command
program_name_of _ command = command

-- the variant of ssh (git, "GIT_SSH_VARIANT"; git-config, "ssh.variant"), else by the program
abbrev pub choose_variant : Option (List ℕ) → Option (List ℕ) → Program → List ℕ → Variant
choose_variant variable setting program command = variant_of (or_else variable setting) (program_name_of program command)

-- the variant of a program, by the exit status of `-G` (git-config, "ssh.variant")
abbrev pub variant_by_probe : ℕ → Variant
variant_by_probe status = if status == 0 then Ssh else Simple

abbrev pub IsProbedVariant : Variant → Type 0
IsProbedVariant variant = (status : ℕ) × (variant ≡ variant_by_probe status)

-- the opening request to a `git://` server: the path, and the host of the URL unless the user
-- overrides it (gitprotocol-pack, "Git Transport")
abbrev pub choose_opening : Scheme → List ℕ → List ℕ → Option (List ℕ) → Option (List ℕ × Option (List ℕ))
choose_opening Git path authority host = Some (path, Some (unwrap_or host authority))
choose_opening _ path authority host = None

-- git erases the rest of a line in a terminal that isn't dumb (git, "TERM"); the name is empty if
-- standard error isn't a terminal
abbrev pub can_erase : List ℕ → Bool
can_erase terminal = not (length terminal == 0) && not (bytes_eq terminal (codes "dumb"))
