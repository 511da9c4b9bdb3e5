-- Requests to the shell, as text.
use Rattle.std.specs.Prelude.{ℕ, ◌/◌, ◌%◌, ◌==◌, nat_lt, if◌then◌else◌, List, [], ◌∷◌, ◌++◌, flat_map, length, slice_index, codes}
use Rattle.std.specs.Fmt.{decimal}
use Rattle.hex.specs.Hex.{lower_digits}
use Rattle.bstr.specs.declared.bstring.BString.{BString}
use Rattle.bstr.specs.Owned.{bstring_bytes}
use Rattle.gixp_remote_rules.specs.Quoting.{needs_shell}
use Rattle.gixp_remote_rules.specs.declared.shell_request.ShellTask.{ShellTask}
use Rattle.gixp_remote_rules.specs.declared.shell_request.ShellTask.TheVariants.{Server, Question, Refs, Probe, Listing, Pack, Settings}
use Rattle.gixp_remote_rules.specs.declared.shell_request.Program.{Program}
use Rattle.gixp_remote_rules.specs.declared.shell_request.Program.TheVariants.{Git, Command, Shell, Socket}
use Rattle.gixp_remote_rules.specs.declared.shell_request.Start.{Start}
use Rattle.gixp_remote_rules.specs.declared.shell_request.ShellRequest.{ShellRequest}
use Rattle.gixp_remote_rules.specs.declared.shell_request.ShellRequest.TheVariants.{Start as StartRequest, Status, End, Hold, Replace, Free, Folder}

-- a byte that isn't ASCII: a backslash, an x and its two hexadecimal digits
abbrev pub escaped_code : ℕ → List ℕ
escaped_code byte = codes "\\x" ++ (slice_index lower_digits (byte / 16) ∷ slice_index lower_digits (byte % 16) ∷ [])

-- a line feed (10) is written `\n`, and a backslash (92) `\\`
abbrev pub escaped_byte : ℕ → List ℕ
escaped_byte byte =
    if byte == 10 then codes "\\n" else (if byte == 92 then codes "\\\\" else (if nat_lt byte 128 then byte ∷ [] else escaped_code byte))

-- a line for a text, after the mark of its kind
abbrev pub marked_line : ℕ → List ℕ → List ℕ
marked_line mark word = mark ∷ (flat_map escaped_byte word ++ 10 ∷ [])

abbrev pub marked_lines : ℕ → List BString → List ℕ
marked_lines mark argv = flat_map (λ word. marked_line mark (bstring_bytes word)) argv

-- a command of the user, by whether git would pass it to a shell
abbrev pub program_of : List ℕ → Program
program_of command = if needs_shell command then Shell else Command

-- the programs that the shell starts, by their names in a request
abbrev pub program_name : Program → List ℕ
program_name Git = codes "git"
program_name Command = codes "command"
program_name Shell = codes "shell"
program_name Socket = codes "socket"

abbrev pub task_name : ShellTask → List ℕ
task_name Server = codes "server"
task_name Probe = codes "probe"
task_name Question = codes "question"
task_name Refs = codes "refs"
task_name Listing = codes "listing"
task_name Pack = codes "pack"
task_name Settings = codes "settings"

-- a name, and the byte after it
abbrev pub name_with_end : List ℕ → ℕ → List ℕ
name_with_end name end = name ++ end ∷ []

-- two names, separated by a space (32)
abbrev pub two_names : List ℕ → List ℕ → ℕ → List ℕ
two_names one other end = name_with_end one 32 ++ name_with_end other end

abbrev pub start_line : Start → List ℕ
start_line s =
    two_names (codes "start") (task_name s.task) 32
    ++ (name_with_end (program_name s.program) 32 ++ two_names s.input.now s.output.now 10)

-- a program: its names, its variables after an equals sign (61), and its arguments after a space
-- (32)
abbrev pub start_request : Start → List ℕ
start_request s = start_line s ++ (marked_lines 61 s.variables.now ++ marked_lines 32 s.argv.now)

abbrev pub path_request : List ℕ → List ℕ → List ℕ
path_request verb path = verb ++ marked_line 32 path

abbrev pub two_path_request : List ℕ → List ℕ → List ℕ → List ℕ
two_path_request verb from to = path_request verb from ++ marked_line 32 to

abbrev pub request_lines : ShellRequest → List ℕ
request_lines (StartRequest start) = start_request start
request_lines (Status task) = two_names (codes "status") (task_name task) 10
request_lines (End task) = two_names (codes "end") (task_name task) 10
request_lines (Hold path) = path_request (codes "hold\n") path.now
request_lines (Replace from to) = two_path_request (codes "replace\n") from.now to.now
request_lines (Free path) = path_request (codes "free\n") path.now
request_lines (Folder path) = path_request (codes "folder\n") path.now

-- lines, after a line with their size in bytes
abbrev pub with_size : List ℕ → List ℕ
with_size lines = decimal (length lines) ++ (10 ∷ lines)

abbrev pub request_text : ShellRequest → List ℕ
request_text request = with_size (request_lines request)
