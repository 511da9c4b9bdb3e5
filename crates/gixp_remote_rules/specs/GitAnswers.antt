-- The answers of the shell and of git: exit statuses, and texts that must have an end.
use Rattle.std.specs.Prelude.{ℕ, ◌-◌, ◌==◌, nat_eq, nat_lt, Bool, if◌then◌else◌, List, [], ◌∷◌, take, drop, length, codes, Option, Some, None}
use Rattle.std.specs.List.{starts_with, ends_with}
use Rattle.gixp_remote_rules.specs.declared.git_answers.MessageId.{MessageId}
use Rattle.gixp_remote_rules.specs.declared.git_answers.MessageId.TheVariants.{Known, Unknown}

-- the exit status of a program: one byte (wait(2)); the shell answers with a larger number if there is no such program
abbrev pub exit_status : ℕ → Option ℕ
exit_status answer = if nat_lt answer 256 then Some answer else None

-- git has reported why it failed: its status is 128 then (git's `die`)
abbrev pub has_reported : ℕ → Bool
has_reported status = status == 128

-- whether git knows an fsck message: it prints its usage, and exits with 129; or it fails with 128
abbrev pub message_id : ℕ → Option MessageId
message_id status = if status == 129 then Some Known else (if status == 128 then Some Unknown else None)

-- a text without the byte that must end it
abbrev pub without_end : ℕ → List ℕ → Option (List ℕ)
without_end end text = if ends_with nat_eq text (end ∷ []) then Some (take (length text - 1) text) else None

-- the path that git config prints, and after it a NUL byte
abbrev pub path_answer : ℕ → List ℕ → Option (List ℕ)
path_answer status text = if status == 0 then without_end 0 text else None

abbrev pub after_front : List ℕ → Option (List ℕ)
after_front text = if starts_with nat_eq text (codes "--max-age=") then without_end 10 (drop 10 text) else None

-- the seconds of a time, as git rev-parse prints them: `--max-age=`, a number and a line feed (10)
abbrev pub time_answer : ℕ → List ℕ → Option (List ℕ)
time_answer status text = if status == 0 then after_front text else None
