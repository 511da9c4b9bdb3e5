-- The errors of the helper, and their prefixes.
use Rattle.std.specs.Prelude.{◌≡◌, ℕ, ⊤, Bool, true, false, List, ◌++◌, codes, if◌then◌else◌, Option, Some, None, Result, Ok, Err}
use Rattle.std.specs.declared.io.ErrorKind.{ErrorKind}
use Rattle.std.specs.declared.io.ErrorKind.TheVariants as kind
use Rattle.bstr.specs.Owned.{bstring_bytes}
use Rattle.gixp_fetch_common.specs.Failures.{is_said_by_git}
use Rattle.gixp_fetch_common.specs.declared.failure.Failure.TheVariants.{HungUp}
use Rattle.gixp_remote_session.specs.declared.error.Error.{Error}
use Rattle.gixp_remote_session.specs.declared.error.Error.TheVariants.{Fetch, Url, Io, Other, Fatal, AlreadyReported, Word, Status, Variable, Mismatch, Password, Ssh, Memory}
use Rattle.gixp_remote_rules.specs.GitAnswers.{has_reported}
use Rattle.gixp_remote_rules.specs.declared.policy.Permission.{Permission}
use Rattle.gixp_remote_rules.specs.declared.policy.Permission.TheVariants.{Allowed, Forbidden, NoPolicy, NoBoolean}
use Rattle.gixp_remote_rules.specs.declared.policy.PasswordPolicy.{PasswordPolicy}
use Rattle.gixp_remote_rules.specs.declared.policy.PasswordPolicy.TheVariants.{Allow, Warn, Die, Refuse}

-- an error about a value; or an allocation failed
abbrev pub ErrorIsWord : List ℕ → List ℕ → Error → Type 0
ErrorIsWord why word (Word w text) = (w.now ≡ why) × (bstring_bytes text ≡ word)
ErrorIsWord why word Memory = ⊤
ErrorIsWord why word _ = ⊥

-- an error of the helper's own
abbrev pub ErrorIsOther : List ℕ → Error → Type 0
ErrorIsOther why (Other w) = w.now ≡ why
ErrorIsOther why _ = ⊥

-- an error with git's text
abbrev pub ErrorIsFatal : List ℕ → Error → Type 0
ErrorIsFatal why (Fatal w) = w.now ≡ why
ErrorIsFatal why _ = ⊥

-- git has reported why it failed (status 128), or its exit status is shown
abbrev pub ErrorIsStatus : List ℕ → ℕ → Error → Type 0
ErrorIsStatus why status AlreadyReported = has_reported status ≡ true
ErrorIsStatus why status (Status w n) = (has_reported status ≡ false) × (w.now ≡ why) × (n ≡ status)
ErrorIsStatus why status _ = ⊥

-- an environment variable that isn't a boolean; or an allocation failed
abbrev pub ErrorIsVariable : List ℕ → List ℕ → Error → Type 0
ErrorIsVariable name value (Variable n text) = (n.now ≡ name) × (bstring_bytes text ≡ value)
ErrorIsVariable name value Memory = ⊤
ErrorIsVariable name value _ = ⊥

-- why a protocol isn't allowed (git-config, "protocol.allow"): it is forbidden, a setting isn't a
-- policy, or the variable that says whether the user named the server isn't a boolean; or an
-- allocation failed
abbrev pub ErrorIsPolicy : Permission → List ℕ → List ℕ → Error → Type 0
ErrorIsPolicy Allowed transport value e = e ≡ Memory
ErrorIsPolicy Forbidden transport value e = ErrorIsWord (codes "this transport is not allowed:") transport e
ErrorIsPolicy NoPolicy transport value e = ErrorIsWord (codes "unknown value for the policy of the protocol") transport e
ErrorIsPolicy NoBoolean transport value e = ErrorIsVariable (codes "GIT_PROTOCOL_FROM_USER") value e

-- a URL with a password, shown without it; or an allocation failed
abbrev pub ErrorIsPassword : List ℕ → Error → Type 0
ErrorIsPassword url (Password text) = bstring_bytes text ≡ url
ErrorIsPassword url Memory = ⊤
ErrorIsPassword url _ = ⊥

-- why a URL with a password is refused if no setting allows it
abbrev pub password_refusal : List ℕ
password_refusal =
    codes "the URL has a password, which git would show and store: have a credential helper store it "
    ++ codes "(gitcredentials(7)), or set transfer.credentialsInUrl to allow it"

-- a URL with a password is used, used with a warning, or refused (git-config,
-- "transfer.credentialsInUrl")
abbrev pub IsPasswordResult : List ℕ → Option (List ℕ) → Option PasswordPolicy → Result (Option Error) Error → Type 0
IsPasswordResult word None policy (Ok None) = ⊤
IsPasswordResult word (Some url) (Some Allow) (Ok None) = ⊤
IsPasswordResult word (Some url) (Some Warn) (Ok (Some e)) = ErrorIsPassword url e
IsPasswordResult word (Some url) (Some Die) (Err e) = ErrorIsPassword url e
IsPasswordResult word (Some url) (Some Refuse) (Err (Fatal why)) = why.now ≡ password_refusal
IsPasswordResult word (Some url) None (Err e) = ErrorIsWord (codes "unrecognized value transfer.credentialsInUrl:") word e
IsPasswordResult word url policy (Err Memory) = ⊤
IsPasswordResult word url policy result = ⊥

-- the server closed the connection during a step
abbrev pub is_hang_up : Error → Bool
is_hang_up (Fetch HungUp) = true
is_hang_up _ = false

-- git's own prefix if git has this error too, else the name of the helper
abbrev pub prefix_of : Error → List ℕ
prefix_of (Fetch e) = if is_said_by_git e then codes "fatal" else codes "git-remote-gixp"
prefix_of (Url e) = codes "fatal"
prefix_of (Fatal why) = codes "fatal"
prefix_of (Word why word) = codes "fatal"
prefix_of (Variable name value) = codes "fatal"
prefix_of (Mismatch uri name) = codes "fatal"
prefix_of (Password url) = codes "fatal"
prefix_of (Ssh e) = codes "fatal"
prefix_of _ = codes "git-remote-gixp"

-- for callers that report only a kind
abbrev pub error_kind_of : Error → ErrorKind
error_kind_of (Io k) = k
error_kind_of Memory = kind.OutOfMemory
error_kind_of _ = kind.Other
