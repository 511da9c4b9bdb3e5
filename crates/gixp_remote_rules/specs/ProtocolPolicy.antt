-- Which protocols the user allows (git-config, "protocol.allow"; git, "GIT_ALLOW_PROTOCOL").
use Rattle.std.specs.Prelude.{ℕ, ◌==◌, ◌||◌, Bool, true, if◌then◌else◌, List, ◌++◌, codes, Option, Some, None}
use Rattle.std.specs.List.{list_any, slice_split}
use Rattle.std.specs.Str.{bytes_eq}
use Rattle.gixp_remote_rules.specs.declared.policy.Policy.{Policy}
use Rattle.gixp_remote_rules.specs.declared.policy.Policy.TheVariants.{Always, Never, User}
use Rattle.gixp_remote_rules.specs.declared.policy.Permission.{Permission}
use Rattle.gixp_remote_rules.specs.declared.policy.Permission.TheVariants.{Allowed, Forbidden, NoPolicy, NoBoolean}
use Rattle.gixp_remote_rules.specs.declared.policy.PasswordPolicy.{PasswordPolicy}
use Rattle.gixp_remote_rules.specs.declared.policy.PasswordPolicy.TheVariants.{Allow, Warn, Die, Refuse}
use Rattle.gixp_remote_rules.specs.Config.{ConfigEntryValue, value_of, text_is_true}
use Rattle.gixp_remote_rules.specs.IgnoreCase.{is_word}

abbrev pub policy_of : List ℕ → Option Policy
policy_of word =
    if is_word word (codes "always") then Some Always
    else if is_word word (codes "never") then Some Never
    else if is_word word (codes "user") then Some User
    else None

-- the policy if no setting names one: protocols that are known to be safe are allowed, and `ext`
-- isn't
abbrev pub default_policy : List ℕ → Policy
default_policy transport =
    if bytes_eq transport (codes "http") || bytes_eq transport (codes "https") || bytes_eq transport (codes "git")
    || bytes_eq transport (codes "ssh") then Always
    else if bytes_eq transport (codes "ext") then Never
    else User

abbrev pub allow_name : List ℕ → List ℕ
allow_name transport = codes "protocol." ++ (transport ++ codes ".allow")

-- by `protocol.allow`, else git's default
abbrev pub policy_for_all : Option (List ℕ) → List ℕ → Option Policy
policy_for_all (Some word) transport = policy_of word
policy_for_all None transport = Some (default_policy transport)

-- by the protocol's own setting, else by `protocol.allow`
abbrev pub policy_by : Option (List ℕ) → Option (List ℕ) → List ℕ → Option Policy
policy_by (Some word) all transport = policy_of word
policy_by None all transport = policy_for_all all transport

abbrev pub policy_in : List ConfigEntryValue → List ℕ → Option Policy
policy_in settings transport =
    policy_by (value_of settings (allow_name transport)) (value_of settings (codes "protocol.allow")) transport

abbrev pub permission_by : Bool → Permission
permission_by is_allowed = if is_allowed then Allowed else Forbidden

-- the policy `user`
abbrev pub permission_of_user : Option Bool → Permission
permission_of_user None = NoBoolean
permission_of_user (Some is_allowed) = permission_by is_allowed

-- by a policy, and whether the user named the server
abbrev pub permission_in : Option Bool → Option Policy → Permission
permission_in is_from_user None = NoPolicy
permission_in is_from_user (Some Always) = Allowed
permission_in is_from_user (Some Never) = Forbidden
permission_in is_from_user (Some User) = permission_of_user is_from_user

-- whether the user named the server (git, "GIT_PROTOCOL_FROM_USER"); none if the variable isn't a
-- boolean
abbrev pub is_from_user : Option (List ℕ) → Option Bool
is_from_user None = Some true
is_from_user (Some word) = text_is_true word

-- a list, whose words colons (58) separate, has a word
abbrev pub list_contains : List ℕ → List ℕ → Bool
list_contains list word = list_any (λ part. bytes_eq part word) (slice_split (λ b. b == 58) list)

-- whether a protocol is allowed: by the list if it is set, else by the policy
abbrev pub permission_of : Option (List ℕ) → List ConfigEntryValue → List ℕ → Option Bool → Permission
permission_of (Some list) settings transport is_from_user = permission_by (list_contains list transport)
permission_of None settings transport is_from_user = permission_in is_from_user (policy_in settings transport)

-- how a URL with a password is treated (git-config, "transfer.credentialsInUrl"); none if git
-- doesn't have such a value
abbrev pub password_policy : Option (List ℕ) → Option PasswordPolicy
password_policy None = Some Refuse
password_policy (Some word) =
    if bytes_eq word (codes "allow") then Some Allow
    else if bytes_eq word (codes "warn") then Some Warn
    else if bytes_eq word (codes "die") then Some Die
    else None
