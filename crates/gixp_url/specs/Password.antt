-- Where a URL has a password (RFC 3986, "User Information"), and the URL without it, as git shows
-- it (git-config, "transfer.credentialsInUrl").
use Rattle.std.specs.Prelude.{ℕ, ◌+◌, ◌==◌, ◌||◌, nat_eq, Bool, if◌then◌else◌, List, [], ◌∷◌, ◌++◌, take, drop, length, codes, Option, Some, None}
use Rattle.std.specs.List.{position, list_all, starts_with}
use Rattle.bstr.specs.Find.{first_of, rmatches}
use Rattle.gixp_url.specs.Text.{cut}
use Rattle.gixp_url.specs.Url.{is_scheme_byte}

-- a slash (47), a question mark (63) or a number sign (35) ends the authority of a URL
abbrev pub ends_authority : ℕ → Bool
ends_authority b = b == 47 || b == 63 || b == 35

abbrev pub split_at_offset : List ℕ → Option ℕ → List ℕ × List ℕ
split_at_offset text None = (text, [])
split_at_offset text (Some at) = (take at text, drop at text)

-- the authority that a text begins with, and the text after it
abbrev pub authority_split : List ℕ → List ℕ × List ℕ
authority_split text = split_at_offset text (position ends_authority text)

abbrev pub account_by : List ℕ → Option ℕ → Option (List ℕ × List ℕ)
account_by authority None = None
account_by authority (Some at) = Some (take at authority, drop (at + 1) authority)

-- the account, before the last `@` (64) of an authority, and the host
abbrev pub account_split : List ℕ → Option (List ℕ × List ℕ)
account_split authority = account_by authority (first_of (rmatches authority (64 ∷ []) (length authority)))

abbrev pub redacted_parts : List ℕ → Option (List ℕ × List ℕ) → List ℕ → List ℕ → Option (List ℕ)
redacted_parts scheme None host path = None
redacted_parts scheme (Some p) host path = Some (((((scheme ++ codes "://") ++ p.0) ++ codes ":<redacted>@") ++ host) ++ path)

-- the password of an account follows its first colon (58)
abbrev pub redacted_account : List ℕ → Option (List ℕ × List ℕ) → List ℕ → Option (List ℕ)
redacted_account scheme None path = None
redacted_account scheme (Some p) path = redacted_parts scheme (cut 58 p.0) p.1 path

abbrev pub redacted_after_scheme : List ℕ → List ℕ → Option (List ℕ)
redacted_after_scheme scheme rest = redacted_account scheme (account_split (authority_split rest).0) (authority_split rest).1

abbrev pub redacted_by : Option (List ℕ × List ℕ) → Option (List ℕ)
redacted_by None = None
redacted_by (Some p) =
    if list_all is_scheme_byte p.0 then (if starts_with nat_eq p.1 (codes "//") then redacted_after_scheme p.0 (drop 2 p.1) else None) else None

-- a URL with `<redacted>` in place of its password, if it has one
abbrev pub redacted : List ℕ → Option (List ℕ)
redacted url = redacted_by (cut 58 url)
