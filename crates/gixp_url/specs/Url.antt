-- The server and the path of a URL, as git parses it (git-clone, "GIT URLS").
use Rattle.std.specs.Prelude.{◌≡◌, ⊤, ℕ, ◌+◌, ◌==◌, ◌&&◌, ◌||◌, not, nat_eq, nat_le, Bool, true, false, if◌then◌else◌, List, [], ◌∷◌, take, drop, codes, Option, Some, None, Result, Ok, Err}
use Rattle.std.specs.Option.{option_map}
use Rattle.std.specs.List.{position, list_all, list_any, starts_with}
use Rattle.std.specs.Str.{bytes_eq}
use Rattle.bstr.specs.Owned.{bstring_bytes}
use Rattle.gixp_url.specs.Text.{cut, starts_with_byte, is_option}
use Rattle.gixp_url.specs.Decoded.{decoded}
use Rattle.gixp_url.specs.Host.{HostPort, host_and_port, search_from}
use Rattle.gixp_url.specs.declared.address.Scheme.{Scheme}
use Rattle.gixp_url.specs.declared.address.Scheme.TheVariants.{File, Ssh, Git, Http, Https}
use Rattle.gixp_url.specs.declared.address.UrlError.{UrlError}
use Rattle.gixp_url.specs.declared.address.UrlError.TheVariants.{UnsupportedScheme, NoPath, StrangePath, StrangeHost, Newline, Memory}
use Rattle.gixp_url.specs.declared.address.Form.{Form}
use Rattle.gixp_url.specs.declared.address.Form.TheVariants.{Path as PathForm, HostPath as HostPathForm, Url as UrlForm, Web as WebForm}
use Rattle.gixp_url.specs.declared.address.Address.{Address}

-- the server of a URL, and the path there
pub record AddressValue : Type 0 where
  pub scheme : Scheme
  pub authority : List ℕ
  pub host : List ℕ
  pub port : Option (List ℕ)
  pub path : List ℕ

abbrev pub is_scheme_byte : ℕ → Bool
is_scheme_byte b =
    (nat_le 97 b && nat_le b 122) || (nat_le 65 b && nat_le b 90) || (nat_le 48 b && nat_le b 57) || b == 43 || b == 45 || b == 46

abbrev pub scheme_of : List ℕ → Option Scheme
scheme_of scheme =
    if bytes_eq scheme (codes "file") then Some File
    else if bytes_eq scheme (codes "git") then Some Git
    else if bytes_eq scheme (codes "ssh") || bytes_eq scheme (codes "git+ssh") || bytes_eq scheme (codes "ssh+git") then Some Ssh
    else if bytes_eq scheme (codes "http") then Some Http
    else if bytes_eq scheme (codes "https") then Some Https
    else None

-- git's name of the protocol
abbrev pub scheme_name : Scheme → List ℕ
scheme_name File = codes "file"
scheme_name Ssh = codes "ssh"
scheme_name Git = codes "git"
scheme_name Http = codes "http"
scheme_name Https = codes "https"

abbrev pub is_web : Scheme → Bool
is_web Http = true
is_web Https = true
is_web _ = false

-- the text has `://`
abbrev pub has_separator : List ℕ → Bool
has_separator [] = false
has_separator (b ∷ bytes) = starts_with nat_eq (b ∷ bytes) (codes "://") || has_separator bytes

-- a path of this machine, `HOST:PATH`, the text after `SCHEME://`, or the whole URL of a web server
pub data FormValue : Type 0 where
  path_form : List ℕ → FormValue
  host_form : List ℕ → FormValue
  url_form : Scheme → List ℕ → FormValue
  web_form : Scheme → List ℕ → FormValue

abbrev pub form_value : Form → FormValue
form_value (PathForm text) = path_form text.now
form_value (HostPathForm text) = host_form text.now
form_value (UrlForm scheme text) = url_form scheme text.now
form_value (WebForm scheme text) = web_form scheme text.now

abbrev pub map_form : Result Form UrlError → Result FormValue UrlError
map_form (Ok form) = Ok (form_value form)
map_form (Err e) = Err e

abbrev pub is_local_by : Option (List ℕ × List ℕ) → Bool
is_local_by None = true
is_local_by (Some p) = list_any (λ b. b == 47) p.0

-- no colon (58) precedes the first slash (47)
abbrev pub is_local : List ℕ → Bool
is_local text = is_local_by (cut 58 text)

abbrev pub form_without_scheme : List ℕ → Result FormValue UrlError
form_without_scheme text =
    if has_separator text then Err UnsupportedScheme else if is_local text then Ok (path_form text) else Ok (host_form text)

-- the form of a URL, by its scheme: git's own program parses the URL of a web server
abbrev pub form_by_scheme : Scheme → List ℕ → List ℕ → FormValue
form_by_scheme Http text rest = web_form Http text
form_by_scheme Https text rest = web_form Https text
form_by_scheme scheme text rest = url_form scheme rest

abbrev pub scheme_form : Option Scheme → List ℕ → List ℕ → Result FormValue UrlError
scheme_form None text rest = Err UnsupportedScheme
scheme_form (Some scheme) text rest = Ok (form_by_scheme scheme text rest)

-- by the text after the scheme and its colon: two slashes, or a second colon, which ends the name
-- of a remote helper
abbrev pub form_after_scheme : List ℕ → List ℕ → List ℕ → Result FormValue UrlError
form_after_scheme text scheme after =
    if starts_with nat_eq after (codes "//") then scheme_form (scheme_of scheme) text (drop 2 after)
    else if starts_with_byte 58 after then Err UnsupportedScheme
    else form_without_scheme text

abbrev pub form_by : List ℕ → Option (List ℕ × List ℕ) → Result FormValue UrlError
form_by text None = form_without_scheme text
form_by text (Some p) = if list_all is_scheme_byte p.0 then form_after_scheme text p.0 p.1 else form_without_scheme text

abbrev pub form_of : List ℕ → Result FormValue UrlError
form_of text = form_by text (cut 58 text)

abbrev pub shifted : ℕ → Option ℕ → Option ℕ
shifted from None = None
shifted from (Some at) = Some (from + at)

-- the offset of the first separator at or after `from`
abbrev pub separator_from : ℕ → List ℕ → ℕ → Option ℕ
separator_from from text separator = shifted from (position (λ b. b == separator) (drop from text))

-- the offset of the path: the first separator after the host
abbrev pub path_at : ℕ → List ℕ → Option ℕ
path_at separator text = separator_from (search_from text) text separator

-- a path without its slash, if `~` (126) follows that
abbrev pub home_path : List ℕ → List ℕ
home_path (first ∷ second ∷ rest) = if second == 126 then second ∷ rest else first ∷ second ∷ rest
home_path path = path

abbrev pub path_by : Scheme → List ℕ → List ℕ
path_by Ssh path = home_path path
path_by Git path = home_path path
path_by _ path = path

-- the path on the server: it begins with a slash, but not with a colon (58)
abbrev pub server_path : Scheme → List ℕ → ℕ → ℕ → List ℕ
server_path scheme text at separator = path_by scheme (if separator == 58 then drop (at + 1) text else drop at text)

abbrev pub listens : Scheme → Bool
listens Git = true
listens _ = false

abbrev pub is_file : Scheme → Bool
is_file File = true
is_file _ = false

-- why git refuses a server
abbrev pub fault_of : Scheme → List ℕ → List ℕ → List ℕ → Option UrlError
fault_of scheme authority host path =
    if list_any (λ b. b == 10) authority || (listens scheme && list_any (λ b. b == 10) path) then Some Newline
    else if not (listens scheme) && is_option path then Some StrangePath
    else if not (is_file scheme) && is_option host then Some StrangeHost
    else None

abbrev pub host_by : Scheme → List ℕ → HostPort
host_by Ssh authority = host_and_port authority
host_by Git authority = host_and_port authority
host_by _ authority = record { host = authority; port = None }

abbrev pub unless_fault : Option UrlError → AddressValue → Result AddressValue UrlError
unless_fault (Some fault) s = Err fault
unless_fault None s = Ok s

-- an address, unless git refuses it
abbrev pub checked_address : Scheme → List ℕ → List ℕ → Result AddressValue UrlError
checked_address scheme authority path =
    unless_fault (fault_of scheme authority (host_by scheme authority).host path)
    (record {
      scheme = scheme;
      authority = authority;
      host = (host_by scheme authority).host;
      port = (host_by scheme authority).port;
      path = path;
    })

abbrev pub remote_address_at : Scheme → List ℕ → ℕ → Option ℕ → Result AddressValue UrlError
remote_address_at scheme text separator None = Err NoPath
remote_address_at scheme text separator (Some at) = checked_address scheme (take at text) (server_path scheme text at separator)

-- the address of a server and a path, which a separator divides
abbrev pub remote_address : Scheme → List ℕ → ℕ → Result AddressValue UrlError
remote_address scheme text separator = remote_address_at scheme text separator (path_at separator text)

abbrev pub local_address : List ℕ → Result AddressValue UrlError
local_address [] = Err NoPath
local_address (b ∷ bytes) = checked_address File [] (b ∷ bytes)

-- the address of a web server: the whole URL
abbrev pub web_address : Scheme → List ℕ → Result AddressValue UrlError
web_address scheme url = Ok (record { scheme = scheme; authority = []; host = []; port = None; path = url })

abbrev pub address_of_form : FormValue → Result AddressValue UrlError
address_of_form (path_form path) = local_address path
address_of_form (host_form text) = remote_address Ssh text 58
address_of_form (url_form scheme rest) = remote_address scheme (decoded 0 rest) 47
address_of_form (web_form scheme url) = web_address scheme url

abbrev pub address_of_result : Result FormValue UrlError → Result AddressValue UrlError
address_of_result (Ok form) = address_of_form form
address_of_result (Err e) = Err e

-- the address of a URL
abbrev pub address_of_url : List ℕ → Result AddressValue UrlError
address_of_url url = address_of_result (form_of url)

abbrev pub address_value : Address → AddressValue
address_value a = record {
  scheme = a.scheme;
  authority = bstring_bytes a.authority;
  host = bstring_bytes a.host;
  port = option_map bstring_bytes a.port;
  path = bstring_bytes a.path;
}

-- the function returns this address or error, or an allocation fails
abbrev pub ReturnsAddress : Result AddressValue UrlError → Result Address UrlError → Type 0
ReturnsAddress (Ok s) (Ok a) = address_value a ≡ s
ReturnsAddress (Err f) (Ok a) = ⊥
ReturnsAddress _ (Err Memory) = ⊤
ReturnsAddress (Ok s) (Err e) = ⊥
ReturnsAddress (Err f) (Err e) = e ≡ f
