-- The reply to a batch of `fetch` commands, and the capabilities (gitremote-helpers, "fetch",
-- "CAPABILITIES").
use Rattle.std.specs.Prelude.{ℕ, ◌==◌, ◌&&◌, not, Bool, if◌then◌else◌, List, [], ◌++◌, codes, Option, Some, None}
use Rattle.gixp_remote_rules.specs.HelperOptions.{HelperOptionsValue}
use Rattle.gixp_remote_rules.specs.Argv.{checks_connectivity}

abbrev pub capabilities : List ℕ
capabilities = codes "fetch\noption\ncheck-connectivity\nobject-format\n\n"

-- git can skip its own check: git index-pack checked connectivity, its status is 0, and no id of
-- the server's boundary was present before
abbrev pub reports_connectivity : HelperOptionsValue → Bool → Bool → ℕ → Bool
reports_connectivity c has_boundary was_here status = checks_connectivity has_boundary c && (not was_here && status == 0)

abbrev pub lock_lines : Option (List ℕ) → List ℕ
lock_lines None = []
lock_lines (Some lock) = codes "lock " ++ (lock ++ codes "\n")

abbrev pub connectivity_lines : Bool → List ℕ
connectivity_lines is_connected = if is_connected then codes "connectivity-ok\n" else []

-- the lock of the pack, `connectivity-ok`, and an empty line
abbrev pub batch_reply : Option (List ℕ) → Bool → List ℕ
batch_reply lock is_connected = lock_lines lock ++ (connectivity_lines is_connected ++ codes "\n")
