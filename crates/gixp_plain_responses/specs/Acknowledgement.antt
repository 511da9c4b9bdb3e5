-- The acknowledgements of a server (gitprotocol-pack, "Packfile Negotiation"; gitprotocol-capabilities, "multi_ack",
-- "multi_ack_detailed").
use Rattle.std.specs.Prelude.{ℕ, nat_eq, nat_lt, Bool, false, ◌&&◌, ◌||◌, if◌then◌else◌, List, ◌++◌, length, take, drop, codes, Option, Some, None}
use Rattle.std.specs.List.{starts_with}
use Rattle.std.specs.Str.{bytes_eq}

-- whether a text is the status of a common commit by `multi_ack`, without or with an LF
abbrev pub is_continue_status : List ℕ → Bool
is_continue_status status = bytes_eq status (codes " continue") || bytes_eq status (codes " continue\n")

-- whether a line acknowledges the 40 digits of an id by `multi_ack`
abbrev pub is_continue : List ℕ → Bool
is_continue line = if nat_lt (length line) 44 then false
    else starts_with nat_eq line (codes "ACK ") && is_continue_status (drop 44 line)

-- the line that acknowledges the same id by `multi_ack_detailed`; `front` is `ACK` and the id
abbrev pub common_line : List ℕ → List ℕ
common_line front = front ++ codes " common\n"

-- the same after the digits of its length
abbrev pub common_text : List ℕ → List ℕ
common_text front = codes "0038" ++ common_line front

-- a line by `multi_ack_detailed`
abbrev pub detailed : List ℕ → List ℕ
detailed line = if is_continue line then common_line (take 44 line) else line

-- the digits of the id that a line acknowledges
abbrev pub acknowledged_id : List ℕ → Option (List ℕ)
acknowledged_id line = if starts_with nat_eq line (codes "ACK ") then Some (take 40 (drop 4 line)) else None
