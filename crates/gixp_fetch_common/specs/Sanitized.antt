-- Text of a server, made safe for a terminal.
use Rattle.std.specs.Prelude.{ℕ, List, [], ◌∷◌, ◌++◌, ◌==◌, if◌then◌else◌, codes}
use Rattle.gixp_utils.specs.Printable.{visible}

-- a byte: a line end is followed by `remote: `
abbrev pub sanitized_byte : ℕ → ℕ → List ℕ
sanitized_byte before byte = if byte == 10 then 10 ∷ codes "remote: " else visible before byte ∷ []

-- the bytes that follow `before`
abbrev pub sanitized_after : ℕ → List ℕ → List ℕ
sanitized_after before [] = []
sanitized_after before (byte ∷ rest) = sanitized_byte before byte ++ sanitized_after byte rest
