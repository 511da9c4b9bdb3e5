-- The bytes that a reader of an advertisement holds.
use Rattle.std.specs.Prelude.{◌≡◌, ℕ, ◌≤◌, Bool, false}

-- the held bytes are in the room, which has space for the longest first lines
abbrev pub IsNamedRoom : (size start end : ℕ) → Bool → Type 0
IsNamedRoom size start end is_named = (start ≤ end) × (end ≤ size) × (is_named ≡ false → (start ≡ 0) × (size ≡ 65540))
