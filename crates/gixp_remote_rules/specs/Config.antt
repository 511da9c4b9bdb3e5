-- The user's configuration, as `git config --list --null` prints it, and the values of entries
-- (git-config, "Values").
use Rattle.std.specs.Prelude.{ℕ, ◌+◌, ◌==◌, ◌||◌, ◌&&◌, Bool, true, false, not, length, if◌then◌else◌, List, [], ◌∷◌, map, take, drop, codes, Option, Some, None, unwrap_or}
use Rattle.std.specs.Option.{option_map}
use Rattle.std.specs.List.{position, fold, flat_map, list_all, slice_split}
use Rattle.std.specs.Char.{is_ascii_digit}
use Rattle.std.specs.Str.{bytes_eq}
use Rattle.bstr.specs.Owned.{bstring_bytes}
use Rattle.gixp_remote_rules.specs.declared.config.ConfigEntry.{ConfigEntry}
use Rattle.gixp_remote_rules.specs.declared.config.Settings.{Settings}
use Rattle.gixp_remote_rules.specs.IgnoreCase.{is_word}

-- a configuration entry
pub record ConfigEntryValue : Type 0 where
  pub name : List ℕ
  pub value : Option (List ℕ)

abbrev pub entry_value : ConfigEntry → ConfigEntryValue
entry_value s = record { name = bstring_bytes s.name; value = option_map bstring_bytes s.value }

abbrev pub entry_at : List ℕ → Option ℕ → ConfigEntryValue
entry_at text None = record { name = text; value = None }
entry_at text (Some at) = record { name = take at text; value = Some (drop (at + 1) text) }

-- a line feed (10) separates the name from the value
abbrev pub entry_of : List ℕ → ConfigEntryValue
entry_of text = entry_at text (position (λ b. b == 10) text)

-- an entry, unless the text is empty
abbrev pub entries_of : List ℕ → List ConfigEntryValue
entries_of [] = []
entries_of (b ∷ text) = entry_of (b ∷ text) ∷ []

-- all entries of a text, in which a NUL byte ends each
abbrev pub settings_of : List ℕ → List ConfigEntryValue
settings_of text = flat_map entries_of (slice_split (λ b. b == 0) text)

abbrev pub settings_in : Settings → List ConfigEntryValue
settings_in settings = map entry_value settings.entries.items

-- an entry of this name replaces one before it
abbrev pub counting : List ℕ → Option ConfigEntryValue → ConfigEntryValue → Option ConfigEntryValue
counting name found s = if bytes_eq s.name name then Some s else found

-- the last entry of a name
abbrev pub last_named : List ConfigEntryValue → List ℕ → Option ConfigEntryValue
last_named settings name = fold (counting name) None settings

-- the value of an entry, empty if it has only a name
abbrev pub text_of : ConfigEntryValue → List ℕ
text_of s = unwrap_or s.value []

abbrev pub value_of : List ConfigEntryValue → List ℕ → Option (List ℕ)
value_of settings name = option_map text_of (last_named settings name)

-- a number without its sign (45 or 43)
abbrev pub without_sign : List ℕ → List ℕ
without_sign [] = []
without_sign (b ∷ rest) = if b == 45 || b == 43 then rest else b ∷ rest

abbrev pub digits_are_true : List ℕ → Option Bool
digits_are_true digits =
    if not (length digits == 0) && list_all is_ascii_digit digits then Some (not (list_all (λ b. b == 48) digits)) else None

-- a number isn't zero
abbrev pub number_is_true : List ℕ → Option Bool
number_is_true value = digits_are_true (without_sign value)

-- the boolean value of a text
abbrev pub text_is_true : List ℕ → Option Bool
text_is_true value =
    if is_word value (codes "true") || is_word value (codes "yes") || is_word value (codes "on") then Some true
    else if bytes_eq value [] || is_word value (codes "false") || is_word value (codes "no") || is_word value (codes "off") then Some false
    else number_is_true value

-- an entry with only a name is true
abbrev pub is_true : Option (List ℕ) → Option Bool
is_true None = Some true
is_true (Some value) = text_is_true value
