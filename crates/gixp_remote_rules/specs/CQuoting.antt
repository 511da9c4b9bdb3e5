-- The value of an option, which git may put in quotes as C has them (gitremote-helpers, "OPTIONS";
-- git-config, "core.quotePath").
use Rattle.std.specs.Prelude.{ℕ, ◌+◌, ◌-◌, ◌*◌, ◌==◌, ◌||◌, ◌&&◌, nat_le, nat_lt, Bool, true, false, if◌then◌else◌, List, [], ◌∷◌, ◌++◌, Option, Some, None}
use Rattle.std.specs.Option.{option_to_list}
use Rattle.gixp_remote_rules.specs.declared.unquote.Part.{Part}
use Rattle.gixp_remote_rules.specs.declared.unquote.Part.TheVariants.{Plain, Escape, Digit, Digits, Closed}

-- the byte that a letter after a backslash means: \a \b \t \n \v \f \r \" \\
abbrev pub escape_letter : ℕ → Option ℕ
escape_letter c =
    if c == 97 then Some 7
    else if c == 98 then Some 8
    else if c == 116 then Some 9
    else if c == 110 then Some 10
    else if c == 118 then Some 11
    else if c == 102 then Some 12
    else if c == 114 then Some 13
    else if c == 34 || c == 92 then Some c
    else None

abbrev pub is_octal_digit : ℕ → Bool
is_octal_digit d = nat_le 48 d && nat_le d 55

-- the number in three octal digits
abbrev pub octal_number : ℕ → ℕ → ℕ → ℕ
octal_number a b c = 64 * (a - 48) + 8 * (b - 48) + (c - 48)

-- a part of the text in quotes, and a byte of the value if it is complete
abbrev pub QuoteStep : Type 0
QuoteStep = Option (Part × Option ℕ)

abbrev pub step_to : Bool → Part → Option ℕ → QuoteStep
step_to is_valid part byte = if is_valid then Some (part, byte) else None

-- after a backslash: a letter, or the first of three digits
abbrev pub escape_step : ℕ → Option ℕ → QuoteStep
escape_step c (Some byte) = Some (Plain, Some byte)
escape_step c None = step_to (is_octal_digit c) (Digit c) None

-- three digits are a byte, but no value has a NUL byte
abbrev pub number_step : ℕ → QuoteStep
number_step n = step_to (nat_lt 0 n && nat_lt n 256) Plain (Some n)

-- the next byte after a part: a quotation mark (34) closes the value, and a backslash (92) begins an escape
abbrev pub step : Part → ℕ → QuoteStep
step Plain b = if b == 34 then Some (Closed, None) else (if b == 92 then Some (Escape, None) else Some (Plain, Some b))
step Escape c = escape_step c (escape_letter c)
step (Digit a) b = step_to (is_octal_digit b) (Digits a b) None
step (Digits a b) c = if is_octal_digit c then number_step (octal_number a b c) else None
step Closed b = None

abbrev pub is_closed : Part → Bool
is_closed Closed = true
is_closed _ = false

-- a value, followed by what a text after a part means
abbrev pub unquoted_after : List ℕ → Part → List ℕ → Option (List ℕ)
unquoted_after value part [] = if is_closed part then Some value else None
unquoted_after value part (b ∷ rest) =
    elim (step part b) [ None ↦ None | Some next ↦ unquoted_after (value ++ option_to_list next.1) next.0 rest ]

-- the value of a text: the text itself unless it begins with a quotation mark; none if the quoting is malformed
abbrev pub text_value : List ℕ → Option (List ℕ)
text_value [] = Some []
text_value (b ∷ rest) = if b == 34 then unquoted_after [] Plain rest else Some (b ∷ rest)
