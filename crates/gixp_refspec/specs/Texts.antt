-- A list of texts that a call appends to.
use Rattle.std.specs.Prelude.{ℕ, ◌≡◌, List, ◌++◌, take, map, Result, Ok, Err, Vec}
use Rattle.std.specs.declared.alloc.Global.{Global}
use Rattle.std.specs.declared.alloc.AllocError.{AllocError}
use Rattle.bstr.specs.declared.bstring.BString.{BString}
use Rattle.bstr.specs.Owned.{bstring_bytes}

abbrev pub texts : Vec BString Global → List (List ℕ)
texts v = map bstring_bytes v.items

-- the call appended all texts, or only the first of them if an allocation failed
abbrev pub AddsSome : Result Unit AllocError → List (List ℕ) → List (List ℕ) → List (List ℕ) → Type 0
AddsSome (Ok t) old more new = new ≡ old ++ more
AddsSome (Err e) old more new = (n : ℕ) × (new ≡ old ++ take n more)
