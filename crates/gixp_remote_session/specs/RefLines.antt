-- The list of refs that git reads from a remote helper (gitremote-helpers, "list").
use Rattle.std.specs.Prelude.{ℕ, ◌==◌, ◌&&◌, not, nat_lt, Bool, true, false, List, ◌∷◌, [], ◌++◌, length, flat_map, codes, if◌then◌else◌, Option, Some, None}
use Rattle.std.specs.List.{list_all, list_any}
use Rattle.std.specs.Option.{option_map}
use Rattle.std.specs.Str.{bytes_eq}
use Rattle.bstr.specs.Owned.{bstring_bytes}
use Rattle.gix_protocol.specs.Hex.{encode_lower}
use Rattle.gix_protocol.specs.Ref.{unpacked_name}
use Rattle.gix_protocol.specs.RefType.{Ref}
use Rattle.gix_protocol.specs.RefType.TheVariants.{Direct, Peeled, Symbolic, Unborn}

-- a byte that is neither a space (32) nor a control character (127 is one too)
abbrev pub is_plain_byte : ℕ → Bool
is_plain_byte b = nat_lt 32 b && not (b == 127)

-- the name can be in a line of the list
abbrev pub is_plain : List ℕ → Bool
is_plain name = not (length name == 0) && list_all is_plain_byte name

-- an id in hexadecimal digits, a name, and the text after it
abbrev pub id_line : List ℕ → List ℕ → List ℕ → List ℕ
id_line id name mark = encode_lower id ++ (codes " " ++ (name ++ (mark ++ codes "\n")))

-- a symbolic ref and its target
abbrev pub symbolic_line : List ℕ → List ℕ → List ℕ
symbolic_line target name = codes "@" ++ (target ++ (codes " " ++ (name ++ codes "\n")))

-- an object; or a tag, and the object that it points to
abbrev pub object_lines : List ℕ → Option (List ℕ) → List ℕ → List ℕ
object_lines name None object = id_line object name []
object_lines name (Some tag) object = id_line tag name [] ++ id_line object name (codes "^{}")

-- the lines of a ref; a symbolic ref is listed by its target if the list has the target
abbrev pub ref_lines : Bool → Ref → List ℕ
ref_lines by_target (Direct name object) = object_lines (bstring_bytes name) None object.bytes
ref_lines by_target (Peeled name tag object) = object_lines (bstring_bytes name) (Some tag.bytes) object.bytes
ref_lines true (Symbolic name target tag object) = symbolic_line (bstring_bytes target) (bstring_bytes name)
ref_lines false (Symbolic name target tag object) =
    object_lines (bstring_bytes name) (option_map (λ t. t.bytes) tag) object.bytes
ref_lines by_target (Unborn name target) = []

-- a ref of this name that isn't symbolic
abbrev pub holds : List ℕ → Ref → Bool
holds text (Direct name object) = bytes_eq text (bstring_bytes name)
holds text (Peeled name tag object) = bytes_eq text (bstring_bytes name)
holds text _ = false

-- the list has the target of a symbolic ref
abbrev pub is_by_target : (List ℕ → Bool) → Ref → Bool
is_by_target held (Symbolic name target tag object) = held (bstring_bytes target)
is_by_target held _ = false

-- the lines of a ref whose name can be in the list
abbrev pub fitting_lines : (List ℕ → Bool) → Ref → List ℕ
fitting_lines held r = if is_plain (unpacked_name r) then ref_lines (is_by_target held r) r else []

-- the name of a ref that can't
abbrev pub broken_name : Ref → List (List ℕ)
broken_name r = if is_plain (unpacked_name r) then [] else unpacked_name r ∷ []

abbrev pub is_held : List Ref → List ℕ → Bool
is_held refs text = list_any (holds text) refs

-- the hash function, if git asks for it (gitremote-helpers, "option object-format")
abbrev pub format_line : Bool → List ℕ
format_line is_asked = if is_asked then codes ":object-format sha1\n" else []

-- the whole list; an empty line ends it
abbrev pub list_text : Bool → List Ref → List ℕ
list_text is_asked refs = format_line is_asked ++ (flat_map (fitting_lines (is_held refs)) refs ++ codes "\n")
