-- The output of `git ls-remote` (git-ls-remote, "OUTPUT").
use Rattle.std.specs.Prelude.{ℕ, List, [], ◌++◌, flat_map, codes, Option, Some, None}
use Rattle.gix_protocol.specs.Hex.{encode_lower}
use Rattle.gix_protocol.specs.ObjectIdType.{ObjectId}
use Rattle.gix_protocol.specs.Ref.{unpacked_name, unpacked_target, unpacked_peeled}
use Rattle.gix_protocol.specs.RefType.{Ref}

-- an id, a tab, a name, and a text after the name
abbrev pub listed_line : ObjectId → List ℕ → List ℕ → List ℕ
listed_line id name suffix = encode_lower id.bytes ++ (codes "\t" ++ (name ++ (suffix ++ codes "\n")))

abbrev pub line_if : Option ObjectId → List ℕ → List ℕ → List ℕ
line_if None name suffix = []
line_if (Some id) name suffix = listed_line id name suffix

-- the line of a ref; for a tag also the line of the object that it peels to; none for an unborn ref
abbrev pub listed_lines : Ref → List ℕ
listed_lines r = line_if (unpacked_target r) (unpacked_name r) [] ++ line_if (unpacked_peeled r) (unpacked_name r) (codes "^{}")

abbrev pub remote_listing : List Ref → List ℕ
remote_listing refs = flat_map listed_lines refs
