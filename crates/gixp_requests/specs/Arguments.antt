-- The arguments of a fetch request, as plain data (gitprotocol-v2, "fetch"; gitprotocol-pack, "Packfile Negotiation").
use Rattle.std.specs.Prelude.{ℕ, Bool, true, false, not, ◌||◌, ◌&&◌, if◌then◌else◌, ◌==◌, List, [], ◌∷◌, ◌++◌, length, ℤ, map, filter, nat_eq, codes, Result, Ok, Err, ◌≡◌}
use Rattle.std.specs.Fmt.{decimal, signed_decimal}
use Rattle.std.specs.List.{list_any, starts_with, join_with_byte}
use Rattle.std.specs.Str.{bytes_eq}
use Rattle.std.specs.declared.alloc.AllocError.{AllocError}
use Rattle.gixp_hash.specs.Hex.{encode_lower}
use Rattle.gixp_hash.specs.declared.object_id.ObjectId.{ObjectId}
use Rattle.gixp_packetline.specs.declared.protocol.Protocol.{Protocol}
use Rattle.gixp_packetline.specs.declared.protocol.Protocol.TheVariants.{V2}
use Rattle.gixp_requests.specs.declared.command.Command.TheVariants.{Fetch}
use Rattle.gixp_requests.specs.Feature.{FeatureValue, feature_text, has_feature}
use Rattle.gixp_requests.specs.Command.{TableValue, initial_arguments}

-- the arguments of the next request
pub record ArgumentsValue : Type 0 where
  pub version : Protocol
  -- the features that the caller passed
  pub features : List FeatureValue
  -- whether these two features were turned on
  pub include_tag : Bool
  pub deepen_relative : Bool
  -- the features that were added for the first want
  pub added : List (List ℕ)
  -- whether there was a `want` line already
  pub wanted : Bool
  pub lines : List (List ℕ)
  -- the `have` lines, which only the next request has
  pub haves : List (List ℕ)

abbrev pub is_v2 : Protocol → Bool
is_v2 V2 = true
is_v2 _ = false

abbrev pub id_text : ObjectId → List ℕ
id_text id = encode_lower id.bytes

-- the argument lines of a new request
abbrev pub first_lines : TableValue → Protocol → List FeatureValue → List (List ℕ)
first_lines table version features = if is_v2 version then initial_arguments table Fetch features else []

-- a new request: it asks only for the lines of the table
abbrev pub asks_nothing : TableValue → Protocol → List FeatureValue → ArgumentsValue
asks_nothing table version features = record {
  version = version;
  features = features;
  include_tag = false;
  deepen_relative = false;
  added = [];
  wanted = false;
  lines = first_lines table version features;
  haves = [];
}

-- the arguments with one more line
abbrev pub with_line : List ℕ → ArgumentsValue → ArgumentsValue
with_line line a = record a { lines = a.lines ++ line ∷ [] }

-- whether the first want has a feature: `include-tag` and `deepen-relative` only if they were turned on
abbrev pub is_on : Bool → Bool → FeatureValue → Bool
is_on include_tag deepen_relative f =
    if bytes_eq f.name (codes "include-tag") then include_tag
    else if bytes_eq f.name (codes "deepen-relative") then deepen_relative
    else true

abbrev pub spaced : List (List ℕ) → List ℕ
spaced [] = []
spaced (text ∷ texts) = 32 ∷ text ++ spaced texts

-- the texts of the features of the first want
abbrev pub texts_on : Bool → Bool → List FeatureValue → List (List ℕ)
texts_on include_tag deepen_relative features = map feature_text (filter (is_on include_tag deepen_relative) features)

-- the features of the first want in their order, and then those that were added
abbrev pub first_features : ArgumentsValue → List (List ℕ)
first_features a = texts_on a.include_tag a.deepen_relative a.features ++ a.added

-- a blank, and these texts joined by blanks
abbrev pub after_blank : List (List ℕ) → List ℕ
after_blank texts = 32 ∷ join_with_byte 32 texts

-- the text after the id of the first want: under versions 0 and 1 a blank and the features, joined by blanks
abbrev pub after_want : ArgumentsValue → List ℕ
after_want a = if is_v2 a.version || a.wanted then [] else after_blank (first_features a)

abbrev pub want_line : List ℕ → ArgumentsValue → List ℕ
want_line id a = codes "want " ++ (id ++ after_want a)

-- the arguments after each call
abbrev pub asks_want : List ℕ → ArgumentsValue → ArgumentsValue
asks_want id a = record a { lines = a.lines ++ want_line id a ∷ []; wanted = true }

abbrev pub asks_want_ref : List ℕ → ArgumentsValue → ArgumentsValue
asks_want_ref path = with_line (codes "want-ref " ++ path)

abbrev pub asks_have : List ℕ → ArgumentsValue → ArgumentsValue
asks_have id a = record a { haves = a.haves ++ (codes "have " ++ id) ∷ [] }

abbrev pub asks_shallow : List ℕ → ArgumentsValue → ArgumentsValue
asks_shallow id = with_line (codes "shallow " ++ id)

abbrev pub asks_deepen : ℕ → ArgumentsValue → ArgumentsValue
asks_deepen depth = with_line (codes "deepen " ++ decimal depth)

abbrev pub asks_deepen_since : ℤ → ArgumentsValue → ArgumentsValue
asks_deepen_since seconds = with_line (codes "deepen-since " ++ signed_decimal seconds)

abbrev pub asks_deepen_not : List ℕ → ArgumentsValue → ArgumentsValue
asks_deepen_not path = with_line (codes "deepen-not " ++ path)

abbrev pub asks_filter : List ℕ → ArgumentsValue → ArgumentsValue
asks_filter spec = with_line (codes "filter " ++ spec)

-- under version 2 a line, otherwise a feature of the first want that is turned on
abbrev pub asks_deepen_relative : ArgumentsValue → ArgumentsValue
asks_deepen_relative a = if is_v2 a.version then with_line (codes "deepen-relative") a else record a { deepen_relative = true }

abbrev pub asks_include_tag : ArgumentsValue → ArgumentsValue
asks_include_tag a = if is_v2 a.version then with_line (codes "include-tag") a else record a { include_tag = true }

-- under version 2 a line, otherwise one more feature of the first want
abbrev pub asks_feature : List ℕ → ArgumentsValue → ArgumentsValue
asks_feature feature a = if is_v2 a.version then with_line feature a else record a { added = a.added ++ feature ∷ [] }

-- a failed call leaves the arguments as they were
abbrev pub Becomes : Result Unit AllocError → ArgumentsValue → ArgumentsValue → ArgumentsValue → Type 0
Becomes (Ok t) old next new = new ≡ next
Becomes (Err e) old next new = new ≡ old

-- whether the features include this name
abbrev pub can_use : List ℕ → ArgumentsValue → Bool
can_use name a = has_feature name a.features

abbrev pub can_use_deepening : List ℕ → ArgumentsValue → Bool
can_use_deepening name a = if is_v2 a.version then can_use (codes "shallow") a else can_use name a

abbrev pub can_use_include_tag : ArgumentsValue → Bool
can_use_include_tag a = is_v2 a.version || can_use (codes "include-tag") a

-- a feature can be added before the first want, under version 2 at any time
abbrev pub may_add_feature : ArgumentsValue → Bool
may_add_feature a = is_v2 a.version || not a.wanted

-- whether a line is a `want` line
abbrev pub is_want : List ℕ → Bool
is_want line = starts_with nat_eq line (codes "want ")

-- whether there is neither a `have` nor a `want` line
abbrev pub is_empty : ArgumentsValue → Bool
is_empty a = (length a.haves == 0) && not (list_any is_want a.lines)
