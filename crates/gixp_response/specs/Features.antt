-- The features without which responses of versions 0 and 1 can't be read (gitprotocol-capabilities,
-- "multi_ack_detailed", "side-band, side-band-64k").
use Rattle.std.specs.Prelude.{◌≡◌, ℕ, ⊤, Bool, ◌||◌, if◌then◌else◌, List, map, codes, Option, Some, None, Result, Ok, Err}
use Rattle.std.specs.Borrow.{Bor}
use Rattle.std.specs.List.{list_any}
use Rattle.std.specs.Prelude.{String}
use Rattle.std.specs.declared.alloc.Global.{Global}
use Rattle.gixp_packetline.specs.declared.protocol.Protocol.{Protocol}
use Rattle.gixp_packetline.specs.declared.protocol.Protocol.TheVariants.{V2}
use Rattle.gixp_capabilities.specs.Capabilities.{is_text}
use Rattle.gixp_response.specs.ResponseError.{answer_refusal, missing_capability}
use Rattle.gixp_response.specs.declared.fetch.response.error.Error.{Error}

-- a feature: its name, and its value if it has one
abbrev pub Feature : Type 0
Feature = Bor (List ℕ) × Option (String Global)

abbrev pub feature_name : Feature → List ℕ
feature_name f = f.0.now

abbrev pub feature_names : List Feature → List (List ℕ)
feature_names features = map feature_name features

-- whether one of the names is this one
abbrev pub has_name : List ℕ → List (List ℕ) → Bool
has_name name names = list_any (λ n. is_text n name) names

-- the first feature that is missing: `multi_ack_detailed`, or one of the two sideband features
abbrev pub first_missing : List (List ℕ) → Option (List ℕ)
first_missing names =
    if has_name (codes "multi_ack_detailed") names
    then (if has_name (codes "side-band") names || has_name (codes "side-band-64k") names then None
    else Some (codes "side-band OR side-band-64k"))
    else Some (codes "multi_ack_detailed")

-- version 2 needs no feature
abbrev pub missing_name : Protocol → List (List ℕ) → Option (List ℕ)
missing_name V2 names = None
missing_name _ names = first_missing names

abbrev pub missing_feature : Protocol → List Feature → Option (List ℕ)
missing_feature version features = missing_name version (feature_names features)

-- no feature is missing, or the error names the first one
abbrev pub Misses : Option (List ℕ) → Result Unit Error → Type 0
Misses None (Ok x) = ⊤
Misses None (Err e) = ⊥
Misses (Some name) (Ok x) = ⊥
Misses (Some name) (Err e) = answer_refusal e ≡ missing_capability name
