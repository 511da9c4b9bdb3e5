-- A feature of a request, as plain data and as text (gitprotocol-v2, "Command Request"; gitprotocol-pack, "Packfile Negotiation").
use Rattle.std.specs.Prelude.{ℕ, Bool, List, Option, String, map}
use Rattle.std.specs.Option.{option_map}
use Rattle.std.specs.List.{list_any}
use Rattle.std.specs.Str.{bytes_eq}
use Rattle.std.specs.String.{string_bytes}
use Rattle.std.specs.Borrow.{Bor}
use Rattle.std.specs.declared.alloc.Global.{Global}
use Rattle.gixp_transport.specs.Message.{feature_line}

-- a feature: its name, and its value if it has one
pub record FeatureValue : Type 0 where
  pub name : List ℕ
  pub value : Option (List ℕ)

abbrev pub feature_value : Bor (List ℕ) × Option (String Global) → FeatureValue
feature_value f = record { name = f.0.now; value = option_map string_bytes f.1 }

abbrev pub feature_values : List (Bor (List ℕ) × Option (String Global)) → List FeatureValue
feature_values = map feature_value

-- the name, with `=` and the value if there is one
abbrev pub feature_text : FeatureValue → List ℕ
feature_text f = feature_line f.name f.value

-- whether one of the features has this name
abbrev pub has_feature : List ℕ → List FeatureValue → Bool
has_feature name features = list_any (λ f. bytes_eq f.name name) features
