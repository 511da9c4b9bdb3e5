-- The features of a part of a table.
use Rattle.std.proofs.Common.{◌≡◌, List, ◌++◌, map, ap, ◌∙◌}
use Rattle.std.specs.Prelude.{filter}
use Rattle.std.proofs.lemmas.List.{map-append}
use Rattle.std.proofs.lemmas.List.Elements.{filter-append}
use Rattle.gixp_capabilities.specs.Capabilities.{CapabilityValue}
use Rattle.gixp_requests.specs.Command.{WordEntry}
use Rattle.gixp_requests.specs.Feature.{FeatureValue}
use Rattle.gixp_requests.specs.Offers.{is_offered, plain_feature}

-- the features of these entries
abbrev pub offered_features : List CapabilityValue → List WordEntry → List FeatureValue
offered_features capabilities entries = map plain_feature (map (λ (e : WordEntry). e.word) (filter (is_offered capabilities) entries))

pub offered_features-append : (capabilities : List CapabilityValue) (xs ys : List WordEntry)
    → offered_features capabilities (xs ++ ys) ≡ offered_features capabilities xs ++ offered_features capabilities ys
offered_features-append capabilities xs ys =
    let word = λ (e : WordEntry). e.word in
    let front = filter (is_offered capabilities) xs in
    let back = filter (is_offered capabilities) ys in
    ap (λ z. map plain_feature (map word z)) (filter-append (is_offered capabilities) xs ys)
    ∙ ap (map plain_feature) (map-append word front back)
    ∙ map-append plain_feature (map word front) (map word back)
