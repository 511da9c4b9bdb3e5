-- Whether the lines of a command fit into packet lines.
use Rattle.std.proofs.Common.{◌≡◌, ℕ, Bool, true, false, List, [], ◌∷◌, ◌++◌, Option, refl, ap, ◌∙◌, map, ◌&&◌}
use Rattle.std.specs.Prelude.{codes, String, string_bytes}
use Rattle.std.specs.List.{list_all}
use Rattle.std.specs.Borrow.{Bor}
use Rattle.std.specs.Option.{option_map}
use Rattle.std.specs.declared.alloc.Global.{Global}
use Rattle.std.proofs.lemmas.List.Folds.{list_all-append, list_all-map}
use Rattle.bstr.specs.declared.bstring.BString.{BString}
use Rattle.bstr.specs.Owned.{bstring_bytes}
use Rattle.gixp_transport.specs.Message.{MessageValue, text, flush, fits, value_fits, lines_fit, feature_line, feature_lines, argument_values, command_fits}

-- regrouping of a conjunction that ends in true
and_parts : (a b c : Bool) → (((a && b) && c) && true) ≡ (a && (b && c))
and_parts false b c = refl
and_parts true false c = refl
and_parts true true false = refl
and_parts true true true = refl

lines-fit : (lines : List (List ℕ)) → list_all value_fits (map text lines) ≡ list_all fits lines
lines-fit lines = list_all-map value_fits text lines

arguments-fit : (arguments : List (List ℕ)) → list_all value_fits (argument_values arguments) ≡ list_all fits arguments
arguments-fit [] = refl
arguments-fit (a ∷ more) = lines-fit (a ∷ more)

-- the name, the features and the arguments
pub command_fits_parts : (command : List ℕ) (features : List (Bor (List ℕ) × Option (String Global))) (arguments : List BString)
    → command_fits command (feature_lines features) (map bstring_bytes arguments)
    ≡ (fits (codes "command=" ++ command) && (list_all (λ (f : Bor (List ℕ) × Option (String Global)). fits
    (feature_line f.0.now (option_map string_bytes f.1))) features && lines_fit arguments))
command_fits_parts command features arguments =
    let head : List ℕ = codes "command=" ++ command in
    let lines : List (List ℕ) = feature_lines features in
    let given : List (List ℕ) = map bstring_bytes arguments in
    let front : List MessageValue = map text (head ∷ lines) in
    let a = list_all-append value_fits (front ++ argument_values given) (flush ∷ []) in
    let b = list_all-append value_fits front (argument_values given) in
    let c = lines-fit lines ∙ list_all-map fits
    (λ (f : Bor (List ℕ) × Option (String Global)). feature_line f.0.now (option_map string_bytes f.1)) features in
    let d = arguments-fit given ∙ list_all-map fits bstring_bytes arguments in
    a ∙ ap (λ x. x && true) b
    ∙ ap (λ x. ((fits head && x) && list_all value_fits (argument_values given)) && true) c
    ∙ ap (λ x. ((fits head && list_all (λ (f : Bor (List ℕ) × Option (String Global)). fits
    (feature_line f.0.now (option_map string_bytes f.1))) features) && x) && true) d
    ∙ and_parts (fits head) (list_all (λ (f : Bor (List ℕ) × Option (String Global)). fits
    (feature_line f.0.now (option_map string_bytes f.1))) features) (lines_fit arguments)
