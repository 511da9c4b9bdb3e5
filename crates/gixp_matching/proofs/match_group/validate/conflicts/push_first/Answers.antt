use Rattle.std.proofs.Common.{◌≡◌, Some, None, ◌∙◌, ◌++◌, ap, sym, map, take, false, true}
use Rattle.std.specs.List.{list_any}
use Rattle.std.specs.Option.{option_map}
use Rattle.std.proofs.lemmas.Bool.{false≢true}
use Rattle.std.proofs.lemmas.Slice.Eq.{bytes_eq-Decides}
use Rattle.bstr.specs.Owned.{bstring_bytes}
use Rattle.gixp_matching.specs.Found.{found_over}
use Rattle.gixp_matching.specs.Groups.{lent}
use Rattle.gixp_matching.specs.Mappings.{local_eq}
use Rattle.gixp_matching.specs.MatchGroup.{key_bytes}
use Rattle.gixp_matching.specs.Validate.{conflicts_in}
use Rattle.gixp_matching.specs.Validation.{has_local}
use Rattle.gixp_matching.proofs.FoundLemmas.{adds_none, adds_one, any_next, any_first}
use Rattle.gixp_matching.proofs.match_group.validate.conflicts.push_first.Goals as goal

pub returns-in_default : goal.returns-in_default
returns-in_default g c =
    let f = g.M.AsMapping.mapped in
    let mappings = c.args.mappings.now in
    let mapping = c.index-mappings-place.result in
    let is : (f mapping.now).local ≡ None = sym (ap (λ p. p.1) c.key.ensures) ∙ ap (option_map key_bytes) c.in_default.is in
    adds_none (map bstring_bytes c.args.texts.now) (lent f mappings) c.args.place (f mapping.now) (conflicts_in c.args.issues.now)
    (λ name. any_next (λ m. f m.now) (has_local name) mappings c.args.place mapping c.index-mappings-place.is c.requires)
    (λ name has. absurd (false≢true (sym (ap (λ o. local_eq o (Some name)) is) ∙ has)))

pub returns-else-not-is_among : goal.returns-else-not-is_among
returns-else-not-is_among g c =
    let f = g.M.AsMapping.mapped in
    let mappings = c.args.mappings.now in
    let mapping = c.index-mappings-place.result in
    let own = c.in-Some.name.bytes.now in
    let is : (f mapping.now).local ≡ Some own = sym (ap (λ p. p.1) c.key.ensures) ∙ ap (option_map key_bytes) c.in-Some.is in
    let there : list_any (has_local own) (take c.args.place (lent f mappings)) ≡ true =
    any_first (λ m. f m.now) (has_local own) mappings c.args.place ∙ sym c.is_among.ensures ∙ c.if-not-is_among.false in
    adds_none (map bstring_bytes c.args.texts.now) (lent f mappings) c.args.place (f mapping.now) (conflicts_in c.args.issues.now)
    (λ name. any_next (λ m. f m.now) (has_local name) mappings c.args.place mapping c.index-mappings-place.is c.requires)
    (λ name has. ap (λ n. list_any (has_local n) (take c.args.place (lent f mappings)))
    (sym ((bytes_eq-Decides own name).0 (sym (ap (λ o. local_eq o (Some name)) is) ∙ has))) ∙ there)

pub returns-in_ok-push_conflict : goal.returns-in_ok-push_conflict
returns-in_ok-push_conflict g c =
    let f = g.M.AsMapping.mapped in
    let mappings = c.args.mappings.now in
    let mapping = c.index-mappings-place.result in
    let own = c.in-Some.name.bytes.now in
    let texts = map bstring_bytes c.args.texts.now in
    let is : (f mapping.now).local ≡ Some own = sym (ap (λ p. p.1) c.key.ensures) ∙ ap (option_map key_bytes) c.in-Some.is in
    let fresh : list_any (has_local own) (take c.args.place (lent f mappings)) ≡ false =
    any_first (λ m. f m.now) (has_local own) mappings c.args.place ∙ sym c.is_among.ensures ∙ c.if-not-is_among.true in
    adds_one texts (lent f mappings) c.args.place (f mapping.now) own (conflicts_in c.args.issues.now)
    (conflicts_in c.push_conflict.new.issues)
    (λ name. any_next (λ m. f m.now) (has_local name) mappings c.args.place mapping c.index-mappings-place.is c.requires)
    is fresh
    (c.in_ok-push_conflict.ensures
    ∙ ap (λ l. conflicts_in c.args.issues.now ++ found_over texts own l) (ap (lent f) c.deref.ensures.value ∙ c.in_ok-own.ensures))
