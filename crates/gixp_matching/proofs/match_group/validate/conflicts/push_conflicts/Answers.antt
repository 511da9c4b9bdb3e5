use Rattle.std.proofs.Common.{◌≤◌, length, map, subst, arith}
use Rattle.std.proofs.lemmas.List.{take_all, length-map}
use Rattle.bstr.specs.Owned.{bstring_bytes}
use Rattle.gixp_matching.specs.Found.{AddsConflicts}
use Rattle.gixp_matching.specs.Groups.{lent}
use Rattle.gixp_matching.specs.Validate.{conflicts_in}
use Rattle.gixp_matching.proofs.FoundLemmas.{found_before, before_none, before_more, before_all}
use Rattle.gixp_matching.proofs.match_group.validate.conflicts.push_conflicts.Goals as goal

pub mappings-init : goal.mappings-init
mappings-init g c =
    before_none (map bstring_bytes c.args.texts.now) (lent g.M.AsMapping.mapped c.args.mappings.now) (conflicts_in c.args.issues.now)

pub mappings-preserved : goal.mappings-preserved
mappings-preserved g c =
    before_more (map bstring_bytes c.args.texts.now) (lent g.M.AsMapping.mapped c.args.mappings.now) c.mappings.place
    (conflicts_in c.args.issues.now)
    (conflicts_in c.mappings.issues) (conflicts_in c.push_first.new.issues) c.mappings.invariant c.in_ok-push_first.ensures

pub returns : goal.returns
returns g c =
    let texts = map bstring_bytes c.args.texts.now in
    let ms = lent g.M.AsMapping.mapped c.args.mappings.now in
    let all : length ms ≤ c.mappings.place = omega (arith, length-map c.args.mappings.now (λ m. g.M.AsMapping.mapped m.now)) in
    before_all texts ms (conflicts_in c.args.issues.now) (conflicts_in c.mappings.issues)
    (subst (λ l. AddsConflicts (found_before texts ms l) (conflicts_in c.args.issues.now) (conflicts_in c.mappings.issues))
    (take_all c.mappings.place ms all) c.mappings.invariant)
