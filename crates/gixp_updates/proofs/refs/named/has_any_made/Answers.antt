use Rattle.std.proofs.Common.{ℕ, List, ◌≡◌, ◌∙◌, ◌+◌, Bool, true, false, [], drop, get_or, sym, ap, arith}
use Rattle.std.specs.Prelude.{◌||◌}
use Rattle.std.specs.Borrow.{Bor}
use Rattle.std.specs.List.{list_any}
use Rattle.std.proofs.lemmas.Grind.{common_steps}
use Rattle.gixp_refspec.specs.Matching.{joined, rule_of}
use Rattle.gixp_updates.specs.RefNames.{has_text}
use Rattle.gixp_updates.proofs.NamedLemmas.{any_step}
use Rattle.gixp_updates.proofs.refs.named.has_any_made.Goals as goal

pub returns-then-branch : goal.returns-then-branch
returns-then-branch c =
    let p : Bor (List ℕ) × Bor (List ℕ) → Bool = λ rule. has_text c.args.names.now (joined c.args.short.now (rule_of rule)) in
    let i = c.rules.rule-index in
    let step = any_step p c.args.rules.now i
    (record { ref_ptr = (0, 0); now = [] }, record { ref_ptr = (0, 0); now = [] }) c.rules-test.true in
    let here : p (get_or c.args.rules.now i (record { ref_ptr = (0, 0); now = [] }, record { ref_ptr = (0, 0); now = [] })) ≡ true =
    first_of (cc (c.in_ok-has_made.ensures), grind (arith, common_steps, c.in_ok-has_made.ensures)) in
    sym (c.rules.invariant ∙ step ∙ ap (λ b. b || list_any p (drop (i + 1) c.args.rules.now)) here)

pub rules-preserved : goal.rules-preserved
rules-preserved c =
    let p : Bor (List ℕ) × Bor (List ℕ) → Bool = λ rule. has_text c.args.names.now (joined c.args.short.now (rule_of rule)) in
    let i = c.rules.rule-index in
    let step = any_step p c.args.rules.now i
    (record { ref_ptr = (0, 0); now = [] }, record { ref_ptr = (0, 0); now = [] }) c.rules-test.true in
    let here : p (get_or c.args.rules.now i (record { ref_ptr = (0, 0); now = [] }, record { ref_ptr = (0, 0); now = [] })) ≡ false =
    first_of (cc (c.in_ok-has_made.ensures), grind (arith, common_steps, c.in_ok-has_made.ensures)) in
    c.rules.invariant ∙ step ∙ ap (λ b. b || list_any p (drop (i + 1) c.args.rules.now)) here
