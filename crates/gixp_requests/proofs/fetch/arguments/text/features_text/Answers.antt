-- A blank alone if there is no feature.
use Rattle.std.proofs.Common.{◌≡◌, ℕ, List, IfOk, Vec, Global, subst, arith}
use Rattle.gixp_requests.proofs.ArgumentLemmas.{blank_alone, blanks_joined}
use Rattle.gixp_requests.proofs.fetch.arguments.text.features_text.Goals as goal

pub returns-then-is_empty : goal.returns-then-is_empty
returns-then-is_empty c =
    let e = blank_alone _ _ _ (omega arith) c.if-is_empty.ensures c.in_ok-text.ensures in
    subst (λ (t : List ℕ). IfOk c.from_slice.result (λ (v : Vec ℕ Global). v.items ≡ t)) e c.from_slice.ensures.items

pub returns : goal.returns
returns c = blanks_joined _ _ _ (omega arith) c.if-is_empty.ensures c.in_ok-text.ensures
