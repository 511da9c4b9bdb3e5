use Rattle.std.proofs.Common.{ℕ, List, ◌++◌, ◌∙◌, map, ap}
use Rattle.std.specs.Borrow.{Bor}
use Rattle.gixp_plain_requests.specs.declared.request.LineKind.{LineKind}
use Rattle.gixp_plain_requests.specs.declared.request.LineKind.TheVariants.{Want, Shallow, Depth, Other}
use Rattle.gixp_plain_requests.specs.Request.{sent_want, of_kind, texts_of_lines}
use Rattle.gixp_plain_requests.proofs.RequestLemmas.{all_sent}
use Rattle.gixp_plain_requests.proofs.request.sent_request.Goals as goal

pub returns : goal.returns
returns c =
    let m = c.args.missing in
    let wants : List (Bor (List ℕ)) → List ℕ = λ xs. texts_of_lines (map (sent_want m) (of_kind Want (map (λ x. x.now) xs))) in
    let of : LineKind → List (Bor (List ℕ)) → List ℕ = λ kind xs. texts_of_lines (of_kind kind (map (λ x. x.now) xs)) in
    all_sent m c.args.request.now _ _ _ _ _ _ _ c.in_ok-lines.ensures.lines c.in_ok-lines.ensures.rest
    (c.in_ok-push_wants.ensures ∙ ap (λ xs. xs ++ wants c.deref.result.now) c.new-sent.ensures.items ∙ ap wants c.deref.ensures.value)
    (c.in_ok-push_lines.ensures ∙ ap (λ xs. c.push_wants.new.sent.items ++ of Shallow xs) c.deref-2.ensures.value)
    (c.in_ok-push_lines-2.ensures ∙ ap (λ xs. c.push_lines.new.sent.items ++ of Depth xs) c.deref-3.ensures.value)
    (c.in_ok-push_lines-3.ensures ∙ ap (λ xs. c.push_lines-2.new.sent.items ++ of Other xs) c.deref-4.ensures.value)
    (c.in_ok-extend_from_slice.ensures.items)
