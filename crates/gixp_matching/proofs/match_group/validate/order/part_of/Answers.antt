use Rattle.std.proofs.Common.{ap, ◌∙◌, ◌-◌, ◌++◌, drop, length, replicate, take}
use Rattle.std.proofs.lemmas.List.{drop_min, take_rest}
use Rattle.gixp_matching.specs.Found.{part}
use Rattle.gixp_matching.proofs.FoundLemmas.{padded}
use Rattle.gixp_matching.proofs.match_group.validate.order.part_of.Goals as goal

pub returns : goal.returns
returns c =
    let name = c.name_of-name.result.now in
    let rest = take (length name - c.min.result) (drop c.min.result name) in
    let following = take_rest name c.min.result ∙ ap (λ m. drop m name) c.min.ensures ∙ drop_min c.args.front name in
    ap (λ l. l ++ drop c.min-count.result (replicate 64 0)) c.copy_from_slice.ensures.after
    ∙ ap (λ m. take m rest ++ drop m (replicate 64 0)) c.min-count.ensures ∙ padded 64 rest ∙ ap (part 64) following
    ∙ ap (λ l. part 64 (drop c.args.front l)) c.name_of-name.ensures
