use Rattle.std.proofs.Common.{◌∙◌, ap, subst, ◌++◌, List, ℕ, w64}
use Rattle.std.specs.Prelude.{codes}
use Rattle.std.specs.Fmt.{signed_decimal}
use Rattle.std.proofs.lemmas.Int.{to_z-of_z}
use Rattle.gixp_requests.specs.Arguments.{Becomes, with_line}
use Rattle.gixp_requests.proofs.fetch.arguments.Arguments.deepen_since.Goals as goal

pub returns : goal.returns
returns c =
    let text = c.as_bytes.ensures.value ∙ c.in_ok-seconds.ensures.ok ∙ ap signed_decimal (to_z-of_z w64 c.args.seconds c.ranges.seconds) in
    subst (λ (t : List ℕ). Becomes c.push_joined.result c.args.self.now
    (with_line (codes "deepen-since " ++ t) c.args.self.now) c.push_joined.new.self) text c.push_joined.ensures
