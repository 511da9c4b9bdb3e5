use Rattle.std.proofs.Common.{◌≡◌, ◌<◌, ◌∙◌, length, arith, ap, sym}
use Rattle.std.proofs.lemmas.Bool.Decides.{Decides-eqb}
use Rattle.std.proofs.lemmas.Slice.Eq.{slice_eq-Decides}
use Rattle.gixp_graph.specs.Node.{ids_of}
use Rattle.gixp_graph.proofs.NodeLemmas.{length_ids}
use Rattle.gixp_graph.proofs.commits.Commits.names.Goals as goal

pub returns-then-number-len : goal.returns-then-number-len
returns-then-number-len c t =
    let l : c.args.number < length (ids_of c.self.inside.nodes.items) =
    omega (arith, length_ids c.self.inside.nodes.items, c.len.ensures, c.if-number-len.true) in
    let same : c.id.result.bytes ≡ c.args.id.now.bytes = (slice_eq-Decides Decides-eqb _ _ _ c.eq.ensures).0 t in
    (rw (← c.self.view_is) l, sym c.id.ensures ∙ ap (λ bytes. record { bytes = bytes }) same)
