use Rattle.std.proofs.Common.{refl, inl}
use Rattle.gixp_sidebands.proofs.ContentLemmas.{reads_bytes}
use Rattle.gixp_sidebands.proofs.sidebands.WithSidebandsRead.read.Goals as goal

pub returns-clause-content : goal.returns-clause-content
returns-clause-content g c =
    let h = rw c.if-not-branch.false at c.in_ok-fill.ensures.fills in
    inl (reads_bytes _ _ _ c.copy_front-count.result c.rest.result.now c.args.buf.now _ h c.advance.ensures.hands_out
    c.advance.ensures.same refl c.rest.ensures c.copy_front-count.ensures.count c.copy_front-count.ensures.copied)
