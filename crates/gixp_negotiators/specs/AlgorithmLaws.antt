-- Laws of a negotiator whose kind is chosen at run time.
use Rattle.std.proofs.Common.{◌≡◌, ◌≤◌, ◌<◌, Option, Some, None, arith, subst, sym}
use Rattle.gixp_hash.specs.declared.object_id.ObjectId.{ObjectId}
use Rattle.gixp_graph.specs.GraphData.{GraphData}
use Rattle.gixp_negotiators.specs.declared.algorithm.AnyNegotiator.{AnyNegotiator}
use Rattle.gixp_negotiators.specs.declared.algorithm.AnyNegotiator.TheVariants as any
use Rattle.gixp_negotiators.specs.Marks.{POPPED, left}
use Rattle.gixp_negotiators.specs.MarkLaws.{grows_left, offer_lowers}
use Rattle.gixp_negotiators.specs.Algorithm.{LearnsByKind, OffersByKind}

same_left : (g h : GraphData) → h ≡ g → left POPPED h ≤ left POPPED g
same_left g h e = subst (λ k. left POPPED k ≤ left POPPED g) (sym e) (omega arith)

-- an offer lowers the count of haves
pub any_lowers : (n : AnyNegotiator) (g : GraphData) (id : ObjectId) (m : AnyNegotiator) (h : GraphData)
    → OffersByKind n g (Some id) m h → left POPPED h < left POPPED g
any_lowers (any.Noop n) g id m h o = absurd (let e : ◌≡◌ {A = Option ObjectId} (Some id) None = o.0 in cc)
any_lowers (any.Consecutive n) g id (any.Consecutive m) h o = offer_lowers g h id o.offers
any_lowers (any.Consecutive n) g id (any.Noop m) h o = absurd o
any_lowers (any.Consecutive n) g id (any.Skipping m) h o = absurd o
any_lowers (any.Skipping n) g id (any.Skipping m) h o = offer_lowers g h id o.offers
any_lowers (any.Skipping n) g id (any.Noop m) h o = absurd o
any_lowers (any.Skipping n) g id (any.Consecutive m) h o = absurd o

-- a call without an offer doesn't raise the count
pub any_keeps : (n : AnyNegotiator) (g : GraphData) (m : AnyNegotiator) (h : GraphData) → OffersByKind n g None m h → left POPPED h
    ≤ left POPPED g
any_keeps (any.Noop n) g m h o = same_left g h o.2
any_keeps (any.Consecutive n) g (any.Consecutive m) h o = grows_left POPPED g h o.grows
any_keeps (any.Consecutive n) g (any.Noop m) h o = absurd o
any_keeps (any.Consecutive n) g (any.Skipping m) h o = absurd o
any_keeps (any.Skipping n) g (any.Skipping m) h o = grows_left POPPED g h o.grows
any_keeps (any.Skipping n) g (any.Noop m) h o = absurd o
any_keeps (any.Skipping n) g (any.Consecutive m) h o = absurd o

-- `in_common_with_remote` doesn't raise the count
pub any_learns : (n : AnyNegotiator) (g : GraphData) (id : ObjectId) (m : AnyNegotiator) (h : GraphData) → LearnsByKind n g id m h
    → left POPPED h ≤ left POPPED g
any_learns (any.Noop n) g id m h o = same_left g h o.1
any_learns (any.Consecutive n) g id (any.Consecutive m) h o = grows_left POPPED g h o.grows
any_learns (any.Consecutive n) g id (any.Noop m) h o = absurd o
any_learns (any.Consecutive n) g id (any.Skipping m) h o = absurd o
any_learns (any.Skipping n) g id (any.Skipping m) h o = grows_left POPPED g h o.grows
any_learns (any.Skipping n) g id (any.Noop m) h o = absurd o
any_learns (any.Skipping n) g id (any.Consecutive m) h o = absurd o
