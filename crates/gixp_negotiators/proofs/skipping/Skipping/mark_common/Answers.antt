use Rattle.std.proofs.Common.{◌≡◌, ◌∙◌, ◌++◌, ◌∷◌, [], Some, true, false, true≢false, ap, sym, refl, rules}
use Rattle.std.specs.BTreeSet.{contains}
use Rattle.gixp_hash.specs.ObjectId.{id_cmp}
use Rattle.gixp_graph.specs.GraphData.{parents_in}
use Rattle.gixp_negotiators.proofs.UnreadLemmas.{through_first, through_more, settled_seen, seen_more}
use Rattle.std.proofs.lemmas.List.Elements.{All-nil, All-same, All-pop}
use Rattle.gixp_negotiators.specs.Spread.{was_seen}
use Rattle.gixp_negotiators.specs.NewlyCommon.{IsNewlyCommon}
use Rattle.gixp_negotiators.proofs.SpreadLemmas.{stays_seen, spread_all, spread_popped, kept_from, from_step}
use Rattle.gixp_negotiators.proofs.GrowLemmas.{grows_none, only_common_on}
use Rattle.gixp_negotiators.proofs.OweLemmas.{owing_none, owing_paid, owing_end}
use Rattle.gixp_negotiators.specs.Marks.{COMMON}
use Rattle.gixp_negotiators.proofs.LookedLemmas.{looked_on, looked_ok, looked_from}
use Rattle.gixp_negotiators.proofs.skipping.Skipping.mark_common.Goals as goal

pub loop-next-init : goal.loop-next-init
loop-next-init g c = record {
  fits = λ lost f. c.in_ok-reach.ensures.fits lost _ _ (owing_none lost _ _ _ _ c.new-due.ensures.items f);
  through = through_first c.args.self.now.unread c.args.graph.now.graph c.reach.new.graph.graph c.args.id.now c.in_ok-reach.ensures.among;
  old = settled_seen c.args.graph.now.graph c.reach.new.graph.graph (c.args.id.now ∷ []) c.in_ok-reach.ensures.among;
  marks = c.in_ok-reach.ensures.marks;
  common = c.in_ok-reach.ensures.common;
  spreads = kept_from was_seen _ _ _ _ c.new-due.ensures.items c.in_ok-reach.ensures.spreads;
  newly =
      c.in_ok-reach.ensures.newly _ (grows_none _)
      (All-same (IsNewlyCommon c.args.graph.now.graph c.args.graph.now.graph) _ [] c.new-due.ensures.items
      (All-nil (IsNewlyCommon c.args.graph.now.graph c.args.graph.now.graph)));
  unread = refl;
  queue = refl;
  skips = refl;
  looks = looked_ok c.in_ok-reach.ensures.looks;
}

pub loop-next-preserved : goal.loop-next-preserved
loop-next-preserved g c =
    let is : c.loop-next.due.items ≡ c.pop.new.self.items ++ c.in-Some.next ∷ [] = rw c.in-Some.is at c.pop.ensures.items in
    let newly : IsNewlyCommon c.args.graph.now.graph c.loop-next.graph.graph c.in-Some.next =
    (All-pop (IsNewlyCommon c.args.graph.now.graph c.loop-next.graph.graph) _ _ (Some c.in-Some.next) is c.loop-next.invariant.newly).1 in
    let read : contains id_cmp c.args.self.now.unread c.in-Some.next ≡ false =
    ap (λ s. contains id_cmp s c.in-Some.next) (sym (c.discount.ensures.unread ∙ c.loop-next.invariant.unread))
    ∙ sym c.contains.ensures ∙ c.if-contains.false in
    record {
      fits = λ lost f. c.in_ok-spread.ensures.fits lost _ _ (owing_paid lost _ _ _ _ _ _ c.in-Some.next is
          (λ e. c.discount.ensures.taken (c.is_marked.ensures.value ∙ e)) (λ e. c.discount.ensures.waits (c.is_marked.ensures.value ∙ e))
          (c.loop-next.invariant.fits lost f));
      through =
          through_more c.args.self.now.unread c.args.graph.now.graph c.loop-next.graph.graph c.spread.new.graph.graph c.args.id.now
          c.in-Some.next c.loop-next.invariant.looks.grows newly read c.loop-next.invariant.old
          c.in_ok-spread.ensures.among c.loop-next.invariant.through;
      old = seen_more c.args.graph.now.graph c.loop-next.graph.graph c.spread.new.graph.graph
          (parents_in c.loop-next.graph.graph.held c.in-Some.next) c.loop-next.invariant.marks.sees c.in_ok-spread.ensures.among
          c.loop-next.invariant.old;
      marks = only_common_on _ _ _ c.loop-next.invariant.marks c.in_ok-spread.ensures.marks;
      common = λ s. c.spread.ensures.looks.grows.marks COMMON c.args.id.now (c.loop-next.invariant.common s);
      spreads =
          from_step was_seen c.in-Some.next _ _ c.args.graph.now.graph c.loop-next.graph.graph c.spread.new.graph.graph
          c.loop-next.invariant.looks.grows c.in_ok-spread.ensures.spreads
          (spread_popped was_seen stays_seen c.loop-next.due.items _ c.in-Some.next c.args.graph.now.graph c.loop-next.graph.graph
          (rw c.in-Some.is at c.pop.ensures.items) c.loop-next.invariant.spreads);
      newly = c.in_ok-spread.ensures.newly _ c.loop-next.invariant.looks.grows
          (All-pop (IsNewlyCommon c.args.graph.now.graph c.loop-next.graph.graph) _ _ _ c.pop.ensures.items c.loop-next.invariant.newly).0;
      unread = c.discount.ensures.unread ∙ c.loop-next.invariant.unread;
      queue = c.discount.ensures.queue ∙ c.loop-next.invariant.queue;
      skips = c.discount.ensures.skips ∙ c.loop-next.invariant.skips;
      looks = looked_ok (looked_on _ c.loop-next.invariant.looks c.in_ok-spread.ensures.looks);
    }

pub returns-then-contains-clause-fits : goal.returns-then-contains-clause-fits
returns-then-contains-clause-fits g c lost f =
    let is : c.loop-next.due.items ≡ c.pop.new.self.items ++ c.in-Some.next ∷ [] = rw c.in-Some.is at c.pop.ensures.items in
    let newly : IsNewlyCommon c.args.graph.now.graph c.loop-next.graph.graph c.in-Some.next =
    (All-pop (IsNewlyCommon c.args.graph.now.graph c.loop-next.graph.graph) _ _ (Some c.in-Some.next) is c.loop-next.invariant.newly).1 in
    let unread : contains id_cmp c.args.self.now.unread c.in-Some.next ≡ true =
    ap (λ s. contains id_cmp s c.in-Some.next) (sym (c.discount.ensures.unread ∙ c.loop-next.invariant.unread))
    ∙ sym c.contains.ensures ∙ c.if-contains.true in
    rw (c.discount.ensures.queue, c.loop-next.invariant.queue)
    (owing_end _ lost _ _ _ c.pop.new.self.items (λ all. absurd (true≢false (sym unread ∙ all c.in-Some.next newly)))
    (owing_paid lost _ _ _ _ _ _ c.in-Some.next is (λ e. c.discount.ensures.taken (c.is_marked.ensures.value ∙ e))
    (λ e. c.discount.ensures.waits (c.is_marked.ensures.value ∙ e)) (c.loop-next.invariant.fits lost f)))

pub returns-clause-fits : goal.returns-clause-fits
returns-clause-fits g c lost f = rw c.loop-next.invariant.queue
    (owing_end _ lost _ _ _ c.loop-next.due.items (λ all. search rules) (c.loop-next.invariant.fits lost f))

pub returns-clause-spreads : goal.returns-clause-spreads
returns-clause-spreads g c r = spread_all was_seen stays_seen c.loop-next.due.items c.args.graph.now.graph c.loop-next.graph.graph
    (search rules) c.loop-next.invariant.spreads

pub returns-then-contains-clause-spreads : goal.returns-then-contains-clause-spreads
returns-then-contains-clause-spreads g c all =
    let is : c.loop-next.due.items ≡ c.pop.new.self.items ++ c.in-Some.next ∷ [] = rw c.in-Some.is at c.pop.ensures.items in
    let newly : IsNewlyCommon c.args.graph.now.graph c.loop-next.graph.graph c.in-Some.next =
    (All-pop (IsNewlyCommon c.args.graph.now.graph c.loop-next.graph.graph) _ _ (Some c.in-Some.next) is c.loop-next.invariant.newly).1 in
    let unread : contains id_cmp c.args.self.now.unread c.in-Some.next ≡ true =
    ap (λ s. contains id_cmp s c.in-Some.next) (sym (c.discount.ensures.unread ∙ c.loop-next.invariant.unread))
    ∙ sym c.contains.ensures ∙ c.if-contains.true in
    absurd (true≢false (sym unread ∙ all c.in-Some.next newly))

pub returns-in_err-spread-clause-looks : goal.returns-in_err-spread-clause-looks
returns-in_err-spread-clause-looks g c = looked_from _ c.from_residual-in_err-spread.ensures.1
    (looked_on _ c.loop-next.invariant.looks c.in_err-spread.ensures.looks)

pub returns-in_err-reach-clause-looks : goal.returns-in_err-reach-clause-looks
returns-in_err-reach-clause-looks g c = looked_from _ c.from_residual.ensures.1 c.in_err-reach.ensures.looks
