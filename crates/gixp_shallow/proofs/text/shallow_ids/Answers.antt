use Rattle.std.proofs.Common.{[], sym, ap, ◌∙◌, subst}
use Rattle.gixp_shallow.specs.Boundary.{IsSetOf}
use Rattle.gixp_shallow.specs.Boundary.{with_ids}
use Rattle.gixp_shallow.proofs.SetLemmas.{set_of}
use Rattle.gixp_shallow.proofs.text.shallow_ids.Goals as goal

pub returns-in-Ok-clause-ids : goal.returns-in-Ok-clause-ids
returns-in-Ok-clause-ids c = record {
  ids = c.in_ok-ids.ids.items;
  each = c.in_ok-ids.ensures.ids;
  is_set = subst (IsSetOf c.in_ok-ids.ids.items) (sym (c.in-Ok.ensures ∙ ap (λ ids. with_ids [] ids) c.deref.ensures.value))
      (set_of c.in_ok-ids.ids.items);
}
