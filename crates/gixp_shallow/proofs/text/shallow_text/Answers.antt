use Rattle.std.proofs.Common.{◌≡◌, [], ap, ◌∙◌}
use Rattle.std.proofs.lemmas.Result.{IfOk-weaker}
use Rattle.gixp_shallow.specs.Boundary.{with_ids}
use Rattle.gixp_shallow.specs.ShallowText.{IsTextOf, text_of}
use Rattle.gixp_shallow.proofs.SetLemmas.{set_of}
use Rattle.gixp_shallow.proofs.text.shallow_text.Goals as goal

pub returns : goal.returns
returns c = IfOk-weaker c.id_lines.result (λ text. text.items ≡ text_of c.deref.result.now) (λ text. IsTextOf c.args.ids.now text.items)
    (λ text e. record {
      set = with_ids [] c.args.ids.now;
      is_set = set_of c.args.ids.now;
      is_text = e ∙ ap text_of (c.deref.ensures.value ∙ c.in_ok-ids.ensures);
    }) c.id_lines.ensures
