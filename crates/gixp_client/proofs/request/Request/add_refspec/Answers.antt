use Rattle.std.proofs.Common.{ap, sym, ◌∙◌}
use Rattle.std.specs.Prelude.{Ok}
use Rattle.gixp_client.proofs.SpecLemmas.{reads_spelled}
use Rattle.gixp_client.proofs.request.Request.add_refspec.Goals as goal

pub returns-in-Ok-clause-added : goal.returns-in-Ok-clause-added
returns-in-Ok-clause-added c = record {
  added = c.in_ok-spec-in-Ok.spec;
  value = reads_spelled c.args.text.now _ _ _ _ c.in_ok-spelled.ensures c.deref.ensures.value c.new.ensures c.in-Ok.ensures
      ∙ ap Ok (sym c.in_ok-spec-in-Ok.ensures);
  following = c.in_ok-push-in-Ok.ensures.items;
}
