use Rattle.std.proofs.Common.{refl, ap, map, sym, ◌∙◌}
use Rattle.bstr.specs.Owned.{bstring_bytes}
use Rattle.gixp_refmap.specs.Prefixes.{is_among, with_text}
use Rattle.gixp_refmap.proofs.KeyLemmas.{inserted_text, among_keys}
use Rattle.gixp_refmap.proofs.ls_refs.prefixes.RefPrefixes.add.Goals as goal

pub returns-clause-ok : goal.returns-clause-ok
returns-clause-ok c =
    ap (map bstring_bytes) c.in-Ok.ensures.keys ∙ inserted_text _ (λ a b. refl) c.self.inside.prefixes.keys c.args.prefix
    ∙ ap (λ known. with_text known (bstring_bytes c.args.prefix)) c.self.view_is

pub returns-in-Err-clause-absent : goal.returns-in-Err-clause-absent
returns-in-Err-clause-absent c =
    ap (λ known. is_among known (bstring_bytes c.args.prefix)) (sym c.self.view_is)
    ∙ sym (among_keys _ (λ a b. refl) c.self.inside.prefixes.keys c.args.prefix) ∙ c.in-Err.ensures.absent
