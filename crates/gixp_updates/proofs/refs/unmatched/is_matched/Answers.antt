use Rattle.std.proofs.Common.{Bool, ◌≡◌, ◌∙◌, sym, subst}
use Rattle.std.specs.List.{list_any}
use Rattle.std.proofs.lemmas.Result.{IfOk-weaker}
use Rattle.gixp_refspec.specs.Needle.{IsNeedle}
use Rattle.gixp_refspec.specs.Spec.{Spec}
use Rattle.gixp_updates.specs.Unmatched.{is_match_with, is_match}
use Rattle.gixp_updates.proofs.NoteLemmas.{matched_by}
use Rattle.gixp_updates.proofs.refs.unmatched.is_matched.Goals as goal

pub returns-in-None : goal.returns-in-None
returns-in-None c = λ s e.
    c.has_match.ensures ∙ matched_by s c.new-needle.result
    (subst (λ t. IsNeedle t c.new-needle.result) (sym e) c.new-needle.ensures) c.args.looked.now.refs.now

pub returns-in-Some : goal.returns-in-Some
returns-in-Some c =
    IfOk-weaker c.has_name.result (λ (found : Bool). found ≡ list_any (is_match_with c.new-needle.result) c.args.looked.now.refs.now)
    (λ (found : Bool). (s : Spec) → s.source ≡ c.args.source.now → found ≡ list_any (is_match s) c.args.looked.now.refs.now)
    (λ found is s e. is ∙ matched_by s c.new-needle.result
    (subst (λ t. IsNeedle t c.new-needle.result) (sym e) c.new-needle.ensures) c.args.looked.now.refs.now) c.has_name.ensures
