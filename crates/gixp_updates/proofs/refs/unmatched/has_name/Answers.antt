use Rattle.std.proofs.Common.{Bool, ◌≡◌, ◌∙◌, sym, ap}
use Rattle.std.specs.List.{list_any}
use Rattle.std.proofs.lemmas.Result.{IfOk-weaker}
use Rattle.gixp_refspec.specs.declared.needle.Needle.{Needle}
use Rattle.gixp_refspec.specs.Matching.{candidates}
use Rattle.gixp_updates.specs.RefNames.{has_text}
use Rattle.gixp_updates.specs.Unmatched.{is_match_with}
use Rattle.gixp_updates.proofs.NamedLemmas.{exact_match, short_match, id_match}
use Rattle.gixp_updates.proofs.refs.unmatched.has_name.Goals as goal

pub returns-in-Exact : goal.returns-in-Exact
returns-in-Exact c =
    let by = λ (n : Needle). list_any (is_match_with n) c.args.refs.now in
    c.contains.ensures ∙ c.requires c.in-Exact.name.now ∙ exact_match c.in-Exact.name c.args.refs.now
    ∙ ap by (sym c.in-Exact.is)

pub returns-in-Short : goal.returns-in-Short
returns-in-Short c =
    let by = λ (n : Needle). list_any (is_match_with n) c.args.refs.now in
    IfOk-weaker c.has_candidate.result (λ (found : Bool). found ≡ list_any (has_text c.args.names.now) (candidates c.in-Short.name.now))
    (λ (found : Bool). found ≡ list_any (is_match_with c.args.needle.now) c.args.refs.now)
    (λ found is. is ∙ short_match c.in-Short.name c.args.refs.now c.args.names.now c.requires
    ∙ ap by (sym c.in-Short.is)) c.has_candidate.ensures

pub returns-in-Id : goal.returns-in-Id
returns-in-Id c =
    let by = λ (n : Needle). list_any (is_match_with n) c.args.refs.now in
    id_match c.args.refs.now ∙ ap by (sym c.in-Id.is)
