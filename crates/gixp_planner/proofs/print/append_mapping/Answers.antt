use Rattle.std.proofs.Common.{◌≡◌, ◌++◌, ◌∙◌, ap, subst}
use Rattle.std.specs.Result.{OnOk}
use Rattle.gixp_planner.specs.Text.{id_shown}
use Rattle.gixp_planner.proofs.PrintLemmas.{mapping-pieces}
use Rattle.gixp_planner.proofs.print.append_mapping.Goals as goal

pub returns-in-Some : goal.returns-in-Some
returns-in-Some c =
    subst (λ t. OnOk c.append.result (c.append.new.text.items ≡ c.args.text.now.items ++ t))
    (mapping-pieces c.args.mapping.now c.to_hex.result c.remote_name-name.result.now c.local_name-local.result.now
    (c.to_hex.ensures ∙ ap id_shown c.in-Some.ensures) c.remote_name-name.ensures c.local_name-local.ensures) c.append.ensures.all

pub returns-in-None : goal.returns-in-None
returns-in-None c =
    subst (λ t. OnOk c.append-in-None.result (c.append-in-None.new.text.items ≡ c.args.text.now.items ++ t))
    (mapping-pieces c.args.mapping.now _ c.remote_name-name.result.now c.local_name-local.result.now
    (ap id_shown c.in-None.ensures) c.remote_name-name.ensures c.local_name-local.ensures) c.append-in-None.ensures.all
