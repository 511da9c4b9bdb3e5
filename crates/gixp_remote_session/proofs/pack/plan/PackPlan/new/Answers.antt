-- Each field of the plan, by the call that made it.
use Rattle.std.proofs.Common.{◌≡◌, ◌∙◌, ◌++◌, ap, map, codes, Some, List, ℕ, string_bytes, Bor}
use Rattle.std.specs.Option.{option_map}
use Rattle.bstr.specs.Owned.{bstring_bytes}
use Rattle.gixp_remote_rules.specs.HelperOptions.{options_value}
use Rattle.gixp_remote_rules.specs.Argv.{index_argv, object_variables}
use Rattle.gixp_remote_session.specs.Packs.{pack_folder, pack_boundary}
use Rattle.gixp_remote_session.proofs.pack.plan.PackPlan.new.Goals as goal

pub returns-clause-plan : goal.returns-clause-plan
returns-clause-plan c =
    let objects = string_bytes c.args.paths.now.objects in
    let name = c.args.name.now in
    let folder : string_bytes c.in_ok-folder.folder ≡ pack_folder objects name =
    c.in_ok-folder.ensures
    ∙ (ap (λ o. pack_folder o c.in_ok-utf8.utf8.now) c.as_str.ensures.value ∙ ap (λ r. pack_folder objects r) c.in_ok-utf8.ensures)
    in
    let shallow : string_bytes c.in_ok-shallow.shallow ≡ pack_boundary objects name =
    c.in_ok-shallow.ensures ∙ ap (λ p. p ++ codes "/shallow") (c.as_str-2.ensures.value ∙ folder)
    in
    let options = options_value c.args.options.now in
    let checks = map bstring_bytes c.args.rules.checks.now in
    let more = option_map {T = Bor (List ℕ)} {U = List ℕ} (λ m. m.now) c.bytes_of.result in
    record {
      folder = folder;
      shallow = shallow;
      argv = c.in_ok-argv.ensures;
      bounded =
          c.in_ok-boundary_argv.ensures
          ∙ ap (λ p. index_argv name (Some p) options checks) (c.as_bytes.ensures.value ∙ shallow);
      more = more;
      variables =
          c.in_ok-variables.ensures
          ∙ (ap (λ p. object_variables p c.as_bytes-3.result.now more) (c.as_bytes-2.ensures.value ∙ folder)
          ∙ ap (λ o. object_variables (pack_folder objects name) o more) c.as_bytes-3.ensures.value);
    }
