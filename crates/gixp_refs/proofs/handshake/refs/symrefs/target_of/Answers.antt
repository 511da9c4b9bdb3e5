use Rattle.std.proofs.Common.{ap, ◌∙◌}
use Rattle.std.specs.Option.{option_map}
use Rattle.bstr.specs.Owned.{bstring_bytes}
use Rattle.bstr.specs.declared.bstring.BString.{BString}
use Rattle.std.specs.Prelude.{Option}
use Rattle.gixp_refs.proofs.TableLemmas.{lookup_tells, found_target, found_none, copied_bytes}
use Rattle.gixp_refs.proofs.handshake.refs.symrefs.target_of.Goals as goal

pub returns-in-Some : goal.returns-in-Some
returns-in-Some c =
    copied_bytes c.as_ref.result ∙ ap (option_map bstring_bytes) c.as_ref.ensures.value
    ∙ found_target _ _ (ap (option_map (λ (t : Option BString). option_map bstring_bytes t)) c.in-Some.ensures.value
    ∙ lookup_tells c.args.targets.now.entries c.args.name.now)

pub returns-in-None : goal.returns-in-None
returns-in-None c =
    found_none _ (ap (option_map (λ (t : Option BString). option_map bstring_bytes t)) c.in-None.ensures.value
    ∙ lookup_tells c.args.targets.now.entries c.args.name.now)
