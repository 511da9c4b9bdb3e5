use Rattle.std.proofs.Common.{ap, ◌∙◌}
use Rattle.std.specs.Option.{option_map}
use Rattle.bstr.specs.Owned.{bstring_bytes}
use Rattle.bstr.specs.declared.bstring.BString.{BString}
use Rattle.std.specs.Prelude.{Option}
use Rattle.gixp_refs.proofs.TableLemmas.{lookup_tells, found_some}
use Rattle.gixp_refs.proofs.handshake.refs.symrefs.is_symref.Goals as goal

pub returns : goal.returns
returns c =
    c.is_some.ensures
    ∙ found_some c.get.result _ (ap (option_map (λ (t : Option BString). option_map bstring_bytes t)) c.get.ensures.value
    ∙ lookup_tells c.args.targets.now.entries c.args.name.now)
