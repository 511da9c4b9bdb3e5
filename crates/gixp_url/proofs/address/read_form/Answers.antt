use Rattle.std.proofs.Common.{subst, sym}
use Rattle.gixp_url.specs.Url.{ReturnsAddress, address_of_form, form_value}
use Rattle.gixp_url.proofs.address.read_form.Goals as goal

pub returns-in-Url : goal.returns-in-Url
returns-in-Url c = subst (λ f. ReturnsAddress (address_of_form (form_value f)) c.remote_url.result) (sym c.in-Url.is) c.remote_url.ensures
