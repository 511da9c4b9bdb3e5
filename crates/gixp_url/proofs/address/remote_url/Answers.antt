-- The text is the decoded rest.
use Rattle.std.proofs.Common.{subst, ◌∙◌}
use Rattle.gixp_url.specs.Url.{ReturnsAddress, remote_address}
use Rattle.gixp_url.proofs.address.remote_url.Goals as goal

pub returns : goal.returns
returns c =
    subst (λ x. ReturnsAddress (remote_address c.args.scheme x 47) c.remote_address.result)
    (c.deref.ensures.value ∙ c.in_ok-text.ensures) c.remote_address.ensures
