use Rattle.std.proofs.Common.{◌≡◌, arith}
use Rattle.std.proofs.lemmas.Grind.{common_steps}
use Rattle.gixp_plain_requests.specs.Request.{sent_want}
use Rattle.gixp_plain_requests.proofs.RequestLemmas.{want_length, want_long}
use Rattle.gixp_plain_requests.proofs.request.sent_want.Goals as goal

pub returns-clause-size : goal.returns-clause-size
returns-clause-size c =
    let line = c.args.line.now in
    let is : c.extend_from_slice.new.self.items ≡ sent_want c.args.missing line = grind (arith, common_steps) in
    rw is (want_length c.args.missing line (want_long line c.requires) (grind (arith, common_steps)))
