use Rattle.gixp_requests.proofs.fetch.arguments.Arguments.deepen_not.Goals as goal

pub returns : goal.returns
returns c = rw c.as_bytes.ensures at c.push_joined.ensures
