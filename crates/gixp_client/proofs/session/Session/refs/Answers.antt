use Rattle.std.proofs.Common.{refl, ap}
use Rattle.gixp_client.specs.ClientNames.{named_by}
use Rattle.gixp_client.proofs.MapLemmas.{gives_by, some_is_not_none}
use Rattle.gixp_client.proofs.session.Session.refs.Goals as goal

pub returns-in-Some-clause-given : goal.returns-in-Some-clause-given
returns-in-Some-clause-given g c = gives_by (named_by c.args.self.now.name) c.args.self.now.shaken
    g.T.ExtendedBufRead.is_plain (g.T.ExtendedBufRead.reading c.args.self.now.transport.inner) _ _ c.in-Some.refs _ _ refl
    (λ v e. ap (λ s. s.shaken) (c.in-Ok.ensures.here (some_is_not_none _ v e)).1)
    c.in-Ok.ensures.listed c.in-Some.is c.deref.ensures.value

pub returns-in-Err-clause-refused : goal.returns-in-Err-clause-refused
returns-in-Err-clause-refused g c = (_, c.in-Err.ensures.refused)
