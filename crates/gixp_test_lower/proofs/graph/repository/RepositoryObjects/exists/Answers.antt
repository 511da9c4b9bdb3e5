use Rattle.std.proofs.Common.{◌∙◌, sym}
use Rattle.gixp_test_lower.proofs.ListedLemmas.{key_listed}
use Rattle.gixp_test_lower.proofs.graph.repository.RepositoryObjects.exists.Goals as goal

pub returns : goal.returns
returns c = c.contains_key.ensures ∙ sym (key_listed c.args.self.now.commits.entries c.args.id.now)
