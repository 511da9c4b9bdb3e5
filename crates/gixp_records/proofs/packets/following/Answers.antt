use Rattle.gixp_records.proofs.SpanLemmas.{drop-text_at}
use Rattle.gixp_records.proofs.packets.following.Goals as goal

pub returns-clause-text : goal.returns-clause-text
returns-clause-text c = drop-text_at c.args.bytes.now c.args.span.at c.args.span.len c.args.amount c.requires.amount
