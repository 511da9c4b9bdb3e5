use Rattle.std.proofs.Common.{arith}
use Rattle.gixp_plain_requests.proofs.AdvertisementLemmas.{reads_on, no_range}
use Rattle.gixp_plain_requests.proofs.named.NamedCapabilities.pass_on.Goals as goal

pub returns-clause-bytes : goal.returns-clause-bytes
returns-clause-bytes g c =
    let s = c.args.self.now in
    rw c.requires.named (reads_on (g.R.Read.remaining s.reader) (g.R.Read.remaining c.read.new.self) c.read.result _ _
    (no_range s.room.items s.start s.end (omega (arith, c.if-self.false))) c.read.ensures.bytes)
