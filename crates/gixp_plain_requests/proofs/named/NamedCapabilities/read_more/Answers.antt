use Rattle.std.proofs.Common.{take, drop}
use Rattle.std.specs.Prelude.{slice_range}
use Rattle.gixp_plain_requests.proofs.AdvertisementLemmas.{more_read, after_held}
use Rattle.gixp_plain_requests.proofs.named.NamedCapabilities.read_more.Goals as goal

pub returns-clause-bytes : goal.returns-clause-bytes
returns-clause-bytes g c =
    let s = c.args.self.now in
    let new = c.read_into.new.room.items in
    let n = c.in_ok-read.read in
    rw c.requires (more_read (g.R.Read.remaining s.reader) (g.R.Read.remaining c.read_into.new.reader)
    (slice_range s.room.items s.start s.end) (take n (drop s.end new)) _ c.in_ok-read.ensures.bytes.1
    (after_held s.room.items new s.start s.end n s.in_order.0 c.in_ok-read.ensures.front))
