use Rattle.gixp_plain_requests.proofs.AdvertisementLemmas.{reads_later}
use Rattle.gixp_plain_requests.proofs.reader.NamedCapabilitiesRead.read.Goals as goal

pub returns-clause-bytes : goal.returns-clause-bytes
returns-clause-bytes g c = reads_later _ _ _ _ _ c.in_ok-add_names.ensures.bytes c.pass_on-2.ensures.bytes
