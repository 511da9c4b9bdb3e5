use Rattle.std.proofs.Common.{ap}
use Rattle.std.specs.Option.{option_map}
use Rattle.gixp_plain_responses.specs.declared.place.Next.TheVariants.{Pack}
use Rattle.gixp_plain_responses.specs.Translation.{given}
use Rattle.gixp_plain_responses.proofs.place.PlainResponses.end_content.Goals as goal

pub returns-clause-bytes : goal.returns-clause-bytes
returns-clause-bytes g c = ap (λ h. option_map (given Pack h) (g.R.Read.remaining c.args.self.now.reader)) c.write_band.ensures.text
