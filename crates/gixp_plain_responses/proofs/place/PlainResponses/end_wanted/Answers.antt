use Rattle.std.proofs.Common.{◌≡◌, sym, subst}
use Rattle.std.specs.Option.{option_map}
use Rattle.std.specs.Prelude.{slice_range}
use Rattle.gixp_plain_responses.specs.Order.{offset_of, limit_of}
use Rattle.gixp_plain_responses.specs.Translation.{to_come, whole_from}
use Rattle.gixp_plain_responses.proofs.place.PlainResponses.end_wanted.Goals as goal

pub returns-in-Content-clause-bytes : goal.returns-in-Content-clause-bytes
returns-in-Content-clause-bytes g c =
    let s = c.args.self.now in
    subst (λ w. to_come g.R.Read.remaining c.end_content.new.self
    ≡ option_map (whole_from w (slice_range s.room.items (offset_of w) (limit_of w))) (g.R.Read.remaining s.reader))
    (sym c.in-Content.is) c.end_content.ensures.bytes
