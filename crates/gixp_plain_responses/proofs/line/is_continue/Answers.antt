use Rattle.std.proofs.Common.{◌≡◌, ◌∙◌, nat_lt, true, false, nat_eq, ap, sym, length}
use Rattle.std.specs.Prelude.{codes}
use Rattle.std.specs.List.{starts_with}
use Rattle.std.proofs.lemmas.List.{take_rest}
use Rattle.gixp_plain_responses.specs.Acknowledgement.{is_continue_status}
use Rattle.gixp_plain_responses.proofs.GivenLemmas.{not_less}
use Rattle.gixp_plain_responses.proofs.line.is_continue.Goals as goal

pub returns-then-starts_with : goal.returns-then-starts_with
returns-then-starts_with c =
    let line = c.args.line.now in
    let t : nat_lt (length line) 44 ≡ false = not_less (length line) 44 c.if-line-lt44.false in
    let a : starts_with nat_eq line (codes "ACK ") ≡ true = sym c.starts_with.ensures.value ∙ c.if-starts_with.true in
    rw (t, a) (c.is_status.ensures ∙ ap is_continue_status (take_rest line 44))
