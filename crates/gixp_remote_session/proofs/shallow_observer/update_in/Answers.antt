use Rattle.std.proofs.Common.{◌≡◌, true, false, rules}
use Rattle.std.proofs.lemmas.Str.{is_utf8-from_IsUtf8}
use Rattle.std.specs.Str.{is_utf8}
use Rattle.gix_protocol.specs.AnswerLine.{shallow_update_line}
use Rattle.gixp_remote_session.specs.ShallowLines.{begins_update}
use Rattle.gixp_remote_session.proofs.ShallowLineLemmas.{begun_update, no_text}
use Rattle.gixp_remote_session.proofs.shallow_observer.update_in.Goals as goal

pub returns-in-Ok : goal.returns-in-Ok
returns-in-Ok c =
    let begins : begins_update c.args.line.now ≡ true = search rules in
    let utf8 : is_utf8 c.args.line.now ≡ true = is_utf8-from_IsUtf8 _ c.in-Ok.ensures.cases.1 in
    let found : c.read_update.result ≡ shallow_update_line c.args.line.now = search rules in
    begun_update _ _ _ _ begins utf8 found

pub returns-in-Err : goal.returns-in-Err
unfolding is_utf8
returns-in-Err c =
    let utf8 : is_utf8 c.args.line.now ≡ false = search rules in
    no_text _ _ _ utf8
