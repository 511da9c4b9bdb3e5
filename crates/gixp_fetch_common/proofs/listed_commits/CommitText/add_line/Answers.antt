-- A line that is none of a commit.
use Rattle.std.proofs.Common.{◌∙◌, ap}
use Rattle.gixp_utils.specs.Lines.{text_lines}
use Rattle.gixp_fetch_common.proofs.ListedLemmas.{unread_one}
use Rattle.gixp_fetch_common.proofs.listed_commits.CommitText.add_line.Goals as goal

pub returns-in-Err-Line-clause-none : goal.returns-in-Err-Line-clause-none
returns-in-Err-Line-clause-none g c one =
    let fills = rw c.in-Err-Line.field-0-is at c.in-Err-Line.ensures in
    unread_one c.read_commits.new.self (text_lines c.deref.result.now) _ c.in-Err-Line.field-0-0 (ap text_lines c.deref.ensures.value ∙ one)
    fills.0 fills.2
