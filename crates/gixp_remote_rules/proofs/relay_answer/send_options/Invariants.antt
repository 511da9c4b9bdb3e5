-- The options that were sent, and the replies.
use Rattle.std.proofs.Common.{flat_map, take}
use Rattle.std.specs.Io.KnownBytes.{Appends}
use Rattle.bstr.specs.Owned.{bstring_bytes}
use Rattle.gixp_remote_rules.specs.RelayAnswer.{RepliesAll}
use Rattle.gixp_remote_rules.proofs.relay_answer.send_options.Given as goal

abbrev pub invariant-options : goal.invariant-options
invariant-options g l = record {
  sent : Appends (g.W.Write.contents l.fn.to) (g.W.Write.contents l.to) (flat_map bstring_bytes (take l.option-index l.options));
  replied : RepliesAll l.option-index (g.R.Read.remaining l.fn.from) (g.R.Read.remaining l.from);
}
