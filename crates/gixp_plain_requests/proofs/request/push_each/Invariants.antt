-- What is requested in place of the words so far was appended.
use Rattle.std.proofs.Common.{◌≡◌, ◌++◌, map, take}
use Rattle.bstr.specs.BStr.{bstr_bytes}
use Rattle.gixp_plain_requests.specs.Request.{after_blanks, all_sent_words}
use Rattle.gixp_plain_requests.proofs.request.push_each.Given as goal

abbrev pub invariant-loop-word : goal.invariant-loop-word
invariant-loop-word l = l.text.items ≡ l.fn.text.items ++ after_blanks (all_sent_words l.missing (map bstr_bytes (take l.word-index l.words)))
