use Rattle.std.proofs.Common.{◌==◌, rules, tests}
use Rattle.std.proofs.lemmas.List.{map-id}
use Rattle.std.proofs.lemmas.Iterator.{YieldsList-from_map_by}
use Rattle.std.proofs.lemmas.Iterator.Consumers.{map_from_collect}
use Rattle.std.proofs.lemmas.Iterator.Splits.{YieldsList-from_slice_split}
use Rattle.bstr.specs.BStr.{bstr_bytes}
use Rattle.gixp_utils.specs.Lines.{line_words}
use Rattle.gixp_utils.proofs.lines.line_words.Goals as goal

pub returns : goal.returns
returns c =
    rw (← map-id (line_words c.args.line.now))
    (map_from_collect _ c.collect.ensures.ran
    (YieldsList-from_map_by _ (λ x. bstr_bytes x) (λ x. x)
    (YieldsList-from_slice_split _ (λ b. b == 32) c.args.line.now (cc) (cc) (cc) (λ x r q k. search (rules, tests)))
    c.map.ensures.closure (λ x r q k. search rules)))
