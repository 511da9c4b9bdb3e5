use Rattle.std.proofs.Common.{◌<◌, [], length, map, ap, sym, ◌∙◌, arith}
use Rattle.std.proofs.lemmas.Grind.{common_steps}
use Rattle.gixp_fetch_cli.proofs.OptionLemmas.{two_words, three_words}
use Rattle.gixp_fetch_cli.proofs.options.work_of.Goals as goal

pub returns-then-lists-clause-ok : goal.returns-then-lists-clause-ok
returns-then-lists-clause-ok c =
    let files = two_words (λ w. w.now) c.as_slice.result.now (record { ref_ptr = (0, 0); now = [] })
    c.in-len2.len_at_least c.in-len2.len_below in
    (cc, ap (map (λ w. w.now)) (sym c.as_slice.ensures.value) ∙ files, cc)

pub returns-in_ok-fetch_args-in-len3-up-clause-ok : goal.returns-in_ok-fetch_args-in-len3-up-clause-ok
returns-in_ok-fetch_args-in-len3-up-clause-ok c =
    let words = three_words (λ w. w.now) c.as_slice.result.now (record { ref_ptr = (0, 0); now = [] }) c.in-len3-up.len_at_least in
    let all = ap (map (λ w. w.now)) (sym c.as_slice.ensures.value) ∙ words in
    let pack = c.in_ok-fetch_args-in-len3-up.ensures.pack in
    let specs = c.in_ok-fetch_args-in-len3-up.ensures.specs in
    let count = ap length specs in
    let some : 0 < length c.in_ok-fetch_args-in-len3-up.fetch_args.specs.items =
    first_of (grind (arith, common_steps, count, c.is_empty.ensures), omega (arith, count)) in
    (cc, cc, (first_of (cc (all, pack, specs), grind (arith, common_steps, all, pack, specs)), some), c.in_ok-fetch_args-in-len3-up.ensures.fetch_args)
