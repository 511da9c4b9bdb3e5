use Rattle.std.proofs.Common.{◌++◌, ◌∙◌, ap, sym, arith, drop}
use Rattle.std.proofs.lemmas.List.{take_rest}
use Rattle.gixp_plain_requests.proofs.AdvertisementLemmas.{lacks_is, names_are}
use Rattle.gixp_plain_requests.proofs.advertisement.with_names.Goals as goal

pub returns-clause-missing : goal.returns-clause-missing
returns-clause-missing c = c.in_ok-missing.ensures.missing ∙ sym (lacks_is c.args.bytes.now c.line_size-size.result c.line_size-size.ensures.size
    (omega (arith, c.if-bytes-size.false)) (omega (arith, c.if-size-le4.false)))

pub returns-clause-text : goal.returns-clause-text
returns-clause-text c = c.in_ok-extend_from_slice.ensures.items
    ∙ ap (λ xs. c.in_ok-missing.all.items ++ xs) (take_rest c.args.bytes.now c.line_size-size.result)
    ∙ ap (λ xs. xs ++ drop c.line_size-size.result c.args.bytes.now) c.in_ok-missing.ensures.text
    ∙ names_are c.args.bytes.now c.line_size-size.result c.line_size-size.ensures.size (omega (arith, c.if-bytes-size.false))
    (omega (arith, c.if-size-le4.false))
