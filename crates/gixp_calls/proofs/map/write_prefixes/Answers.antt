use Rattle.std.proofs.Common.{◌∙◌, refl, subst}
use Rattle.gixp_calls.specs.Exports.{WritesText, prefixes, no_prefixes}
use Rattle.gixp_calls.proofs.map.write_prefixes.Goals as goal

pub returns-in-Ok : goal.returns-in-Ok
returns-in-Ok c =
    prefixes c.in-Ok.ensures.0 c.in-Ok.ensures.1
    (subst (λ t. WritesText t c.args.buffer.now c.write_text.result c.write_text.new.buffer c.write_text.new.len)
    (c.as_slice.ensures.value ∙ c.in-Ok.ensures.2) c.write_text.ensures)

pub returns-in-Err : goal.returns-in-Err
returns-in-Err c = no_prefixes c.in-Err.e c.in-Err.ensures c.specs_code.ensures refl refl
