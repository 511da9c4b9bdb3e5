use Rattle.std.proofs.Common.{◌≡◌, ◌<◌, ◌^◌, drop}
use Rattle.gixp_memory.specs.Repository.{digits_more}
use Rattle.gixp_memory.proofs.texts.digits.Given as goal

abbrev pub invariant-digits : goal.invariant-digits
invariant-digits l = record { read : digits_more 0 l.fn.word ≡ digits_more l.number (drop l.digit-index l.word); fits : l.number < 2 ^ 63 }
