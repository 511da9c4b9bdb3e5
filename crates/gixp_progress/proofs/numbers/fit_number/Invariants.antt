-- The number so far, and the digits to come.
use Rattle.std.proofs.Common.{◌≡◌, ◌<◌, drop}
use Rattle.gixp_progress.specs.Numbers.{number_after}
use Rattle.gixp_progress.proofs.numbers.fit_number.Given as goal

abbrev pub invariant-digits : goal.invariant-digits
invariant-digits l = (number_after 0 l.fn.run ≡ number_after l.number (drop l.digit-index l.run)) × (l.number < 18446744073709551616)
