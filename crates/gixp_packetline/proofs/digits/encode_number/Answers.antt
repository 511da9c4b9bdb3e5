use Rattle.std.proofs.Common.{refl}
use Rattle.hex.specs.Hex.{encode_with}
use Rattle.gixp_packetline.proofs.digits.encode_number.Goals as goal

pub returns : goal.returns
unfolding encode_with
returns c = rw (c.digit_of.ensures, c.digit_of-2.ensures, c.digit_of-3.ensures, c.digit_of-4.ensures) refl
