-- The float constants of the code, by their bit patterns, are the definitions' numbers, and no length is 0 units. Assumes nothing.
use Rattle.std.proofs.Common.{◌≡◌, pos, refl}
use lib.Ieee.{of_bits, of_int, binary64}
use Rattle.units.specs.declared.TheConstants.Fixed.{ZERO}

pub ninety_six : of_bits binary64 4636455816377925632 ≡ of_int binary64 (pos 96)
unfolding of_bits of_int
ninety_six = refl

pub thousand : of_bits binary64 4652218415073722368 ≡ of_int binary64 (pos 1024)
unfolding of_bits of_int
thousand = refl

-- `Fixed::ZERO`, which no contract of this crate reads
pub zero_is : ZERO.0 ≡ pos 0
zero_is = refl
