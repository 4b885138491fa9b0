-- The default margins are, in units, the code's constants: computed. Assumes nothing.
use Rattle.std.proofs.Common.{◌≡◌, pos, refl}
use lib.Ieee.{mul, of_int, round}
use Rattle.units.specs.Outcome.{given}
use Rattle.units.specs.Units.{inches_to_fixed}
use Rattle.geometry.specs.Paper.{decimal}

pub default_side : inches_to_fixed (decimal 7 10) ≡ given (pos 68813)
unfolding inches_to_fixed mul of_int round
default_side = refl

pub default_end : inches_to_fixed (decimal 75 100) ≡ given (pos 73728)
unfolding inches_to_fixed mul of_int round
default_end = refl

pub default_line : inches_to_fixed (decimal 3 10) ≡ given (pos 29491)
unfolding inches_to_fixed mul of_int round
default_line = refl
