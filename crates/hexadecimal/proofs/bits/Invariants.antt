-- The digits that are left, read after the value so far, give the whole number.
use Rattle.std.proofs.Common.{◌≡◌, drop}
use Rattle.hexadecimal.specs.Hex.{number}
use Rattle.hexadecimal.proofs.bits.Given as goal

abbrev pub invariant-loop-byte : goal.invariant-loop-byte
invariant-loop-byte l = number l.value (drop l.byte-index l.digits) ≡ number 0 l.digits
