-- `float` is `f64_of`: a NaN pattern gives the one NaN, and any other is what the bits stand for.
use mathlib.Core.Path.{refl}
use lib.Ieee.{of_bits, of_fields, div, odd}
use Rattle.job_records.specs.LittleEndian.{f64_of}
use Rattle.job_records.proofs.NumberLaws.{nan_pattern}
use Rattle.job_records.proofs.little_endian.float.Goals as goal
use Rattle.std.proofs.lemmas.Float.{not_nan_f64_bits}

pub float_from_bits-result : goal.float_from_bits-result
float_from_bits-result c = not_nan_f64_bits c.args.bits c.if-bits-gt-INFINITY.false

pub returns-then-bits-gt-INFINITY : goal.returns-then-bits-gt-INFINITY
unfolding of_bits of_fields div odd
returns-then-bits-gt-INFINITY c = nan_pattern c.args.bits c.if-bits-gt-INFINITY.true

pub returns-else-bits-gt-INFINITY : goal.returns-else-bits-gt-INFINITY
unfolding f64_of
returns-else-bits-gt-INFINITY c = refl
