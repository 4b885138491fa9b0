-- `usable` returns whether a float is finite and at least 0: an infinity is none, and a NaN is not at least 0.
use Rattle.std.proofs.Common.{◌≡◌, true, false, pos, refl, sym, ◌∙◌}
use Rattle.std.specs.Float.{float_is_finite}
use lib.Ieee.{Float, nan, inf, fin, le, lt, eq, of_bits}
use Rattle.geometry.specs.Paper.{usable}
use Rattle.geometry.proofs.paper.usable.Goals as goal

low : (x : Float) → le (fin false 0 (pos 0)) x ≡ false → false ≡ usable x
unfolding le lt eq float_is_finite
low nan e = refl
low (inf s) e = refl
low (fin s m k) e = sym e

not_low : (x : Float) → le (fin false 0 (pos 0)) x ≡ true → float_is_finite x ≡ usable x
unfolding le lt eq float_is_finite
not_low nan e = refl
not_low (inf s) e = refl
not_low (fin s m k) e = sym e

pub returns-then-inches : goal.returns-then-inches
unfolding of_bits
returns-then-inches c = c.is_finite.ensures.value ∙ not_low c.args.inches c.if-inches.true

pub returns-else-inches : goal.returns-else-inches
unfolding of_bits
returns-else-inches c = c.if-inches.false ∙ low c.args.inches c.if-inches.false
