-- Laws of `specs/LittleEndian.antt`, for `float`. Assumes nothing.
use mathlib.Core.Path.{◌≡◌, refl, sym, ◌∙◌}
use mathlib.Core.Bool.{true, true≢false}
use Prim.Native.Nat.{ℕ, ◌%◌, ◌<◌}
use lib.Ieee.{Float, nan, inf, fin, binary64, of_bits, is_nan}
use lib.Ieee.Bits.{nan_bits_is, nan_bits_above}
use borrow.Author.Tests.{lt-ltb}
use Rattle.job_records.specs.LittleEndian.{f64_of}

-- ---- NaN patterns

is_nan_lem : (x : Float) → is_nan x ≡ true → nan ≡ x
unfolding is_nan
is_nan_lem nan e = refl
is_nan_lem (inf s) e = absurd (true≢false (sym e))
is_nan_lem (fin s m e') e = absurd (true≢false (sym e))

pub nan_pattern : (n : ℕ) → 9218868437227405312 < n % 9223372036854775808 → nan ≡ f64_of n
unfolding f64_of
nan_pattern n h = is_nan_lem (of_bits binary64 n) (sym (nan_bits_is binary64 n) ∙ nan_bits_above binary64 n ∙ lt-ltb _ _ h)
