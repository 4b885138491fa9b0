-- Document 01, section "Units", in ℤ, ℕ and the logic's account of IEEE 754. Assumes nothing.
use Rattle.std.specs.Prelude.{ℕ, suc, ◌+◌, ◌-◌, ◌*◌, ◌/◌, ◌^◌, min, Bool, cond, not, ◌&&◌, ◌||◌, ℤ, pos, negsuc, ◌-ℤ◌, ◌*ℤ◌, neg_ℤ, ◌==◌, int_div, int_le}
use Rattle.std.specs.Prelude.{nat_lt, Float, Result, Ok, Err}
use Rattle.std.specs.Int.Signed.{mag}
use Rattle.std.specs.Float.{nan, inf, fin, binary64}
use Rattle.std.specs.Float.Ieee.{up, down, mul, of_int}
use Rattle.units.specs.declared.Fixed.{Fixed}
use Rattle.units.specs.declared.refusal.Refusal.{Refusal}
use Rattle.units.specs.Outcome.{Outcome, given, refused, and_then}
use Rattle.units.specs.Refusals.{number_of}

-- ---- answers

-- the units or the number that an answer of a length stands for
abbrev pub length_outcome : Result Fixed Refusal → Outcome ℤ
length_outcome (Ok f) = given f.0
length_outcome (Err r) = refused (number_of r)

-- ---- numbers

-- "Arithmetic above within i64?": z, or the refusal 10. (`mag` is n both of n and of -(n + 1).)
unfoldable pub in_i64 : ℤ → Outcome ℤ
in_i64 z = cond (nat_lt (mag z) (2 ^ 63)) (given z) (refused 10)

-- a / b to the nearest whole number, halves up
abbrev pub half_up : ℕ → ℕ → ℕ
half_up a b = (2 * a + b) / (2 * b)

-- z / b to the nearest whole number, "halves away from zero"
abbrev pub half_away : ℤ → ℕ → ℤ
half_away (pos n) b = pos (half_up n b)
half_away (negsuc n) b = neg_ℤ (pos (half_up (suc n) b))

-- (|z| × k + h) / d, cut to a whole number, with the sign of z
abbrev pub signed_ratio : ℤ → ℕ → ℕ → ℕ → ℤ
signed_ratio (pos n) k h d = pos ((n * k + h) / d)
signed_ratio (negsuc n) k h d = neg_ℤ (pos ((suc n * k + h) / d))

-- a - b, within i64
abbrev pub less_of : Outcome ℤ → Outcome ℤ → Outcome ℤ
less_of a b = and_then a (λ (x : ℤ). and_then b (λ (y : ℤ). in_i64 (x -ℤ y)))

-- ---- "Scaled size: size × permille / 1,000, halves away from zero."
unfoldable pub scale_fixed : ℤ → ℕ → Outcome ℤ
unfolding in_i64
scale_fixed size permille = in_i64 (half_away (size *ℤ pos permille) 1000)

-- ---- "Capacity: side × 1,000 / permille, cut toward zero, less repeated titles, less headings; never under 1."

-- "Never under 1. An overflow in either subtraction gives 1, no refusal."
abbrev pub at_least_one : Outcome ℤ → ℤ
at_least_one (given z) = cond (int_le (pos 1) z) z (pos 1)
at_least_one (refused n) = pos 1

-- "Permille 0, or a quotient outside i64: 10."
unfoldable pub unscaled_capacity : ℤ → ℕ → ℤ → ℤ → Outcome ℤ
unfolding in_i64
unscaled_capacity side permille titles headings =
    cond (permille == 0) (refused 10)
    (and_then (in_i64 (int_div (side *ℤ pos 1000) (pos permille)))
    (λ (q : ℤ). given (at_least_one (less_of (less_of (given q) (given titles)) (given headings)))))

-- ---- "Inches times 96, times 1,024, each product rounded as f64, then rounded to the nearest whole, halves away from zero."

-- the whole number n with its sign: "below 0 or above 2^63 is refused with 10", minus zero gives 0, "exactly 2^63 gives the largest i64"
abbrev pub whole_units : Bool → ℕ → Outcome ℤ
whole_units negative n =
    cond ((negative && not (n == 0)) || nat_lt (2 ^ 63) n) (refused 10) (given (pos (min n (2 ^ 63 - 1))))

-- the product's nearest whole number; "NaN, infinity .. is refused with 10"
abbrev pub nearest_units : Float → Outcome ℤ
nearest_units nan = refused 10
nearest_units (inf s) = refused 10
nearest_units (fin s m e) = whole_units s (half_up (m * up e) (down e))

-- x × 96, rounded as f64
abbrev pub in_pixels : Float → Float
in_pixels x = mul binary64 x (of_int binary64 (pos 96))

-- "Inches times 96, times 1,024, each product rounded as f64, then rounded to the nearest whole"
unfoldable pub inches_to_fixed : Float → Outcome ℤ
inches_to_fixed inches = nearest_units (mul binary64 (in_pixels inches) (of_int binary64 (pos 1024)))
