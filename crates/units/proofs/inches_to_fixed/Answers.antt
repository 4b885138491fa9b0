-- `inches_to_fixed`: each float constant is the definition's number, and what each test says of the product is a law of `Nearest`.
use Rattle.std.proofs.Common.{◌≡◌, ℕ, ◌+◌, ◌-◌, ◌/◌, ◌%◌, ◌^◌, ◌<◌, ◌≤◌, min, true, false, T, ℤ, pos, sym, ap, ◌∙◌, arith, w64, SFits, to_z, of_z}
use Rattle.std.specs.Prelude.{Result, Ok, Err, OkIff}
use Rattle.std.specs.Result.{result_unwrap_or}
use native.Mathlib.Decide.{dec_le}
use lib.Ieee.{Float, fin, binary64, mul, lt, fits, neg, of_bits, of_int, to_unsigned}
use lib.Ieee.Fits.{mul-fits}
use mir.ValLaws.{to_z_pos}
use Rattle.units.specs.Outcome.{given}
use Rattle.units.specs.Units.{inches_to_fixed, nearest_units}
use Rattle.units.proofs.Constants.{ninety_six, thousand}
use Rattle.units.proofs.Nearest.{minus_half, top, two, from_halves, halved, given_top, refused_high, refused_low}
use Rattle.units.proofs.inches_to_fixed.Goals as goal

-- the product, as the code has it
raw : Float → Float
raw x = mul binary64 (mul binary64 x (of_bits binary64 4636455816377925632)) (of_bits binary64 4652218415073722368)

raw_fits : (x : Float) → T (fits binary64 (raw x))
unfolding raw
raw_fits x = mul-fits binary64 (mul binary64 x (of_bits binary64 4636455816377925632)) (of_bits binary64 4652218415073722368)

raw_is : (x : Float) → nearest_units (raw x) ≡ inches_to_fixed x
unfolding raw inches_to_fixed
raw_is x =
    ap (λ (c : Float). nearest_units (mul binary64 (mul binary64 x c) (of_bits binary64 4652218415073722368))) ninety_six
    ∙ ap (λ (d : Float). nearest_units (mul binary64 (mul binary64 x (of_int binary64 (pos 96))) d)) thousand

-- where the two tests hold: the double is within u64, and its whole part gives the units
within : (x : Float) → lt minus_half (raw x) ≡ true → lt (raw x) top ≡ true → T (lt (fin true 1 (pos 0)) (mul binary64 (raw x) two)) × T
    (lt (mul binary64 (raw x) two) (fin false 1 (pos 64))) × (from_halves (to_unsigned 64 (mul binary64 (raw x) two)) ≡ inches_to_fixed x)
within x t r =
    let k = halved (raw x) (raw_fits x) t r in
    (k.0, k.1, k.2 ∙ raw_is x)

units_of : (x : Float) (u : ℕ) → lt minus_half (raw x) ≡ true → lt (raw x) top ≡ true → u ≡ to_unsigned 64 (mul binary64 (raw x) two)
    → from_halves u ≡ inches_to_fixed x
units_of x u t r e = ap from_halves e ∙ (within x t r).2

-- a number that may be no i64, or the largest one
capped : {E : Type 0} (n : ℕ) (r : Result ℤ E) → OkIff r (SFits w64 (pos n)) (pos n) → result_unwrap_or r (pos (2 ^ 63 - 1)) ≡ pos (min n (2 ^ 63 - 1))
capped n (Ok z) h =
    let l : n < 2 ^ 63 = h.0.sfits in
    let e : n ≡ min n (2 ^ 63 - 1) = omega arith in
    h.1 ∙ ap pos e
capped n (Err e) h = by (dec_le (2 ^ 63) n)
  where
    by : Dec (2 ^ 63 ≤ n) → pos (2 ^ 63 - 1) ≡ pos (min n (2 ^ 63 - 1))
    by (yes l) = let e : 2 ^ 63 - 1 ≡ min n (2 ^ 63 - 1) = omega arith in ap pos e
    by (no l) = absurd (h (record { sfits = omega arith }))

pub truncating_f64_to_u64-halves-requires-clause-lower_bound :
    goal.truncating_f64_to_u64-halves-requires-clause-lower_bound
unfolding raw of_bits neg
truncating_f64_to_u64-halves-requires-clause-lower_bound c = (within c.args.inches c.if-raw.true c.if-raw-2.true).0

pub truncating_f64_to_u64-halves-requires-clause-upper_bound :
    goal.truncating_f64_to_u64-halves-requires-clause-upper_bound
unfolding raw of_bits neg
truncating_f64_to_u64-halves-requires-clause-upper_bound c = (within c.args.inches c.if-raw.true c.if-raw-2.true).1

pub returns-then-raw-2 : goal.returns-then-raw-2
unfolding raw of_bits neg
returns-then-raw-2 c =
    let u = c.truncating_f64_to_u64-halves.result in
    let n = u / 2 + u % 2 in
    ap (λ (z : ℤ). given (to_z w64 (of_z w64 z))) (c.unwrap_or.ensures ∙ capped n c.try_from.result c.try_from.ensures)
    ∙ ap given (to_z_pos w64 (min n (2 ^ 63 - 1)) (omega arith))
    ∙ units_of c.args.inches u c.if-raw.true c.if-raw-2.true c.truncating_f64_to_u64-halves.ensures

pub returns-then-raw-3 : goal.returns-then-raw-3
unfolding raw of_bits neg
returns-then-raw-3 c =
    let x = c.args.inches in
    sym (given_top (raw x) c.if-raw.true c.if-raw-3.true) ∙ raw_is x

pub returns-else-raw-3 : goal.returns-else-raw-3
unfolding raw of_bits
returns-else-raw-3 c =
    let x = c.args.inches in
    sym (refused_high (raw x) (raw_fits x) c.if-raw-2.false c.if-raw-3.false) ∙ raw_is x

pub returns-else-raw : goal.returns-else-raw
unfolding raw of_bits neg
returns-else-raw c =
    let x = c.args.inches in
    sym (refused_low (raw x) c.if-raw.false) ∙ raw_is x
