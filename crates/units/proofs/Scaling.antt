-- `signed_ratio`, by the sign of the length, and that `scale_fixed` and the quotient in `unscaled_capacity` are such ratios. Assumes nothing.
use Rattle.std.proofs.Common.{◌≡◌, ℕ, zero, suc, ◌+◌, ◌*◌, ◌/◌, ◌^◌, ◌<◌, true, false, ℤ, pos, negsuc, ◌*ℤ◌, neg_ℤ, nat_abs, sym, refl, ap, ◌∙◌, true≢false}
use Rattle.std.proofs.Common.{add-zero, arith, ne_eqb}
use native.Mathlib.Nat.{zero-div}
use lib.Signed.{le_z, quot_z}
use Rattle.units.specs.Outcome.{Outcome, given, refused, and_then}
use Rattle.units.specs.Units.{in_i64, half_up, half_away, signed_ratio, scale_fixed, less_of, at_least_one, unscaled_capacity}
use Rattle.units.proofs.Signs.{not_neg, outside, mag_large}

-- a ratio with the sign of z
pub ratio_pos : (z : ℤ) (k h d n : ℕ) → le_z (pos 0) z ≡ true → n ≡ (nat_abs z * k + h) / d → in_i64 (pos n) ≡ in_i64 (signed_ratio z k h d)
ratio_pos (pos m) k h d n e q = ap (λ (x : ℕ). in_i64 (pos x)) q
ratio_pos (negsuc m) k h d n e q = absurd (true≢false (sym e))

pub ratio-neg : (z : ℤ) (k h d n : ℕ) → le_z (pos 0) z ≡ false → n ≡ (nat_abs z * k + h) / d → in_i64 (neg_ℤ (pos n)) ≡ in_i64 (signed_ratio z k h d)
ratio-neg (pos m) k h d n e q = absurd (not_neg m e)
ratio-neg (negsuc m) k h d n e q = ap (λ (x : ℕ). in_i64 (neg_ℤ (pos x))) q

-- a ratio that is no u64 is no i64
pub ratio_large : (z : ℤ) (k h d : ℕ) → ((nat_abs z * k + h) / d < 2 ^ 64 → ⊥) → refused 10 ≡ in_i64 (signed_ratio z k h d)
ratio_large (pos m) k h d n = sym (outside (signed_ratio (pos m) k h d) (omega arith))
ratio_large (negsuc m) k h d n = sym (outside (signed_ratio (negsuc m) k h d) (mag_large ((suc m * k + h) / d) (omega arith)))

halves : (x : ℕ) → (x + 500) / 1000 ≡ half_up x 1000
halves x = omega arith

away_neg : (x : ℕ) → neg_ℤ (pos (half_up x 1000)) ≡ half_away (neg_ℤ (pos x)) 1000
away_neg zero = refl
away_neg (suc x) = refl

-- half of the divisor added rounds halves away from zero
pub scaled : (z : ℤ) (p : ℕ) → in_i64 (signed_ratio z p 500 1000) ≡ scale_fixed z p
unfolding scale_fixed
scaled (pos m) p = ap (λ (x : ℕ). in_i64 (pos x)) (halves (m * p))
scaled (negsuc m) p = ap (λ (x : ℕ). in_i64 (neg_ℤ (pos x))) (halves (suc m * p)) ∙ ap in_i64 (away_neg (suc m * p))

quot_neg : (x p : ℕ) → neg_ℤ (pos (x / p)) ≡ quot_z (neg_ℤ (pos x)) (pos p)
quot_neg zero p = ap (λ (y : ℕ). neg_ℤ (pos y)) (zero-div p) ∙ ap pos (sym (zero-div p))
quot_neg (suc x) p = refl

-- nothing added cuts toward zero
quotient : (z : ℤ) (p : ℕ) → signed_ratio z 1000 0 p ≡ quot_z (z *ℤ pos 1000) (pos p)
quotient (pos m) p = ap (λ (x : ℕ). pos (x / p)) (add-zero (m * 1000))
quotient (negsuc m) p = ap (λ (x : ℕ). neg_ℤ (pos (x / p))) (add-zero (suc m * 1000)) ∙ quot_neg (suc m * 1000) p

-- the capacity, by the quotient's outcome
pub capacity_of : (side : ℤ) (p : ℕ) (t h : ℤ) (o : Outcome ℤ) → (p ≡ 0 → ⊥) → o ≡ in_i64 (signed_ratio side 1000 0 p)
    → and_then o (λ (q : ℤ). given (at_least_one (less_of (less_of (given q) (given t)) (given h)))) ≡ unscaled_capacity side p t h
unfolding unscaled_capacity
capacity_of side p t h o k e = rw (ne_eqb p 0 k, ← (e ∙ ap in_i64 (quotient side p)))
