-- From ℤ to ℕ: an i64 by its sign, the machine's reading of its bits, and `in_i64`. Assumes nothing.
use Rattle.std.proofs.Common.{◌≡◌, ℕ, zero, suc, ◌^◌, ◌<◌, ◌≤◌, Bool, true, false, ℤ, pos, negsuc, ◌-ℤ◌, neg_ℤ, sym, refl, ap, ◌∙◌}
use Rattle.std.specs.Prelude.{Option, Some, None, Result, SomeIff, MatchOption}
use Rattle.units.specs.declared.Fixed.{Fixed}
use Rattle.units.specs.declared.refusal.Refusal.{Refusal}
use Rattle.std.proofs.Common.{subst, true≢false, zero-le, arith, w64, SFits, to_z, of_z, le-ltb, lt-ltb, le-leb}
use native.Mathlib.Decide.{dec_le}
use lib.Signed.{mag, le_z}
use mir.ValLaws.{to_z-of_z}
use Rattle.units.specs.Outcome.{given, refused}
use Rattle.units.specs.Units.{in_i64, length_outcome}

-- ---- what the test `z >= 0` says, of z itself and not of its bits
pub tested : (z : ℤ) {b : Bool} → SFits w64 z → le_z (pos 0) (to_z w64 (of_z w64 z)) ≡ b → le_z (pos 0) z ≡ b
tested z {b} s e = subst (λ (y : ℤ). le_z (pos 0) y ≡ b) (to_z-of_z w64 z s) e

pub not_neg : (n : ℕ) → le_z (pos 0) (pos n) ≡ false → ⊥
not_neg n e = true≢false (sym (lt_ltb_zero n) ∙ e)
  where
    lt_ltb_zero : (n : ℕ) → le_z (pos 0) (pos n) ≡ true
    lt_ltb_zero zero = refl
    lt_ltb_zero (suc n) = le-leb 0 (suc n) zero-le

-- ---- `in_i64`
pub inside : (z : ℤ) → mag z < 2 ^ 63 → in_i64 z ≡ given z
unfolding in_i64
inside z h = simp (lt-ltb (mag z) (2 ^ 63) h)

pub outside : (z : ℤ) → 2 ^ 63 ≤ mag z → in_i64 z ≡ refused 10
unfolding in_i64
outside z h = simp (le-ltb (mag z) (2 ^ 63) h)

-- what the library answers of a number that may be no i64, and the length that is made of it
pub chosen : (z : ℤ) (r : Option ℤ) (l : Result Fixed Refusal) → SomeIff r (SFits w64 z) z
    → MatchOption r (length_outcome l ≡ refused 10) (λ n. length_outcome l ≡ given n) → length_outcome l ≡ in_i64 z
chosen z (Some x) l s m = m ∙ ap given s.1 ∙ sym (inside z s.0.sfits)
chosen z None l s m = m ∙ sym (outside z (by (dec_le (2 ^ 63) (mag z))))
  where
    by : Dec (2 ^ 63 ≤ mag z) → 2 ^ 63 ≤ mag z
    by (yes h) = h
    by (no h) = absurd (s (record { sfits = omega arith }))

-- ---- a number by its sign
pub of_none : (n : ℕ) → pos 0 -ℤ pos n ≡ neg_ℤ (pos n)
of_none zero = refl
of_none (suc n) = simp (lt-ltb 0 (suc n) (omega arith)) (ap negsuc (omega arith))

pub mag_large : (n : ℕ) → 2 ^ 63 < n → 2 ^ 63 ≤ mag (neg_ℤ (pos n))
mag_large zero h = omega arith
mag_large (suc k) h = omega arith
