-- `nearest_units` of a float, by the tests that the code makes: above -1/2, below 2^63, equal to 2^63. Assumes nothing.
use Rattle.std.proofs.Common.{◌≡◌, ℕ, suc, ◌+◌, ◌-◌, ◌*◌, ◌/◌, ◌%◌, ◌^◌, ◌<◌, ◌≤◌, min, true, false, T, eqb, ℤ, pos, negsuc, sym, refl, ap, ◌∙◌}
use Rattle.std.proofs.Common.{subst, true≢false, le_of_eq, lt_of_lt_of_le, lt_of_le_of_lt, mul-le-mul_right, mul_comm, div-lt_iff_lt-mul}
use Rattle.std.proofs.Common.{lt_of_mul-lt-mul_right, mul-lt-mul_of_pos_right, one-mul, le-div_iff_mul-le, mul_right_comm, mul-div_cancel, arith, lit≤}
use Rattle.std.proofs.Common.{lt→ltb, ltb-false, ltb-true, le-ltb, lt-ltb, ne_eqb, eqb-true}
use Rattle.std.proofs.lemmas.Bool.{and_parts}
use Rattle.std.proofs.Math.Bool.{and-true}
use native.Mathlib.Nat.{div-eq_of_lt, div-div-eq-div-mul, mul-add-div_right}
use lib.Ieee.{Float, nan, inf, fin, binary64, emax, up, down, mul, lt, eq, fits, to_unsigned}
use lib.Ieee.Fits.{down_pos}
use lib.Ieee.Exact.{HasValue}
use lib.Ieee.Nearest.{div_same}
use borrow.Author.Tests.{eqb-false}
use Rattle.units.specs.Outcome.{Outcome, given, refused}
use Rattle.units.specs.Units.{half_up, whole_units, nearest_units}
use Rattle.units.proofs.Doubling.{digits, doubled}
use Rattle.std.proofs.lemmas.Bool.{and_parts}
use mathlib.Core.Bool.{and-true}

-- ---- a / b to the nearest whole number, by a * 2 / b
halves : (a b : ℕ) → 0 < b → half_up a b ≡ a * 2 / b / 2 + a * 2 / b % 2
halves a b p =
    let e : 2 * a + b ≡ 1 * b + a * 2 = omega arith in
    let u = a * 2 / b in
    let g : (1 + u) / 2 ≡ u / 2 + u % 2 = omega arith in
    ap (λ (x : ℕ). (2 * a + b) / x) (mul_comm 2 b) ∙ sym (div-div-eq-div-mul (2 * a + b) b 2)
    ∙ ap (λ (x : ℕ). x / b / 2) e ∙ ap (λ (x : ℕ). x / 2) (mul-add-div_right p 1 (a * 2)) ∙ g

-- ---- the cases of `whole_units`
in_range : (n : ℕ) → n ≤ 2 ^ 63 → whole_units false n ≡ given (pos (min n (2 ^ 63 - 1)))
in_range n h = simp (le-ltb (2 ^ 63) n h)

above : (n : ℕ) → 2 ^ 63 < n → whole_units false n ≡ refused 10
above n h = simp (lt-ltb (2 ^ 63) n h)

under : (n : ℕ) → 0 < n → whole_units true n ≡ refused 10
under n h = let k : n ≡ 0 → ⊥ = none n h in simp (ne_eqb n 0 k)
  where
    none : (n : ℕ) → 0 < n → n ≡ 0 → ⊥
    none n h e = omega arith

-- ---- the numbers of the tests
abbrev pub minus_half : Float
minus_half = fin true 1 (negsuc 0)

abbrev pub top : Float
top = fin false 1 (pos 63)

abbrev pub two : Float
two = fin false 1 (pos 1)

-- ---- x is -1/2 or less, or a NaN
pub refused_low : (x : Float) → lt minus_half x ≡ false → nearest_units x ≡ refused 10
unfolding lt
refused_low nan e = refl
refused_low (inf s) e = refl
refused_low (fin true m e) t =
    let a = m * up e in
    let b = down e in
    let h : b ≤ a * 2 = omega (arith, ltb-false (a * 2) (1 * b) t, one-mul b) in
    let g : 1 * (2 * b) ≤ 2 * a + b = omega arith in
    under (half_up a b) ((le-div_iff_mul-le (pos2 b (down_pos e))).1 g)
  where
    pos2 : (b : ℕ) → 0 < b → 0 < 2 * b
    pos2 b h = omega arith
refused_low (fin false m e) t =
    absurd (none (1 * down e) (m * up e * 2) (subst (λ (z : ℕ). 0 < z) (sym (one-mul (down e))) (down_pos e)) (ltb-false 0 (1 * down e + m * up e * 2) t))
  where
    none : (x y : ℕ) → 0 < x → x + y ≤ 0 → ⊥
    none x y h k = omega arith

-- ---- x is 2^63
pub given_top : (x : Float) → lt minus_half x ≡ true → eq x top ≡ true → nearest_units x ≡ given (pos (2 ^ 63 - 1))
unfolding lt eq
given_top nan t q = absurd (true≢false (sym q))
given_top (inf s) t q = absurd (true≢false (sym q))
given_top (fin true m e) t q =
    absurd (none (m * up e) (down e) (down_pos e) (one-mul (down e)) (ltb-true (m * up e * 2) (1 * down e) t)
    (eqb-true (m * up e * 1) (2 ^ 63 * down e) (and_parts (eqb (m * up e * 1) (2 ^ 63 * down e)) (eqb (m * up e * 1) 0) q).0))
  where
    none : (a b : ℕ) → 0 < b → 1 * b ≡ b → a * 2 < 1 * b → a * 1 ≡ 2 ^ 63 * b → ⊥
    none a b p o h k = omega arith
given_top (fin false m e) t q =
    let a = m * up e in
    let b = down e in
    let k : a * 1 ≡ 2 ^ 63 * b = eqb-true (a * 1) (2 ^ 63 * b) (and_parts (eqb (a * 1) (2 ^ 63 * b)) true q).0 in
    let d : a * 2 ≡ 2 ^ 64 * b = omega arith in
    let u : a * 2 / b ≡ 2 ^ 64 = ap (λ (x : ℕ). x / b) d ∙ mul-div_cancel (2 ^ 64) (down_pos e) in
    ap (whole_units false) (halves a b (down_pos e) ∙ ap (λ (x : ℕ). x / 2 + x % 2) u)

-- ---- x is above 2^63: then it is a whole number
pub refused_high : (x : Float) → T (fits binary64 x) → lt x top ≡ false → eq x top ≡ false → nearest_units x ≡ refused 10
unfolding lt eq
refused_high nan f t q = refl
refused_high (inf s) f t q = refl
refused_high (fin true m e) f t q = absurd (none (m * up e) (down e) (down_pos e) (ltb-false 0 (m * up e * 1 + 2 ^ 63 * down e) t))
  where
    none : (a b : ℕ) → 0 < b → a * 1 + 2 ^ 63 * b ≤ 0 → ⊥
    none a b p h = omega arith
refused_high (fin false m (pos k)) f t q =
    let a = m * 2 ^ k in
    let h : 2 ^ 63 ≤ a * 1 = ltb-false (a * 1) (2 ^ 63) t in
    let n : a * 1 ≡ 2 ^ 63 → ⊥ = eqb-false (a * 1) (2 ^ 63) (sym (and-true (eqb (a * 1) (2 ^ 63))) ∙ q) in
    above (half_up a 1) (omega arith)
refused_high (fin false m (negsuc k)) f t q =
    absurd (none m (2 ^ suc k) (down_pos (negsuc k)) (digits binary64 false m (negsuc k) f) (ltb-false (m * 1 * 1) (2 ^ 63 * 2 ^ suc k) t))
  where
    none : (m b : ℕ) → 0 < b → m < 2 ^ 53 → 2 ^ 63 * b ≤ m * 1 * 1 → ⊥
    none m b p h g = omega arith

-- ---- x is between the two: what the double of x is
neg_double : (y : Float) (a b : ℕ) → 0 < b → a * 2 < b → HasValue y true (a * 2) b
    → T (lt (fin true 1 (pos 0)) y) × T (lt y (fin false 1 (pos 64))) × (to_unsigned 64 y ≡ 0)
unfolding lt to_unsigned
neg_double nan a b p h v = absurd v
neg_double (inf s) a b p h v = absurd v
neg_double (fin false n d) a b p h v = absurd (true≢false (sym v.0))
neg_double (fin true n d) a b p h v =
    let x = n * up d in
    let D = down d in
    let g : x * b < D * b = lt_of_le_of_lt (le_of_eq v.1) (lt_of_lt_of_le (mul-lt-mul_of_pos_right h (down_pos d)) (le_of_eq (mul_comm b D))) in
    let i : x < D = lt_of_mul-lt-mul_right b g in (
      lt→ltb (x * 1) (1 * D) (omega (arith, i, one-mul D)),
      lt→ltb 0 (x * 1 + 2 ^ 64 * D) (omega (arith, down_pos d)),
      refl,
    )

pos_double : (y : Float) (a b : ℕ) → 0 < b → a < 2 ^ 63 * b → HasValue y false (a * 2) b
    → T (lt (fin true 1 (pos 0)) y) × T (lt y (fin false 1 (pos 64))) × (to_unsigned 64 y ≡ a * 2 / b)
unfolding lt to_unsigned
pos_double nan a b p h v = absurd v
pos_double (inf s) a b p h v = absurd v
pos_double (fin true n d) a b p h v = absurd (true≢false v.0)
pos_double (fin false n d) a b p h v =
    let x = n * up d in
    let D = down d in
    let w : a * 2 < 2 ^ 64 * b = omega arith in
    let g : x * b < 2 ^ 64 * D * b =
    lt_of_le_of_lt (le_of_eq v.1) (lt_of_lt_of_le (mul-lt-mul_of_pos_right w (down_pos d)) (le_of_eq (mul_right_comm (2 ^ 64) b D))) in
    let i : x < 2 ^ 64 * D = lt_of_mul-lt-mul_right b g in
    let z : x / D < 2 ^ 64 = (div-lt_iff_lt-mul (down_pos d)).1 i in
    let s : x / D ≡ a * 2 / b = div_same x D (a * 2) b (down_pos d) p v.1 in (
      lt→ltb 0 (1 * D + x * 1) (omega (arith, down_pos d, one-mul D)),
      lt→ltb (x * 1) (2 ^ 64 * D) (omega arith),
      omega arith,
    )

-- what the code makes of u, the whole part of the double
abbrev pub from_halves : ℕ → Outcome ℤ
from_halves u = given (pos (min (u / 2 + u % 2) (2 ^ 63 - 1)))

pub halved : (x : Float) → T (fits binary64 x) → lt minus_half x ≡ true → lt x top ≡ true
    → T (lt (fin true 1 (pos 0)) (mul binary64 x two)) × T (lt (mul binary64 x two) (fin false 1 (pos 64)))
    × (from_halves (to_unsigned 64 (mul binary64 x two)) ≡ nearest_units x)
unfolding lt
halved nan f t r = absurd (true≢false (sym t))
halved (inf true) f t r = absurd (true≢false (sym t))
halved (inf false) f t r = absurd (true≢false (sym r))
halved (fin true m e) f t r =
    let a = m * up e in
    let b = down e in
    let h : a * 2 < b = omega (arith, ltb-true (a * 2) (1 * b) t, one-mul b) in
    let w : a * 2 < 2 ^ 64 * b = omega arith in
    let o : a * 2 < 2 ^ suc (emax binary64) * b = lt_of_lt_of_le w (mul-le-mul_right b (lit≤ tt)) in
    let d = neg_double (mul binary64 (fin true m e) two) a b (down_pos e) h (doubled binary64 true m e f o) in
    (d.0, d.1, ap from_halves d.2 ∙ sym (ap (whole_units true) (halves a b (down_pos e) ∙ ap (λ (x : ℕ). x / 2 + x % 2) (div-eq_of_lt h))))
halved (fin false m e) f t r =
    let a = m * up e in
    let b = down e in
    let h : a < 2 ^ 63 * b = omega (arith, ltb-true (a * 1) (2 ^ 63 * b) r) in
    let w : a * 2 < 2 ^ 64 * b = omega arith in
    let o : a * 2 < 2 ^ suc (emax binary64) * b = lt_of_lt_of_le w (mul-le-mul_right b (lit≤ tt)) in
    let d = pos_double (mul binary64 (fin false m e) two) a b (down_pos e) h (doubled binary64 false m e f o) in
    let u = a * 2 / b in
    let z : u < 2 ^ 64 = (div-lt_iff_lt-mul (down_pos e)).1 w in
    (d.0, d.1, ap from_halves d.2 ∙ sym (ap (whole_units false) (halves a b (down_pos e)) ∙ in_range (u / 2 + u % 2) (omega arith)))
