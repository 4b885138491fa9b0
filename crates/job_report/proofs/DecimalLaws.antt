-- The fewest digits of a number are its decimal. Assumes nothing.
use mathlib.Core.Path.{◌≡◌, sym}
use mathlib.Core.List.{[], ◌∷◌, ◌++◌}
use Prim.Native.Nat.{ℕ, zero, suc, ◌+◌, ◌-◌, ◌*◌, ◌/◌, ◌%◌, ◌^◌, ◌≤◌, ◌<◌}
use native.Mathlib.Nat.{pow-succ', one-le-pow}
use native.Mathlib.Omega.{arith}
use borrow.Author.Tests.{lt-ltb, le-ltb}
use Rattle.io.specs.Digits.{hex_digit_ascii, last_digits, IsDigitCount}
use Rattle.job_report.specs.Lines.{digits_within, decimal}

last_digit : (n : ℕ) → hex_digit_ascii (n % 10) ≡ 48 + n % 10
last_digit n = let h : n % 10 < 10 = omega arith in rw (lt-ltb (n % 10) 10 h)

-- a number of one digit, and one of more
short : (most n : ℕ) → n < 10 → digits_within (suc most) n ≡ (48 + n % 10) ∷ []
unfolding digits_within
short most n h = rw (lt-ltb n 10 h)

long : (most n : ℕ) → 10 ≤ n → digits_within (suc most) n ≡ digits_within most (n / 10) ++ ((48 + n % 10) ∷ [])
unfolding digits_within
long most n h = rw (le-ltb n 10 h)

-- without its last digit a number has one digit less
one_less : (n k : ℕ) → IsDigitCount 10 1 n (suc (suc k)) → (10 ≤ n) × IsDigitCount 10 1 (n / 10) (suc k)
one_less n k f =
    let p = one-le-pow k 10 (omega arith) in
    let e : suc (suc k) - 1 ≡ suc k = omega arith in
    let low : 10 ^ suc k ≤ n = rw e at (f.2 (omega arith)) in
    let a : 10 * 10 ^ k ≤ n = rw pow-succ' at low in
    let high : n < 10 ^ suc (suc k) = f.1 in
    let b : n < 10 * 10 ^ suc k = rw (pow-succ' 10 (suc k)) at high in
    let d : suc k - 1 ≡ k = omega arith in
    let c : 10 ^ k ≤ n / 10 = omega arith in
    (omega arith, (omega arith, omega arith, λ _. rw d c))

fewest_within : (k most n : ℕ) → n < most → IsDigitCount 10 1 n k → last_digits 10 k n ≡ digits_within most n
fewest_within zero most n h f = absurd (omega (arith, f.0))
fewest_within (suc zero) zero n h f = absurd (omega arith)
fewest_within (suc zero) (suc most) n h f = rw (last_digit n) (sym (short most n (omega (arith, f.1))))
fewest_within (suc (suc k)) zero n h f = absurd (omega arith)
fewest_within (suc (suc k)) (suc most) n h f =
    let g = one_less n k f in
    let ten = g.0 in
    rw (last_digit n, long most n ten, ← (fewest_within (suc k) most (n / 10) (omega arith) g.1))

pub fewest_decimal : (n k : ℕ) → IsDigitCount 10 1 n k → last_digits 10 k n ≡ decimal n
unfolding decimal
fewest_decimal n k f = fewest_within k (suc n) n (omega arith) f
