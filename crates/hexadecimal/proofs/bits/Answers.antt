-- `hexadecimal::bits` meets its contract: one digit more, and none left.
use Rattle.std.proofs.Common.{◌≡◌, Bool, true, false, cond, ℕ, ◌+◌, ◌-◌, ◌*◌, ◌%◌, ◌^◌, ◌≤◌, ◌<◌, sym, ap, refl, ◌∙◌}
use Rattle.std.proofs.Common.{List, length, get_or, drop, drop_of_length-le, drop-cons, add-one}
use Rattle.std.proofs.Common.{arith}
use Rattle.std.proofs.lemmas.Nat.{or_shifted}
use Rattle.std.specs.Int.Bits.{bit_or}
use Rattle.std.specs.Prelude.{Option, Some, None, leb, ltb}
use Rattle.std.specs.Option.{unwrap_or}
use borrow.Author.Tests.{leb-true}
use Rattle.hexadecimal.specs.Hex.{digit_of, number}
use Rattle.hexadecimal.proofs.bits.Goals as goal

-- what a digit stands for has four bits
small : (b : ℕ) → unwrap_or (digit_of b) 0 < 16
unfolding digit_of
small b = go (ltb b 48) (leb b 57) (ltb b 97) (leb b 102) refl refl
  where
    go : (p q r s : Bool) → leb b 57 ≡ q → leb b 102 ≡ s
        → unwrap_or (cond p None (cond q (Some (b - 48)) (cond r None (cond s (Some (b - 97 + 10)) None)))) 0 < 16
    go true q r s i j = omega arith
    go false true r s i j = omega (arith, leb-true b 57 i)
    go false false true s i j = omega arith
    go false false false true i j = omega (arith, leb-true b 102 j)
    go false false false false i j = omega arith

next : (v d : ℕ) → d < 16 → bit_or (v * 16 % 2 ^ 64) d ≡ (v * 16 + d % 16) % 2 ^ 64
next v d h =
    let shifted : v * 16 % 2 ^ 64 ≡ v % 2 ^ 60 * 2 ^ 4 = omega arith in
    rw shifted (or_shifted (v % 2 ^ 60) 4 d h ∙ omega (arith, h))

step : (l : List ℕ) (v i d : ℕ) → i < length l → d ≡ unwrap_or (digit_of (get_or l i 0)) 0
    → number (bit_or (v * 16 % 2 ^ 64) d) (drop (i + 1) l) ≡ number v (drop i l)
unfolding number
step l v i d h k = rw (add-one, drop-cons l i 0 h, k, next v (unwrap_or (digit_of (get_or l i 0)) 0) (small (get_or l i 0))) refl

done : (l : List ℕ) (v i : ℕ) → length l ≤ i → number v (drop i l) ≡ number 0 l → v ≡ number 0 l
unfolding number
done l v i h k = sym (ap (number v) (drop_of_length-le l h)) ∙ k

pub loop-byte-preserved : goal.loop-byte-preserved
loop-byte-preserved c = step _ _ _ _ c.loop-byte-test.true (c.unwrap_or.ensures ∙ ap (λ (d : Option ℕ). unwrap_or d 0) c.digit.ensures) ∙ c.loop-byte.invariant

pub returns : goal.returns
returns c = omega (arith, done _ _ _ c.loop-byte-test.false c.loop-byte.invariant)
