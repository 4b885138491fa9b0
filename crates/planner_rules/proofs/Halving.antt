-- The halving of `specs/Scale.antt`: what a turn does, for any test; and that it finds the largest number at which a test passes, for a test
-- that passes below where it passes. Assumes nothing.
use mathlib.Core.Path.{◌≡◌, refl, sym, ◌∙◌, subst}
use mathlib.Core.Logic.{◌↔◌, inl, inr}
use mathlib.Core.Bool.{Bool, true, false, true≢false}
use Prim.Native.Nat.{ℕ, zero, suc, ◌-◌, ◌^◌, ◌≤◌, ◌<◌}
use native.Mathlib.Omega.{arith}
use borrow.Author.Tests.{lt-ltb, le-ltb}
use Rattle.planner_rules.specs.Scale.{middle, halve, fit_scale}
use Rattle.planner_rules.specs.Fitting.{Largest, Chosen}
use Rattle.planner_rules.proofs.Laws.{split}

pub by_test {ℓ} : {X : Type ℓ} (b : Bool) → (b ≡ true → X) → (b ≡ false → X) → X
by_test true f g = f refl
by_test false f g = g refl

-- ---- a turn, for any test

module _ (t : ℕ → Bool) where
  pub halve_stop : (turns low high : ℕ) → high ≤ low → halve t turns low high ≡ low
  unfolding halve
  halve_stop zero low high h = refl
  halve_stop (suc turns) low high h = rw (le-ltb low high h)

  pub halve_up : (turns low high : ℕ) → low < high → t (middle low high) ≡ true → halve t (suc turns) low high ≡ halve t turns (middle low high) high
  unfolding halve
  halve_up turns low high h y = rw (lt-ltb low high h, y)

  pub halve_down : (turns low high : ℕ) → low < high → t (middle low high) ≡ false → halve t (suc turns) low high ≡ halve t turns low (middle low high - 1)
  unfolding halve
  halve_down turns low high h n = rw (lt-ltb low high h, n)

-- ---- for a loop, whatever the test: enough turns are left, and from low to high they come to the goal

pub record Halving (t : ℕ → Bool) (goal low high : ℕ) : Type 0 where
  pub turns : ℕ
  pub enough : high - low < 2 ^ turns
  pub same : halve t turns low high ≡ goal

module _ (t : ℕ → Bool) (goal : ℕ) where
  pub halving_stop : (low high : ℕ) → high ≤ low → Halving t goal low high → low ≡ goal
  halving_stop low high h g = sym (halve_stop t g.turns low high h) ∙ g.same

  pub halving_up : (low high : ℕ) → low < high → t (middle low high) ≡ true → Halving t goal low high → Halving t goal (middle low high) high
  unfolding middle
  halving_up low high h y g = go g.turns g.enough g.same
    where
      go : (f : ℕ) → high - low < 2 ^ f → halve t f low high ≡ goal → Halving t goal (middle low high) high
      go zero k e = absurd (omega arith)
      go (suc f) k e = record { turns = f; enough = omega arith; same = sym (halve_up t f low high h y) ∙ e }

  pub halving_down : (low high : ℕ) → low < high → t (middle low high) ≡ false → Halving t goal low high → Halving t goal low (middle low high - 1)
  unfolding middle
  halving_down low high h n g = go g.turns g.enough g.same
    where
      go : (f : ℕ) → high - low < 2 ^ f → halve t f low high ≡ goal → Halving t goal low (middle low high - 1)
      go zero k e = absurd (omega arith)
      go (suc f) k e = record { turns = f; enough = omega arith; same = sym (halve_down t f low high h n) ∙ e }

  -- of a number that is the middle
  module _ (low high m : ℕ) (h : low < high) (e : m ≡ middle low high) (g : Halving t goal low high) where
    pub up_at : t m ≡ true → Halving t goal m high
    up_at y = rw e (halving_up low high h (subst (λ (p : ℕ). t p ≡ true) e y) g)

    pub down_at : t m ≡ false → Halving t goal low (m - 1)
    down_at n = rw e (halving_down low high h (subst (λ (p : ℕ). t p ≡ false) e n) g)

-- ---- from lo to hi the test passes below where it passes

module _ (t : ℕ → Bool) (lo hi : ℕ) (down : (p q : ℕ) → lo ≤ q → q ≤ p → p ≤ hi → t p ≡ true → t q ≡ true) where
  -- so many turns are enough, 10 from 100 to 1,000
  pub halve_largest : (turns low high : ℕ) → lo ≤ low → low ≤ high → high ≤ hi → high - low < 2 ^ turns → t low ≡ true
      → Largest (λ q. t q ≡ true) low high (halve t turns low high)
  unfolding middle
  halve_largest zero low high a h c f k =
      rw (halve_stop t zero low high (omega arith)) (record { not_below = omega arith; not_above = h; holds = k; none_larger = λ q g b. omega arith })
  halve_largest (suc turns) low high a h c f k =
      let m : ℕ = middle low high in
      split high low
      (λ l. rw (halve_stop t (suc turns) low high l) (record { not_below = omega arith; not_above = h; holds = k; none_larger = λ q g b. omega arith }))
      (λ l. by_test (t m)
      (λ y. let r = halve_largest turns m high (omega arith) (omega arith) c (omega arith) y in
      rw (halve_up t turns low high l y)
      (record { not_below = omega (arith, r.not_below); not_above = r.not_above; holds = r.holds; none_larger = r.none_larger }))
      (λ n. let r = halve_largest turns low (m - 1) a (omega arith) (omega arith) (omega arith) k in
      rw (halve_down t turns low high l n)
      (record {
        not_below = r.not_below;
        not_above = omega (arith, r.not_above);
        holds = r.holds;
        none_larger = λ q g b. split q (m - 1) (λ d. r.none_larger q d b)
            (λ d. absurd (true≢false (sym (down q m (omega arith) (omega arith) (omega arith) b) ∙ n)));
      })))

-- ---- the fit scale of a test that says P, where P holds below where it holds

module _ (t : ℕ → Bool) (P : ℕ → Type 0) (says : (p : ℕ) → 100 ≤ p → p ≤ 1000 → (t p ≡ true) ↔ P p)
    (lower : (p q : ℕ) → q ≤ p → P p → P q) where
  found_largest : t 100 ≡ true → Largest P 100 1000 (halve t 10 100 1000)
  found_largest y =
      let down : (p q : ℕ) → 100 ≤ q → q ≤ p → p ≤ 1000 → t p ≡ true → t q ≡ true =
      λ p q l k h e. (says q l (omega arith)).1 (lower p q k ((says p (omega arith) h).0 e)) in
      let r = halve_largest t 100 1000 down 10 100 1000 (omega arith) (omega arith) (omega arith) (omega arith) y in
      record {
        not_below = r.not_below;
        not_above = r.not_above;
        holds = (says _ r.not_below r.not_above).0 r.holds;
        none_larger = λ q h g. split 100 q (λ k. r.none_larger q h ((says q k h).1 g)) (λ k. omega (arith, r.not_below));
      }

  pub fit_chosen : Chosen P (fit_scale t).permille (fit_scale t).unreachable
  unfolding fit_scale
  fit_chosen =
      let at = says 100 (omega arith) (omega arith) in
      by_test (t 100)
      (λ y. rw y (inl (record { at_100 = at.0 y; largest = found_largest y; unnoted = refl })))
      (λ n. rw n (inr (record { not_at_100 = λ g. true≢false (sym (at.1 g) ∙ n); taken = refl; noted = refl })))
