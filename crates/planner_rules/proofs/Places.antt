-- "Searches stay between the cuts": what is found in the slots from p up to e is what is found in the whole axis, kept between p and e and
-- counted from p. Assumes nothing.
use mathlib.Core.Path.{◌≡◌, refl}
use mathlib.Core.List.{List, [], ◌∷◌}
use Prim.Native.Nat.{ℕ, zero, suc, ◌+◌, ◌-◌, ◌≤◌, ◌<◌, min}
use native.Mathlib.Omega.{arith}
use lib.ListN.{length, get_or, take, drop}
use borrow.Author.Tests.{lt-ltb, le-ltb, le-leb, lt-leb}
use Rattle.planner_rules.specs.Slots.{Rising, below, through, mid}
use Rattle.planner_rules.proofs.Laws.{either_lt, rising-take, rising-drop, split}

-- ---- one slot

module _ (k i : ℕ) (is : List ℕ) where
  below_in : i < k → below k (i ∷ is) ≡ suc (below k is)
  unfolding below
  below_in h = rw (lt-ltb i k h)

  below_out : k ≤ i → below k (i ∷ is) ≡ 0
  unfolding below
  below_out h = rw (le-ltb i k h)

  through_in : i ≤ k → through k (i ∷ is) ≡ suc (through k is)
  unfolding through
  through_in h =
      split (through k is) 0 (λ z. let e : through k is ≡ 0 = omega arith in rw (e, le-leb i k h)) (λ l. rw (lt-ltb 0 (through k is) l))

  through_out : through k is ≡ 0 → k < i → through k (i ∷ is) ≡ 0
  unfolding through
  through_out e h = rw (e, lt-leb i k h)

-- past a slot that is not below, none is
below_past : (k i : ℕ) (is : List ℕ) → Rising (i ∷ is) → k ≤ i → below k is ≡ 0
unfolding below
below_past k i [] r h = refl
below_past k i (j ∷ is) r h = below_out k j is (omega (arith, r 0 1 (omega arith) (omega arith)))

-- ---- places in rising indexes

-- no slot at a limit or past it is below it
pub below_up_to : (limit : ℕ) (is : List ℕ) (k : ℕ) → k < length is → limit ≤ get_or is k 0 → below limit is ≤ k
unfolding below
below_up_to limit [] k h l = absurd (omega arith)
below_up_to limit (x ∷ is) zero h l = either_lt (λ (n : ℕ). n ≤ 0) x limit (λ q. absurd (omega arith)) (λ q. omega arith)
below_up_to limit (x ∷ is) (suc k) h l =
    either_lt (λ (n : ℕ). n ≤ suc k) x limit (λ q. omega (arith, below_up_to limit is k (omega arith) l)) (λ q. omega arith)

-- where indexes rise, a slot below a limit is among those below it
pub below_past_it : (limit : ℕ) (is : List ℕ) → Rising is → (k : ℕ) → k < length is → get_or is k 0 < limit → k < below limit is
unfolding below
below_past_it limit [] r k h l = absurd (omega arith)
below_past_it limit (x ∷ is) r zero h l = rw (lt-ltb x limit l) (omega arith)
below_past_it limit (x ∷ is) r (suc k) h l =
    let q : x < limit = omega (arith, r 0 (suc k) (omega arith) h) in
    rw (lt-ltb x limit q) (omega (arith, below_past_it limit is (rising-drop 1 (x ∷ is) r) k (omega arith) l))

-- between a slot below a limit and the next, which is not, the search ends
pub below_at : (limit : ℕ) (is : List ℕ) → Rising is → (k : ℕ) → k + 1 < length is → get_or is k 0 < limit → limit ≤ get_or is (k + 1) 0
    → k + 1 ≡ below limit is
below_at limit is r k h l m = omega (arith, below_past_it limit is r k (omega arith) l, below_up_to limit is (k + 1) h m)

-- the last slot at or below an index stands before the first one not below the next index
pub through-below : (k : ℕ) (is : List ℕ) → Rising is → through k is ≡ below (suc k) is
unfolding through below
through-below k [] r = refl
through-below k (i ∷ is) r =
    let rest = through-below k is (rising-drop 1 (i ∷ is) r) in
    split i k (λ h. omega (arith, rest, through_in k i is h, below_in (suc k) i is (omega arith)))
    (λ h. omega (arith, through_out k i is (omega (arith, rest, below_past (suc k) i is r h)) h, below_out (suc k) i is h))

below-drop : (k p : ℕ) (is : List ℕ) → Rising is → below k (drop p is) ≡ below k is - p
unfolding below
below-drop k zero is r = omega arith
below-drop k (suc p) [] r = omega arith
below-drop k (suc p) (i ∷ is) r =
    let rest = below-drop k p is (rising-drop 1 (i ∷ is) r) in
    split k i (λ h. omega (arith, rest, below_past k i is r h, below_out k i is h)) (λ h. omega (arith, rest, below_in k i is h))

below-take : (k n : ℕ) (is : List ℕ) → below k (take n is) ≡ min n (below k is)
unfolding below
below-take k zero is = omega arith
below-take k (suc n) [] = omega arith
below-take k (suc n) (i ∷ is) =
    split k i (λ h. omega (arith, below_out k i is h, below_out k i (take n is) h))
    (λ h. omega (arith, below-take k n is, below_in k i is h, below_in k i (take n is) h))

pub below-mid : (k p e : ℕ) (is : List ℕ) → Rising is → below k (mid p e is) ≡ min (below k is) e - p
below-mid k p e is r = omega (arith, below-take k (e - p) (drop p is), below-drop k p is r)

pub through-mid : (k p e : ℕ) (is : List ℕ) → Rising is → through k (mid p e is) ≡ min (through k is) e - p
through-mid k p e is r =
    omega (
      arith,
      through-below k (mid p e is) (rising-take (e - p) (drop p is) (rising-drop p is r)),
      below-mid (suc k) p e is r,
      through-below k is r,
    )
