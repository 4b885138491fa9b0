-- Where indexes rise, each lies in exactly one run. Assumes nothing.
use mathlib.Core.Path.{◌≡◌, refl, ap}
use mathlib.Core.Logic.{inl, inr}
use mathlib.Core.List.{List, [], ◌∷◌, map}
use Prim.Native.Nat.{ℕ, zero, suc, ◌+◌, ◌-◌, ◌≤◌, ◌<◌}
use native.Mathlib.Omega.{arith}
use lib.ListN.{length, get_or, take, drop, length-drop}
use lib.Seq.{get_or-take, get_or-drop, length-take-le}
use Rattle.planner_rules.specs.declared.runs.Frame.{Frame}
use Rattle.planner_rules.specs.Slots.{Rising, sum}
use Rattle.planner_rules.specs.Runs.{axis_runs}
use Rattle.planner_rules.specs.Lent.{firsts, lasts}
use Rattle.planner_rules.specs.Division.{Division, pieces, first_of, last_of, LiesIn, InOneRun, Covered}
use Rattle.planner_rules.proofs.Laws.{rising-drop, split}
use Rattle.planner_rules.proofs.Whole.{axis_division, axis_tells}

rising_le : (xs : List ℕ) → Rising xs → (j k : ℕ) → j ≤ k → k < length xs → get_or xs j 0 ≤ get_or xs k 0
rising_le xs r j k h q = split k j (λ l. let e : j ≡ k = omega arith in rw e (omega arith)) (λ l. omega (arith, r j k l q))

-- ---- the first run of a division, and the others

module _ (n : ℕ) (ns xs : List ℕ) (d : Division (length xs) (n ∷ ns)) where
  low : 1 ≤ n
  low = d.nonempty n (inl refl)

  high : n ≤ length xs
  unfolding sum
  high = omega (arith, d.whole)

  others : Division (length (drop n xs)) ns
  unfolding sum
  others = record { nonempty = λ m i. d.nonempty m (inr i); whole = simp length-drop (omega (arith, d.whole)) }

  head_first : first_of (take n xs) ≡ get_or xs 0 0
  head_first = get_or-take n xs 0 0 low

  head_last : last_of (take n xs) ≡ get_or xs (n - 1) 0
  head_last = rw (length-take-le n xs high, get_or-take n xs (n - 1) 0 (omega (arith, low)))

-- what is at most every index is at most every run's first
firsts_low : (b : ℕ) (ns xs : List ℕ) → Division (length xs) ns → ((j : ℕ) → j < length xs → b ≤ get_or xs j 0)
    → (q : ℕ) → q < length (map first_of (pieces ns xs)) → b ≤ get_or (map first_of (pieces ns xs)) q 0
unfolding pieces
firsts_low b [] xs d r q h = absurd (omega arith)
firsts_low b (n ∷ ns) xs d r zero h = rw (head_first n ns xs d) (r 0 (omega (arith, low n ns xs d, high n ns xs d)))
firsts_low b (n ∷ ns) xs d r (suc q) h =
    firsts_low b ns (drop n xs) (others n ns xs d) (λ j l. rw get_or-drop (r (n + j) (omega (arith, length-drop n xs)))) q (omega arith)

-- ---- exactly one

module _ (f l : ℕ) (fs ls : List ℕ) (i : ℕ) where
  outer : {r : ℕ} → LiesIn fs ls i r → LiesIn (f ∷ fs) (l ∷ ls) i (suc r)
  outer h = record { there = omega (arith, h.there); not_before = h.not_before; not_after = h.not_after }

  inner : {r : ℕ} → LiesIn (f ∷ fs) (l ∷ ls) i (suc r) → LiesIn fs ls i r
  inner h = record { there = omega (arith, h.there); not_before = h.not_before; not_after = h.not_after }

  -- in the first run, and in no other
  at_first : f ≤ i → i ≤ l → ((r : ℕ) → LiesIn fs ls i r → ⊥) → InOneRun (f ∷ fs) (l ∷ ls) i
  at_first a b no_other = record { run = 0; lies = record { there = omega arith; not_before = a; not_after = b }; only = only }
    where
      only : (r : ℕ) → LiesIn (f ∷ fs) (l ∷ ls) i r → r ≡ 0
      only zero h = refl
      only (suc r) h = absurd (no_other r (inner h))

  -- past the first run, and in one of the others
  past_first : l < i → InOneRun fs ls i → InOneRun (f ∷ fs) (l ∷ ls) i
  past_first a o = record { run = suc o.run; lies = outer o.lies; only = only }
    where
      only : (r : ℕ) → LiesIn (f ∷ fs) (l ∷ ls) i r → r ≡ suc o.run
      only zero h = absurd (omega (arith, h.not_after))
      only (suc r) h = ap suc (o.only r (inner h))

-- of any division of rising indexes
pub one_run : (ns xs : List ℕ) → Division (length xs) ns → Rising xs → Covered xs (map first_of (pieces ns xs)) (map last_of (pieces ns xs))
unfolding pieces sum
one_run [] xs d r j h = absurd (omega (arith, d.whole))
one_run (n ∷ ns) xs d r j h =
    let first = head_first n ns xs d in
    let last = head_last n ns xs d in
    let fs : List ℕ = map first_of (pieces ns (drop n xs)) in
    let ls : List ℕ = map last_of (pieces ns (drop n xs)) in
    let x : ℕ = get_or xs j 0 in
    let p : 1 ≤ n = low n ns xs d in
    let q : n ≤ length xs = high n ns xs d in
    split n j
    (λ l.
    let e : n + (j - n) ≡ j = omega arith in
    let there : InOneRun fs ls (get_or (drop n xs) (j - n) 0) = one_run ns (drop n xs) (others n ns xs d) (rising-drop n xs r) (j - n)
    (omega (arith, length-drop n xs)) in
    past_first (first_of (take n xs)) (last_of (take n xs)) fs ls x (omega (arith, last, r (n - 1) j (omega arith) h))
    (rw (get_or-drop n xs (j - n) 0, e) at there))
    (λ l. at_first (first_of (take n xs)) (last_of (take n xs)) fs ls x
    (omega (arith, first, rising_le xs r 0 j (omega arith) h))
    (omega (arith, last, rising_le xs r j (n - 1) (omega arith) (omega arith)))
    (λ m o. omega (
      arith,
      o.not_before,
      firsts_low (suc x) ns (drop n xs) (others n ns xs d)
          (λ i k. rw get_or-drop (r j (n + i) (omega arith) (omega (arith, length-drop n xs)))) m o.there,
    )))

-- of an axis, whatever its merges, title and breaks
pub axis_covered : (k : Frame) (fs ls is ss bs : List ℕ) → length is ≡ length ss → Rising is
    → let rs = axis_runs k fs ls is ss 0 bs in Covered is (firsts rs) (lasts rs)
axis_covered k fs ls is ss bs even r =
    let t = axis_tells k fs ls is ss bs even in
    rw (t.firsts_are, t.lasts_are) (one_run _ is (rw even (axis_division k fs ls is ss bs even)) r)
