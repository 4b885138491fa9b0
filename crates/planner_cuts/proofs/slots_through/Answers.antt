-- Past the last slot at or below the index none is, and up to it all are counted.
use Rattle.std.proofs.Common.{ℕ, zero, suc, List, [], ◌∷◌, ◌≡◌, ◌+◌, ◌≤◌, ◌<◌, length, get_or, refl, sym, arith, rules}
use borrow.Author.Tests.{le-leb, lt-leb, lt-ltb}
use Rattle.planner_rules.specs.Slots.{through}
use Rattle.planner_cuts.proofs.slots_through.Goals as goal

none_through : (k : ℕ) (is : List ℕ) → ((j : ℕ) → j < length is → k < get_or is j 0) → through k is ≡ 0
unfolding through
none_through k [] h = refl
none_through k (i ∷ is) h = rw (none_through k is (λ j p. h (suc j) (omega arith)), lt-leb i k (h 0 (omega arith))) refl

last_through : (k n : ℕ) (is : List ℕ) → n < length is → get_or is n 0 ≤ k → ((j : ℕ) → n + 1 ≤ j → j < length is → k < get_or is j 0)
    → through k is ≡ n + 1
unfolding through
last_through k n [] h l m = absurd (omega arith)
last_through k zero (i ∷ is) h l m = rw (none_through k is (λ j p. m (suc j) (omega arith) (omega arith)), le-leb i k l) refl
last_through k (suc n) (i ∷ is) h l m =
    let r : through k is ≡ n + 1 = last_through k n is (omega arith) l (λ j p q. m (suc j) (omega arith) (omega arith)) in
    rw (r, lt-ltb 0 (n + 1) (omega arith)) (omega arith)

pub returns-in-Some-clause-value : goal.returns-in-Some-clause-value
returns-in-Some-clause-value c = sym (last_through c.args.last c.in-Some.n c.args.indexes.now (search rules) (search rules) (search rules))

pub returns-in-None-clause-value : goal.returns-in-None-clause-value
returns-in-None-clause-value c = sym (none_through c.args.last c.args.indexes.now (search rules))
