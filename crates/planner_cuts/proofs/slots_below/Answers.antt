-- The place of the first slot that is not below the limit is how many are below it, in front.
use Rattle.std.proofs.Common.{◌≡◌, ◌+◌, ◌≤◌, ◌<◌, ℕ, List, ◌∷◌, refl, sym, ◌∙◌, arith, rules, tests}
use Rattle.std.proofs.lemmas.Iterator.{IsFirst-from_position, YieldsList-from_slice, index_from_first}
use borrow.Author.Tests.{lt-ltb, le-ltb}
use Rattle.planner_rules.specs.Slots.{below}
use Rattle.planner_cuts.proofs.slots_below.Goals as goal

hit : (k x : ℕ) (xs : List ℕ) → k ≤ x → below k (x ∷ xs) ≡ 0
unfolding below
hit k x xs h = rw (le-ltb x k h) refl

miss : (k x : ℕ) (xs : List ℕ) → x < k → below k (x ∷ xs) ≡ below k xs + 1
unfolding below
miss k x xs h = rw (lt-ltb x k h) (omega arith)

pub returns-clause-value : goal.returns-clause-value
unfolding below
returns-clause-value c =
    let k = c.args.limit in
    let first = IsFirst-from_position _ _ _ (λ x. k ≤ x) (λ x. x < k) c.position.ensures.ran (YieldsList-from_slice c.args.indexes.now cc)
    (λ x q t. search (rules, tests)) (λ x q t. search (rules, tests)) in
    c.unwrap_or.ensures ∙ sym (index_from_first (below k) (λ x. k ≤ x) (λ x. x < k) refl (hit k) (miss k) c.args.indexes.now _ first)
