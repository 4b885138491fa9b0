-- Where those below the limit end, as many are below it.
use Rattle.std.proofs.Common.{List, ℕ, true, false, ltb, ◌≡◌, ◌≤◌, ◌-◌, length, get_or, arith, rules}
use Rattle.std.specs.List.Sorted.{IsNonDecreasingBy, IsPartitionPoint}
use Rattle.std.proofs.lemmas.Bool.{ltb-true, ltb-false}
use Rattle.std.proofs.lemmas.List.Sorted.{IsPartitionedBy-ltb, IsNonDecreasingBy-from_default, IsPartitionPoint-from_clause}
use Rattle.planner_rules.specs.Slots.{Rising, below}
use Rattle.planner_rules.proofs.Laws.{split}
use Rattle.planner_rules.proofs.Places.{below_up_to, below_past_it}
use Rattle.planner_rules.proofs.EndLaws.{below-le}
use Rattle.planner.proofs.places.place_of.Goals as goal

no_lower : (is : List ℕ) → Rising is → IsNonDecreasingBy (λ i. i) is
no_lower is r =
    IsNonDecreasingBy-from_default (λ i. i) is 0 (λ i j h l.
    split j i (λ g. let e : i ≡ j = omega arith in rw e (omega arith)) (λ g. omega (arith, r i j (omega arith) l)))

point_is : (limit : ℕ) (is : List ℕ) (n : ℕ) → Rising is → n ≤ length is
    → IsPartitionPoint (λ i. ltb i limit ≡ true) (λ i. ltb i limit ≡ false) is n → n ≡ below limit is
point_is limit is n r h point =
    let up : below limit is ≤ n =
    split (length is) n (λ g. omega (arith, below-le limit is))
    (λ g. below_up_to limit is n g (ltb-false (get_or is n 0) limit (point.1 n 0 (omega arith) g))) in
    split n 0 (λ g. omega arith) (λ g.
    omega (
      arith,
      up,
      below_past_it limit is r (n - 1) (omega arith) (ltb-true (get_or is (n - 1) 0) limit (point.0 (n - 1) 0 (omega arith) (omega arith))),
    )
    )

pub returns-clause-value : goal.returns-clause-value
returns-clause-value c =
    let is = c.args.indexes.now in
    point_is c.args.limit is _ c.requires c.partition_point.ensures.bound (
    IsPartitionPoint-from_clause (λ i. ltb i c.args.limit) is _ c.partition_point.ensures.partitioned
    (IsPartitionedBy-ltb (λ i. i) is c.args.limit (no_lower is c.requires)) (λ x b f' k. search rules)
    )
