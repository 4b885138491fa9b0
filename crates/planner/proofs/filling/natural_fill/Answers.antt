-- One slot that goes onto the sum is one that the definition takes, and one that does not ends the run.
use Rattle.std.proofs.Common.{◌≡◌, ◌+◌, ◌-◌, ◌<◌, List, ℕ, length, drop, get_or, length-drop, refl, arith}
use lib.Seq.{get_or-drop}
use Rattle.planner_rules.proofs.Laws.{more_yes, more_no, more_end, sum_one}
use Rattle.planner.proofs.filling.natural_fill.Goals as goal

item_is : (xs ys : List ℕ) (from at n : ℕ) → ys ≡ drop from xs → n ≡ from + at → get_or ys at 0 ≡ get_or xs n 0
item_is xs ys from at n e k = rw (e, k, get_or-drop) refl

left : (xs ys : List ℕ) (from : ℕ) → ys ≡ drop from xs → length ys ≡ length xs - from
left xs ys from e = rw e (length-drop from xs)

pub returns-then-sum-capacity-clause-slots_value : goal.returns-then-sum-capacity-clause-slots_value
returns-then-sum-capacity-clause-slots_value c =
    let l = c.loop-size in
    let i = l.invariant in
    let xs = c.args.head.slots.sizes.now in
    let n = l.filling.slots in
    let item = item_is xs _ _ l.size-index n i.1 i.0 in
    let within : n < length xs = omega (arith, left xs _ _ i.1) in
    omega (arith, i.5, more_no c.args.capacity l.filling.sum n xs within (omega (arith, item)))

pub loop-size-preserved : goal.loop-size-preserved
loop-size-preserved c =
    let l = c.loop-size in
    let i = l.invariant in
    let xs = c.args.head.slots.sizes.now in
    let n = l.filling.slots in
    let item = item_is xs _ _ l.size-index n i.1 i.0 in
    let within : n < length xs = omega (arith, left xs _ _ i.1) in (
      omega arith,
      i.1,
      omega arith,
      omega (arith, within),
      omega (arith, item, c.args.head.slots.are.small.each n),
      rw item (omega (arith, i.5, more_yes c.args.capacity l.filling.sum n xs within (omega (arith, item)))),
      omega (arith, item, i.6, sum_one n xs within),
    )

pub returns-clause-slots_value : goal.returns-clause-slots_value
returns-clause-slots_value c =
    let l = c.loop-size in
    let i = l.invariant in
    let xs = c.args.head.slots.sizes.now in
    omega (arith, i.5, more_end c.args.capacity l.filling.sum l.filling.slots xs (omega (arith, left xs _ _ i.1)))
