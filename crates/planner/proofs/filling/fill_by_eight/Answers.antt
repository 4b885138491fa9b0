-- Eight slots that stay within the capacity together are eight that the definition takes.
use Rattle.std.proofs.Common.{◌≡◌, ◌+◌, ◌-◌, ◌≤◌, ◌++◌, List, ℕ, length, take, drop, length-drop, length-append, refl, sym, subst, ap, ◌∙◌, arith, rules}
use Rattle.std.proofs.Math.Seq.{take-append_seam, drop-append_seam}
use lib.Seq.{take_all, drop-drop}
use Rattle.std.specs.Slice.Iter.{chunks_exact_rest}
use Rattle.planner_rules.specs.Slots.{Small, sum, mid}
use Rattle.planner_rules.specs.Runs.{more}
use Rattle.planner_rules.proofs.Laws.{more_part, natural_start, small-mid, sum_one, sum_many}
use Rattle.planner.proofs.filling.fill_by_eight.Goals as goal

eight_are : (n : ℕ) (xs p r : List ℕ) → drop n xs ≡ p ++ r → length p ≡ 8
    → (mid n (n + 8) xs ≡ p) × (r ≡ drop (n + 8) xs) × (n + 8 ≤ length xs)
eight_are n xs p r e h =
    let t : take 8 (p ++ r) ≡ p = ap (λ (k : ℕ). take k (p ++ r)) (sym h) ∙ take-append_seam p r in
    let d : drop 8 (p ++ r) ≡ r = ap (λ (k : ℕ). drop k (p ++ r)) (sym h) ∙ drop-append_seam p r in
    let k : n + 8 - n ≡ 8 = omega arith in
    let past : drop 8 (drop n xs) ≡ drop (n + 8) xs = rw drop-drop refl in
    let long : length xs - n ≡ length p + length r = sym (length-drop n xs) ∙ ap length e ∙ length-append p r in
    (rw (k, e) t, sym d ∙ ap (drop 8) (sym e) ∙ past, omega (arith, long, h))

eight_more : (cap s n : ℕ) (xs p : List ℕ) → mid n (n + 8) xs ≡ p → n + 8 ≤ length xs → s + sum p ≤ cap
    → more cap s (drop n xs) ≡ 8 + more cap (s + sum p) (drop (n + 8) xs)
eight_more cap s n xs p e h k =
    subst (λ (q : List ℕ). s + sum q ≤ cap → more cap s (drop n xs) ≡ 8 + more cap (s + sum q) (drop (n + 8) xs)) e (more_part cap s 8 n xs h) k

pub loop-eight-init : goal.loop-eight-init
unfolding sum
loop-eight-init c =
    let xs = c.args.head.slots.sizes.now in (
      search rules,
      ap chunks_exact_rest c.into_iter-eight-iterator.ensures.into_iter_gives ∙ c.chunks_exact-eight-items.ensures.rest
          ∙ take_all (length xs - 1) (drop 1 xs) (simp length-drop (omega arith)),
      omega arith,
      omega arith,
      omega (arith, c.args.head.slots.are.small.each 0),
      natural_start _ _ c.args.head.some,
      omega (arith, sum_one 0 xs c.args.head.some),
    )

pub sum_of_eight-requires-clause-small : goal.sum_of_eight-requires-clause-small
sum_of_eight-requires-clause-small c =
    let xs = c.args.head.slots.sizes.now in
    let i = c.loop-eight.invariant in
    let s = c.in-Some.ensures.steps in
    let n = c.loop-eight.filling.slots in
    let are = eight_are n xs c.in-Some.eight.now _ (sym i.1 ∙ s.1.0) (s.1.1 ∙ i.0) in
    subst Small are.0 (small-mid n (n + 8) xs are.2 c.args.head.slots.are.small)

pub loop-eight-preserved : goal.loop-eight-preserved
loop-eight-preserved c =
    let xs = c.args.head.slots.sizes.now in
    let e = c.sum_of_eight.ensures in
    let i = c.loop-eight.invariant in
    let s = c.in-Some.ensures.steps in
    let f = c.loop-eight.filling in
    let are = eight_are f.slots xs c.in-Some.eight.now _ (sym i.1 ∙ s.1.0) (s.1.1 ∙ i.0) in
    let all = ap sum are.0 in (
      s.0 ∙ i.0,
      are.1,
      omega arith,
      are.2,
      omega (arith, e.upper_bound, i.4),
      rw e.value (omega (arith, i.5, eight_more c.args.capacity f.sum f.slots xs c.in-Some.eight.now are.0 are.2 (omega (arith, e.value)))),
      omega (arith, i.6, e.value, all, sum_many f.slots 8 xs),
    )
