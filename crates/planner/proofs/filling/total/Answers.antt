-- The sizes are small, so that their sum is. The library's sum is that of the definitions.
use Rattle.std.proofs.Common.{◌≡◌, ◌<◌, ◌^◌, ◌+◌, List, [], ◌∷◌, ℕ, ◌∙◌, arith}
use Rattle.std.proofs.lemmas.Iterator.{YieldsList-from_slice}
use Rattle.std.proofs.lemmas.Iterator.Consumers.{sum_from_yields_List, fits_from_yields_list}
use Rattle.std.specs.List as std
use Rattle.planner_rules.specs.Slots.{sum}
use Rattle.planner_rules.proofs.TitleLaws.{small-sum}
use Rattle.planner.proofs.filling.total.Goals as goal

onto : (n : ℕ) (xs : List ℕ) → std.fold (λ a x. a + x) n xs ≡ n + sum xs
unfolding sum
onto n [] = omega arith
onto n (x ∷ xs) = omega (arith, onto (n + x) xs)

is_sum : (xs : List ℕ) → std.sum xs ≡ sum xs
is_sum xs = omega (arith, onto 0 xs)

pub sum-requires-clause-fits : goal.sum-requires-clause-fits
sum-requires-clause-fits c =
    let ss = c.args.slots.sizes.now in
    let few : std.sum ss < 2 ^ 64 = omega (arith, is_sum ss, small-sum ss c.args.slots.are.small) in
    fits_from_yields_list c.iter.result _ (YieldsList-from_slice ss c.iter.ensures.rest) few

pub returns : goal.returns
returns c =
    let ss = c.args.slots.sizes.now in
    sum_from_yields_List c.iter.result _ c.sum.ensures.ran (YieldsList-from_slice ss c.iter.ensures.rest) ∙ is_sum ss
