-- The union of areas (`specs/Union.antt`) in small grids, computed. Assumes nothing.
use mathlib.Core.Path.{◌≡◌, refl}
use mathlib.Core.List.{[], ◌∷◌}
use Prim.Native.Nat.{ℕ}
use Rattle.planner_rules.specs.declared.planning.PrintRange.{PrintRange}
use Rattle.planner_rules.specs.Union.{in_some, total, cells_in}

-- an area: first row, first column, last row, last column
abbrev area : ℕ → ℕ → ℕ → ℕ → PrintRange
area fr fc lr lc = record { first_row = fr; first_column = fc; last_row = lr; last_column = lc }

-- two areas that share a cell
pub two_that_meet : cells_in 4 4 (area 0 0 1 1 ∷ area 1 1 2 2 ∷ []) ≡ 7
unfolding cells_in total in_some
two_that_meet = refl

-- an area within another
pub one_within : cells_in 5 5 (area 1 1 3 3 ∷ area 2 2 2 3 ∷ []) ≡ 9
unfolding cells_in total in_some
one_within = refl

-- three, of which each meets the next
pub three_in_a_row : cells_in 3 7 (area 0 0 1 2 ∷ area 1 2 2 4 ∷ area 0 4 1 6 ∷ []) ≡ 16
unfolding cells_in total in_some
three_in_a_row = refl

-- one past the grid's end, one whose last row is before its first, and none
pub past_the_end : cells_in 3 3 (area 2 1 9 9 ∷ []) ≡ 2
unfolding cells_in total in_some
past_the_end = refl

pub backwards : cells_in 3 3 (area 2 1 1 1 ∷ []) ≡ 0
unfolding cells_in total in_some
backwards = refl

pub no_area : cells_in 3 3 [] ≡ 0
unfolding cells_in total in_some
no_area = refl
