-- Several print areas (document 02, T-02): one to eight ranges in job order, and what each came to. Assumes nothing.
use Rattle.std.specs.Prelude.{Bool, true, false, ◌&&◌, List, [], ◌∷◌, ◌++◌, ℕ, ◌+◌, leb, length, take, replicate, set}
use Rattle.units.specs.Grid.{last_row, last_column}
use Rattle.planner_rules.specs.declared.pages.AreaPlan.{AreaPlan}
use Rattle.planner_rules.specs.declared.pages.AreaPlans.{AreaPlans}
use Rattle.planner_rules.specs.declared.planning.PrintRange.{PrintRange}

-- ---- the areas of a job

-- 4: "AR may stand up to eight times", and stands
abbrev pub one_to_eight : ℕ → Bool
one_to_eight n = leb 1 n && leb n 8

-- a test that every area passes: std's `list_all`, in the word of the sentences on areas
unfoldable pub every_area : (PrintRange → Bool) → List PrintRange → Bool
every_area p [] = true
every_area p (g ∷ gs) = p g && every_area p gs

-- 6 of an area: "firsts not above lasts in AR"
abbrev pub upright : PrintRange → Bool
upright g = leb g.first_row g.last_row && leb g.first_column g.last_column

-- 7 of an area: "AR .. inside the grid"; an area that is upright starts where it ends or before
abbrev pub inside_grid : PrintRange → Bool
inside_grid g = leb g.last_row last_row && leb g.last_column last_column

-- ---- what areas came to

-- those that count
abbrev pub plans_in : AreaPlans → List AreaPlan
plans_in a = take a.count a.plans

-- what stands where there is no area
abbrev pub no_plan : AreaPlan
no_plan = record { permille = 0; unreachable = 0; row_runs = 0; column_runs = 0; rows_empty = false; columns_empty = false }

-- areas as a plan holds them
abbrev pub held_plans : List AreaPlan → AreaPlans
held_plans xs = record { count = length xs; plans = take 8 (xs ++ replicate 8 no_plan) }

-- "add up over the areas": std's `sum_by`, in its own words, as the sentence has them
unfoldable pub over_areas : {A : Type 0} → (A → ℕ) → List A → ℕ
over_areas f [] = 0
over_areas f (x ∷ xs) = f x + over_areas f xs

-- ---- for the private functions

-- an area more, at the place after those that count
abbrev pub pushed : AreaPlans → AreaPlan → AreaPlans
pushed a x = record { count = a.count + 1; plans = set a.plans a.count x }

-- what stands where there is no range
abbrev pub no_range : PrintRange
no_range = record { first_row = 0; first_column = 0; last_row = 0; last_column = 0 }
