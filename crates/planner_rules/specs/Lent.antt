-- Runs in a lent list: a run is four numbers, and one run stands after another. Assumes nothing.
use Rattle.std.specs.Prelude.{◌≡◌, List, [], ◌∷◌, ◌++◌, map, ℕ, zero, suc, ◌+◌, ◌*◌, ◌/◌, ◌≤◌, length, get_or, take, drop}
use Rattle.planner_rules.specs.Slots.{written}
use Rattle.planner_rules.specs.Runs.{Run}

-- ---- runs as numbers

-- how many numbers a run has in a list
abbrev pub run_numbers : ℕ
run_numbers = 4

-- a run's numbers, in the order of "A run has first, last, size, .. manual-break mark"
abbrev pub numbers_of : Run → List ℕ
numbers_of r = r.first ∷ r.last ∷ r.size ∷ r.manual ∷ []

-- the numbers of runs, one run after another: std's `flat_map` of `numbers_of`, named since many promises speak of it
unfoldable pub flat : List Run → List ℕ
flat [] = []
flat (r ∷ rs) = numbers_of r ++ flat rs

-- a list of n numbers has room for n / 4 runs
abbrev pub room_in : List ℕ → ℕ
room_in l = length l / run_numbers

-- ---- numbers as runs

-- the number of the run k that stands at the place `at` among its numbers
abbrev pub number_at : List ℕ → ℕ → ℕ → ℕ
number_at l k at = get_or l (run_numbers * k + at) 0

-- the run that stands first in a list; how many slots it has and whether a merge took it further is not in the list
abbrev pub first_run : List ℕ → Run
first_run l = record { first = get_or l 0 0; last = get_or l 1 0; size = get_or l 2 0; slots = 0; grown = 0; manual = get_or l 3 0 }

-- the first n runs of a list
unfoldable pub runs_in : ℕ → List ℕ → List Run
runs_in zero l = []
runs_in (suc n) l = first_run l ∷ runs_in n (drop run_numbers l)

-- the firsts, the lasts, the sizes and the marks of runs
abbrev pub firsts : List Run → List ℕ
firsts = map (λ (r : Run). r.first)

abbrev pub lasts : List Run → List ℕ
lasts = map (λ (r : Run). r.last)

abbrev pub sizes : List Run → List ℕ
sizes = map (λ (r : Run). r.size)

abbrev pub marks : List Run → List ℕ
marks = map (λ (r : Run). r.manual)

-- ---- for the private functions

-- the list holds the runs from the place `at` on
abbrev pub RoomAt : List Run → ℕ → List ℕ → Type 0
RoomAt rs at l = at + length (flat rs) ≤ length l

-- of a list that was `old`: the runs' numbers stand there from the place `at` on, and n is how many
pub record WrittenAt (rs : List Run) (at n : ℕ) (old new : List ℕ) : Type 0 where
  pub count : n ≡ length (flat rs)
  pub list_is : new ≡ take at old ++ written (flat rs) (drop at old)

-- the same from the front
abbrev pub Room : List Run → List ℕ → Type 0
Room rs l = length (flat rs) ≤ length l

pub record Written (rs : List Run) (n : ℕ) (old new : List ℕ) : Type 0 where
  pub count : n ≡ length (flat rs)
  pub list_is : new ≡ written (flat rs) old
