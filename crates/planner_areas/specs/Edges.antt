-- For the private functions: rows where an area starts or has ended, and stretches of a row, cell by cell in some area or in none. Assumes nothing.
use Rattle.std.specs.Prelude.{true, false, cond, List, ℕ, ◌≡◌, ◌+◌, ◌≤◌, ◌<◌, min, length, get_or}
use Rattle.planner_rules.specs.declared.planning.PrintRange.{PrintRange}
use Rattle.planner_rules.specs.Areas.{no_range}
use Rattle.planner_rules.specs.Union.{in_area, in_some, total}
use Rattle.planner_areas.specs.declared.union.Stretch.{Stretch}

-- ---- rows

-- of an edge and the nearest one so far, r is the nearer that is past `from`
pub record Nearer (edge from nearest r : ℕ) : Type 0 where
  pub past : from < r
  pub upto : r ≤ nearest
  pub clear : from < edge → r ≤ edge

-- an area neither starts nor ends between two rows
pub record Free (from to : ℕ) (g : PrintRange) : Type 0 where
  pub no_start : from < g.first_row → to ≤ g.first_row
  pub no_end : from < g.last_row + 1 → to ≤ g.last_row + 1

-- so many areas neither start nor end between the rows `from` and r, which is in the grid or its end
pub record ClearOf (count : ℕ) (gs : List PrintRange) (from r : ℕ) : Type 0 where
  pub past : from < r
  pub upto : r ≤ 1048576
  pub free : (k : ℕ) → k < count → Free from r (get_or gs k no_range)

-- none does
abbrev pub Clear : List PrintRange → ℕ → ℕ → Type 0
Clear gs from r = ClearOf (length gs) gs from r

-- ---- the cells of a row

-- an area more makes the stretch t of s: each cell that t reaches further lies in the area, and none from there to its start does
pub record Grown (g : PrintRange) (row : ℕ) (s t : Stretch) : Type 0 where
  pub further : s.reach ≤ t.reach
  pub upto : t.start ≤ s.start
  pub past : min s.start (s.reach + 1) ≤ t.start
  pub held : (x : ℕ) → s.reach ≤ x → x < t.reach → in_area g row x ≡ true
  pub free : (x : ℕ) → t.reach ≤ x → x < t.start → in_area g row x ≡ false

-- a stretch of a row from a column on, of so many areas: some area holds each cell that it reaches, and none of them one from there to its start
pub record StretchOf (count : ℕ) (gs : List PrintRange) (row column : ℕ) (s : Stretch) : Type 0 where
  pub from : column ≤ s.reach
  pub past : column < s.start
  pub upto : s.start ≤ 16384
  pub held : (x : ℕ) → column ≤ x → x < s.reach → in_some gs row x ≡ true
  pub free : (k : ℕ) → k < count → (x : ℕ) → s.reach ≤ x → x < s.start → in_area (get_or gs k no_range) row x ≡ false

-- of all areas, and what it reaches is in the grid
pub record StretchIn (gs : List PrintRange) (row column : ℕ) (s : Stretch) : Type 0 where
  pub stretch : StretchOf (length gs) gs row column s
  pub inside : s.reach ≤ 16384

-- how many cells of a row lie in at least one area
unfoldable pub row_cells : List PrintRange → ℕ → ℕ
row_cells gs row = total 16384 (λ (column : ℕ). cond (in_some gs row column) 1 0)
