-- The cells that lie in at least one of several areas, each counted once (document 02, T-02). Assumes nothing.
use Rattle.std.specs.Prelude.{Bool, true, false, cond, ◌&&◌, ◌||◌, List, [], ◌∷◌, ℕ, zero, suc, ◌+◌, leb, Option, Some, None}
use Rattle.planner_rules.specs.declared.planning.PrintRange.{PrintRange}

-- a number stands between two, or is one of them
abbrev pub between : ℕ → ℕ → ℕ → Bool
between first last x = leb first x && leb x last

-- the cell at a row and a column lies in an area
abbrev pub in_area : PrintRange → ℕ → ℕ → Bool
in_area g row column = between g.first_row g.last_row row && between g.first_column g.last_column column

-- "lying in at least one area": std's `list_any`, in its own words, as the sentence has them
unfoldable pub in_some : List PrintRange → ℕ → ℕ → Bool
in_some [] row column = false
in_some (g ∷ gs) row column = in_area g row column || in_some gs row column

-- f 0 + f 1 + .. + f (n - 1)
unfoldable pub total : ℕ → (ℕ → ℕ) → ℕ
total zero f = 0
total (suc n) f = total n f + f n

-- of a grid with so many rows and columns: "the cells lying in at least one area, each cell counted once"
unfoldable pub cells_in : ℕ → ℕ → List PrintRange → ℕ
cells_in rows columns gs = total rows (λ (row : ℕ). total columns (λ (column : ℕ). cond (in_some gs row column) 1 0))

-- the same of the grid, whose last cell is 1,048,575, 16,383
unfoldable pub union_cells : List PrintRange → ℕ
union_cells gs = cells_in 1048576 16384 gs

-- 15: "UC .. limits the cells lying in at least one area ..; absent means no limit"
unfoldable pub cells_hold : Option ℕ → List PrintRange → Bool
cells_hold None gs = true
cells_hold (Some most) gs = leb (union_cells gs) most
