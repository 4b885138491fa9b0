-- What the definition of the union (`specs/Union.antt` of planner_rules) comes to: an area that stands twice, and one area. Assumes nothing.
use mathlib.Core.Path.{◌≡◌, ap}
use mathlib.Core.Bool.{Bool, cond, or_self_left}
use mathlib.Core.List.{List, [], ◌∷◌}
use Prim.Native.Nat.{ℕ, ◌+◌, ◌-◌, ◌*◌, ◌≤◌, ◌<◌}
use native.Mathlib.Omega.{arith}
use borrow.Author.Tests.{le-leb, lt-leb}
use Rattle.planner_rules.specs.declared.planning.PrintRange.{PrintRange}
use Rattle.planner_rules.specs.Union.{in_area, in_some, total, cells_in, union_cells}
use Rattle.planner_areas.proofs.Totals.{cell, total_none, total_to, total_same}

-- ---- an area that stands twice counts once

pub counted_once : (g : PrintRange) (gs : List PrintRange) → union_cells (g ∷ g ∷ gs) ≡ union_cells (g ∷ gs)
unfolding union_cells cells_in in_some
counted_once g gs =
    total_same 1048576 (λ (r : ℕ). total 16384 (cell (g ∷ g ∷ gs) r)) (λ (r : ℕ). total 16384 (cell (g ∷ gs) r))
    (λ r.
    total_same 16384 (cell (g ∷ g ∷ gs) r) (cell (g ∷ gs) r)
    (λ c. ap (λ (b : Bool). cond b 1 0) (or_self_left (in_area g r c) (in_some gs r c))))

-- ---- one area in the grid has its rows times its columns

module _ (first last n v : ℕ) (f : ℕ → ℕ) (ordered : first ≤ last) (inside : last < n) (held : (x : ℕ) → first ≤ x → x ≤ last → f x ≡ v)
    (before : (x : ℕ) → x < first → f x ≡ 0) (behind : (x : ℕ) → last < x → f x ≡ 0) where
  block : total n f ≡ (last + 1 - first) * v
  block =
      let a = total_to 0 first f 0 (omega arith) (λ x l h. before x h) in
      let b = total_to first (last + 1) f v (omega arith) (λ x l h. held x l (omega arith)) in
      let c = total_to (last + 1) n f 0 (omega arith) (λ x l h. behind x (omega arith)) in
      omega (arith, total_none f, a, b, c)

module _ (g : PrintRange) (rows : g.first_row ≤ g.last_row) (columns : g.first_column ≤ g.last_column) (row_room : g.last_row < 1048576)
    (column_room : g.last_column < 16384) where
  module _ (row : ℕ) where
    in_row : g.first_row ≤ row → row ≤ g.last_row → total 16384 (cell (g ∷ []) row) ≡ g.last_column + 1 - g.first_column
    unfolding in_some
    in_row low high =
        let from = le-leb g.first_row row low in
        let to = le-leb row g.last_row high in
        let cells =
        block g.first_column g.last_column 16384 1 (cell (g ∷ []) row) columns column_room
        (λ c l h. rw (from, to, le-leb g.first_column c l, le-leb c g.last_column h))
        (λ c h. rw (from, to, lt-leb g.first_column c h))
        (λ c h.
        let l : g.first_column ≤ c = omega arith in
        rw (from, to, le-leb g.first_column c l, lt-leb c g.last_column h)) in
        omega (arith, cells)

    out_of_rows : ((c : ℕ) → cell (g ∷ []) row c ≡ 0) → total 16384 (cell (g ∷ []) row) ≡ 0
    out_of_rows e = omega (arith, total_none (cell (g ∷ []) row), total_to 0 16384 (cell (g ∷ []) row) 0 (omega arith) (λ c l h. e c))

  pub one_area : union_cells (g ∷ []) ≡ (g.last_row + 1 - g.first_row) * (g.last_column + 1 - g.first_column)
  unfolding union_cells cells_in in_some
  one_area =
      block g.first_row g.last_row 1048576 (g.last_column + 1 - g.first_column) (λ (row : ℕ). total 16384 (cell (g ∷ []) row)) rows row_room
      (λ row l h. in_row row l h)
      (λ row h. out_of_rows row (λ c. rw (lt-leb g.first_row row h)))
      (λ row h. let l : g.first_row ≤ row = omega arith in out_of_rows row (λ c. rw (le-leb g.first_row row l, lt-leb row g.last_row h)))
