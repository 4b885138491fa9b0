-- Laws of cells in areas: between row edges, and in a stretch of a row (`specs/Edges.antt`). Assumes nothing.
use mathlib.Core.Path.{◌≡◌, refl, ap}
use mathlib.Core.Bool.{Bool, true, false, ◌&&◌}
use mathlib.Core.List.{List, [], ◌∷◌}
use Prim.Native.Nat.{ℕ, suc, ◌+◌, ◌≤◌, ◌<◌, min}
use native.Mathlib.Omega.{arith}
use lib.ListN.{length, get_or}
use borrow.Author.Count.{below_more}
use borrow.Author.Tests.{le-leb, lt-leb}
use Rattle.planner_rules.proofs.Laws.{split}
use Rattle.planner_rules.specs.declared.planning.PrintRange.{PrintRange}
use Rattle.planner_rules.specs.Areas.{no_range}
use Rattle.planner_rules.specs.Union.{between, in_area, in_some}
use Rattle.planner_areas.specs.declared.union.Stretch.{Stretch}
use Rattle.planner_areas.specs.Edges.{Nearer, Free, ClearOf, Clear, Grown, StretchOf}
use Rattle.std.proofs.lemmas.List.Recursion.{or_at, or_from_places}

-- ---- areas one by one

-- cells that lie alike in each area lie alike in some
alike : (gs : List PrintRange) (row column row' column' : ℕ)
    → ((k : ℕ) → k < length gs → in_area (get_or gs k no_range) row column ≡ in_area (get_or gs k no_range) row' column')
    → in_some gs row column ≡ in_some gs row' column'
unfolding in_some
alike [] r c r' c' e = refl
alike (g ∷ gs) r c r' c' e = rw (e 0 (omega arith), alike gs r c r' c' (λ k h. e (suc k) (omega arith)))

-- a cell of an area lies in some
some_held : (gs : List PrintRange) (k row column : ℕ) → k < length gs → in_area (get_or gs k no_range) row column ≡ true → in_some gs row column ≡ true
unfolding in_some
some_held gs k r c h e = or_at (λ gs. in_some gs r c) (λ g. in_area g r c) refl (λ _ _. refl) gs k no_range h e

-- a cell of no area lies in none
pub none_held : (gs : List PrintRange) (row column : ℕ) → ((k : ℕ) → k < length gs → in_area (get_or gs k no_range) row column ≡ false)
    → in_some gs row column ≡ false
unfolding in_some
none_held gs r c e = or_from_places (λ gs. in_some gs r c) (λ g. in_area g r c) refl (λ _ _. refl) gs no_range e

-- ---- between row edges

-- between two rows where an area neither starts nor ends, a row lies in it or not as the first one does
as_first : (from to x : ℕ) (g : PrintRange) → Free from to g → from ≤ x → x < to
    → between g.first_row g.last_row x ≡ between g.first_row g.last_row from
as_first from to x g free low high =
    split g.first_row from
    (λ started.
    let b : g.first_row ≤ x = omega arith in
    split from g.last_row
    (λ going.
    let l : x ≤ g.last_row = omega (arith, free.no_end (omega arith)) in
    rw (le-leb g.first_row x b, le-leb x g.last_row l, le-leb g.first_row from started, le-leb from g.last_row going))
    (λ ended.
    let l : g.last_row < x = omega arith in
    rw (le-leb g.first_row x b, lt-leb x g.last_row l, le-leb g.first_row from started, lt-leb from g.last_row ended)))
    (λ later.
    let b : x < g.first_row = omega (arith, free.no_start later) in
    rw (lt-leb g.first_row x b, lt-leb g.first_row from later))

-- rows between edges have their cells in the same columns
pub rows_alike : (gs : List PrintRange) (from to x column : ℕ) → from ≤ x → x < to → Clear gs from to → in_some gs x column ≡ in_some gs from column
rows_alike gs from to x column low high clear =
    alike gs x column from column
    (λ k h.
    let g = get_or gs k no_range in
    ap (λ (b : Bool). b && between g.first_column g.last_column column) (as_first from to x g (clear.free k h) low high))

-- ---- the nearest edge

free_less : (from to less : ℕ) (g : PrintRange) → less ≤ to → Free from to g → Free from less g
free_less from to less g h f = record { no_start = λ p. omega (arith, f.no_start p); no_end = λ p. omega (arith, f.no_end p) }

-- one area more was looked at
pub one_more_lem : (gs : List PrintRange) (from k nearest start end : ℕ) → ClearOf k gs from nearest
    → Nearer (get_or gs k no_range).first_row from nearest start → Nearer ((get_or gs k no_range).last_row + 1) from start end
    → ClearOf (k + 1) gs from end
one_more_lem gs from k nearest start end clear f l = record {
  past = l.past;
  upto = omega (arith, clear.upto, f.upto, l.upto);
  free = below_more _ _
      (λ j h. free_less from nearest end (get_or gs j no_range) (omega (arith, f.upto, l.upto)) (clear.free j h))
      (record { no_start = λ p. omega (arith, f.clear p, l.upto); no_end = λ p. l.clear p });
}

-- ---- a stretch of a row

-- one area more was looked at
pub one_more_grown : (gs : List PrintRange) (row column k : ℕ) (s t : Stretch) → k < length gs
    → StretchOf k gs row column s → Grown (get_or gs k no_range) row s t → StretchOf (k + 1) gs row column t
one_more_grown gs row column k s t lt o n = record {
  from = omega (arith, o.from, n.further);
  past = omega (arith, o.from, o.past, n.past);
  upto = omega (arith, o.upto, n.upto);
  held = λ x l h. split s.reach x (λ far. some_held gs k row x lt (n.held x far h)) (λ near. o.held x l near);
  free = below_more _ _ (λ j b x l h. o.free j b x (omega (arith, n.further)) (omega (arith, n.upto))) n.free;
}

-- what a stretch reaches past the grid is left out
pub within : (gs : List PrintRange) (row column k : ℕ) (s : Stretch)
    → StretchOf k gs row column s → StretchOf k gs row column (record { reach = min s.reach 16384; start = s.start })
within gs row column k s o = record {
  from = omega (arith, o.from, o.past, o.upto);
  past = o.past;
  upto = o.upto;
  held = λ x l h. o.held x l (omega arith);
  free = λ j b x l h. o.free j b x (omega (arith, o.upto)) h;
}
