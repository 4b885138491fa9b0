-- An area at a permille is counted and, where its runs have room, written.
use Rattle.std.proofs.Common.{◌≡◌, ℕ, ◌≤◌, List, Bool, true, false, ◌&&◌, leb, length, sym, ap, ◌∙◌, arith, leb-true}
use Rattle.units.specs.Outcome.{Outcome, given, refused}
use Rattle.planner_rules.specs.declared.planning.PrintRange.{PrintRange}
use Rattle.planner_rules.specs.declared.planning.CountedArea.{CountedArea}
use Rattle.planner_rules.specs.declared.planning.Shared.{Shared}
use Rattle.planner_rules.specs.Slots.{written}
use Rattle.planner_rules.specs.Lent.{room_in, flat}
use Rattle.planner_rules.specs.Plan.{Sheet, AreaLayout, plan_in, rows_in, columns_in, counted_at, area_at, scale_at, area_room, AreaWrote}
use Rattle.planner_rules.specs.Asked.{sheet_by}
use Rattle.planner_rules.specs.Steps.{sides_in, Writable, rows_at, columns_at}
use Rattle.planner_rules.proofs.AreaLaws.{as_long, writable, rows_filled, columns_filled}
use Rattle.planner_rules.proofs.Lent.{room_runs}
use Rattle.planner_rules.proofs.PlanLaws.{refuses_area, answers_area, runs_held}
use Rattle.planner.proofs.sheet_area.SheetArea.write_at.Goals as goal
use Rattle.std.proofs.lemmas.Bool.{and_parts}

-- an area that was counted at a permille, and two lent lists
module _ (x : Shared) (s : Sheet) (g : PrintRange) (p : ℕ) (k : CountedArea) (e : k ≡ counted_at (sides_in x) (rows_in s g) (columns_in s g) (scale_at p))
    (rows columns : List ℕ) where
  abbrev laid : AreaLayout
  laid = area_at (sides_in x) (rows_in s g) (columns_in s g) (scale_at p)

  abbrev room : Outcome AreaLayout
  room = area_room laid (room_in rows) (room_in columns)

  came_to : k.area ≡ plan_in laid
  unfolding area_at
  came_to = ap (λ (r : CountedArea). r.area) e

  long : (length laid.rows ≡ k.area.row_runs) × (length laid.columns ≡ k.area.column_runs)
  long = as_long x s g (scale_at p) k.area came_to

  abbrev held : Bool
  held = leb k.area.row_runs (room_in rows) && leb k.area.column_runs (room_in columns)

  held_is : (leb (length laid.rows) (room_in rows) && leb (length laid.columns) (room_in columns)) ≡ held
  held_is = rw (long.0, long.1)

  no_room : held ≡ false → AreaWrote room (refused 11) rows columns rows columns
  no_room h = refuses_area _ 11 rows columns (rw (held_is ∙ h))

  module _ (h : held ≡ true) where
    halves : (leb k.area.row_runs (room_in rows) ≡ true) × (leb k.area.column_runs (room_in columns) ≡ true)
    halves = and_parts (leb k.area.row_runs (room_in rows)) (leb k.area.column_runs (room_in columns)) h

    rows_fit : length laid.rows ≤ room_in rows
    rows_fit = omega (arith, long, leb-true k.area.row_runs (room_in rows) halves.0)

    columns_fit : length laid.columns ≤ room_in columns
    columns_fit = omega (arith, long, leb-true k.area.column_runs (room_in columns) halves.1)

    can_write : Writable x s g k.area rows columns
    can_write =
        writable x s g (scale_at p) k.area came_to rows columns (room_runs laid.rows rows rows_fit) (room_runs laid.columns columns columns_fit)

    answers : (rows' columns' : List ℕ) → rows' ≡ written (flat (rows_at x s g k.area.permille)) rows
        → columns' ≡ written (flat (columns_at x s g k.area.permille)) columns
        → AreaWrote room (given (record { rows = k.area.row_runs; columns = k.area.column_runs })) rows columns rows' columns'
    answers rows' columns' put puts =
        answers_area _ laid _ (runs_held laid (room_in rows) (room_in columns) rows_fit columns_fit)
        (λ i. record { rows = sym long.0 i; columns = sym long.1 i }) rows columns _ _
        (rows_filled x s g (scale_at p) k.area came_to rows _ put) (columns_filled x s g (scale_at p) k.area came_to columns _ puts)

pub returns-then-not-runs_held : goal.returns-then-not-runs_held
returns-then-not-runs_held c =
    let a = c.args in
    let s = a.self.now in
    no_room s.sheet.shared.now (sheet_by s.sheet.shared.now s.sheet.lists.now) s.ready.range a.permille _ c.count_at.ensures.counted a.row_runs.now
    a.column_runs.now (sym (rw (c.rooms_in.ensures.0, c.rooms_in.ensures.1) at c.runs_held.ensures) ∙ c.if-not-runs_held.true)

pub write_by-requires-clause-writable : goal.write_by-requires-clause-writable
write_by-requires-clause-writable c =
    let a = c.args in
    let s = a.self.now in
    let held = sym (rw (c.rooms_in.ensures.0, c.rooms_in.ensures.1) at c.runs_held.ensures) ∙ c.if-not-runs_held.false in
    can_write s.sheet.shared.now (sheet_by s.sheet.shared.now s.sheet.lists.now) s.ready.range a.permille _ c.count_at.ensures.counted a.row_runs.now
    a.column_runs.now held

pub returns : goal.returns
returns c =
    let a = c.args in
    let s = a.self.now in
    let held = sym (rw (c.rooms_in.ensures.0, c.rooms_in.ensures.1) at c.runs_held.ensures) ∙ c.if-not-runs_held.false in
    answers s.sheet.shared.now (sheet_by s.sheet.shared.now s.sheet.lists.now) s.ready.range a.permille _ c.count_at.ensures.counted a.row_runs.now
    a.column_runs.now held _ _ c.write_by.ensures.0 c.write_by.ensures.1
