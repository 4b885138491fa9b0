-- A no of 11 or 12 refuses, and else the runs of the area are written: it is all of a plan of one.
use Rattle.std.proofs.Common.{◌≡◌, ℕ, ◌≤◌, List, [], ◌∷◌, length, refl, sym, ap, ◌∙◌, arith, rules, Err}
use mathlib.Core.List.{append-nil}
use Rattle.planner_rules.specs.declared.planning.PrintRange.{PrintRange}
use Rattle.planner_rules.specs.declared.planning.CountedArea.{CountedArea}
use Rattle.planner_rules.specs.declared.planning.CountedAreas.{CountedAreas}
use Rattle.planner_rules.specs.declared.planning.Shared.{Shared}
use Rattle.planner_rules.specs.Runs.{Run}
use Rattle.planner_rules.specs.Slots.{written}
use Rattle.planner_rules.specs.Lent.{room_in, flat}
use Rattle.planner_rules.specs.Pages.{joined}
use Rattle.planner_rules.specs.Scale.{Scale}
use Rattle.planner_rules.specs.Plan.{Sheet, AreaLayout, plan_in, rows_in, columns_in, chosen_scale, area_layout, layout, layouts_of}
use Rattle.planner_rules.specs.Plan.{row_runs_of, column_runs_of}
use Rattle.planner_rules.specs.Steps.{sides_in, counted_of, Added, Writable, rows_at, columns_at}
use Rattle.planner_rules.proofs.Lent.{room_runs}
use Rattle.planner_rules.proofs.AreaLaws.{writable, rows_filled, columns_filled}
use Rattle.planner_rules.proofs.AreasLaws.{few_none, counted_next}
use Rattle.planner_rules.proofs.QuestionLaws.{positive}
use Rattle.planner_rules.proofs.PlanLaws.{refuses_plan, answers_plan, room_refused, room_given, runs_fit_lem, plan_value}
use Rattle.planner.proofs.sheet_area.SheetArea.plan.Goals as goal

-- the runs of an area that stands alone are those of all areas
alone : (rs : List Run) → joined (rs ∷ []) ≡ rs
unfolding joined
alone rs = append-nil rs

module _ (x : Shared) (s : Sheet) (g : PrintRange) (k : CountedArea) (e : k ≡ (area_layout (sides_in x) s g).counted) where
  abbrev laid : AreaLayout
  laid = area_layout (sides_in x) s g

  abbrev scale : Scale
  scale = chosen_scale s.settings (sides_in x) (rows_in s g) (columns_in s g)

  all_counted : (none r : CountedAreas) → none ≡ counted_of [] → Added r none k → r ≡ counted_of (layouts_of (sides_in x) s (g ∷ []))
  all_counted none r q w = counted_next (sides_in x) s (g ∷ []) 0 g (omega arith) refl none r k q e w

  came_to : k.area ≡ plan_in laid
  came_to = ap (λ (c : CountedArea). c.area) e

  can_write : (rows columns : List ℕ) → length (row_runs_of (laid ∷ [])) ≤ room_in rows
      → length (column_runs_of (laid ∷ [])) ≤ room_in columns → Writable x s g k.area rows columns
  unfolding area_layout
  can_write rows columns hr hc =
      writable x s g scale k.area came_to rows columns (room_runs laid.rows rows (rw (alone laid.rows) at hr))
      (room_runs laid.columns columns (rw (alone laid.columns) at hc))

  rows_written : (old new : List ℕ) → new ≡ written (flat (rows_at x s g k.area.permille)) old → new ≡ written (flat (row_runs_of (laid ∷ []))) old
  unfolding area_layout
  rows_written old new h =
      rows_filled x s g scale k.area came_to old new h ∙ ap (λ (rs : List Run). written (flat rs) old) (sym (alone laid.rows))

  columns_written : (old new : List ℕ) → new ≡ written (flat (columns_at x s g k.area.permille)) old
      → new ≡ written (flat (column_runs_of (laid ∷ []))) old
  unfolding area_layout
  columns_written old new h =
      columns_filled x s g scale k.area came_to old new h ∙ ap (λ (rs : List Run). written (flat rs) old) (sym (alone laid.columns))

pub add_area-requires-clause-few_all : goal.add_area-requires-clause-few_all
add_area-requires-clause-few_all c = (rw c.no_areas-counted.ensures few_none, c.count-one.ensures.few)

pub returns-in_err-ask_room : goal.returns-in_err-ask_room
returns-in_err-ask_room c =
    let a = c.args in
    let x = a.self.now.sheet.shared.now in
    let gs = a.self.now.ready.range ∷ [] in
    let all = all_counted x _ a.self.now.ready.range _ c.count-one.ensures.counted _ _ c.no_areas-counted.ensures c.add_area.ensures.added in
    let e : c.from_residual.result ≡ Err c.in_err-ask_room.field-0.0 = search rules in
    rw e (refuses_plan _ _ a.row_runs.now a.column_runs.now
    (room_refused (sides_in x) _ gs _ all (room_in a.row_runs.now) (room_in a.column_runs.now) _ c.in_err-ask_room.ensures
    (positive c.in_err-ask_room.field-0.0)))

pub write_by-requires-clause-writable : goal.write_by-requires-clause-writable
write_by-requires-clause-writable c =
    let a = c.args in
    let x = a.self.now.sheet.shared.now in
    let g = a.self.now.ready.range in
    let one = c.count-one.ensures.counted in
    let all = all_counted x _ g _ one _ _ c.no_areas-counted.ensures c.add_area.ensures.added in
    let fit = runs_fit_lem (sides_in x) _ (g ∷ []) _ all (room_in a.row_runs.now) (room_in a.column_runs.now) _ c.in_ok-ask_room.ensures (omega arith) in
    can_write x _ g _ one a.row_runs.now a.column_runs.now fit.0 fit.1

pub returns : goal.returns
unfolding layout
returns c =
    let a = c.args in
    let x = a.self.now.sheet.shared.now in
    let g = a.self.now.ready.range in
    let one = c.count-one.ensures.counted in
    let all = all_counted x _ g _ one _ _ c.no_areas-counted.ensures c.add_area.ensures.added in
    let room = room_given (sides_in x) _ (g ∷ []) _ all (room_in a.row_runs.now) (room_in a.column_runs.now) _ c.in_ok-ask_room.ensures (omega arith) in
    answers_plan _ (layout (sides_in x) _ (g ∷ [])) _ room
    (c.plan_of.ensures ∙ plan_value x _ a.self.now.sheet.settled (g ∷ []) _ all) a.row_runs.now a.column_runs.now _ _
    (rows_written x _ g _ one a.row_runs.now _ c.write_by.ensures.0)
    (columns_written x _ g _ one a.column_runs.now _ c.write_by.ensures.1)
