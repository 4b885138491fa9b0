-- Its first no refuses, and else there is the page.
use Rattle.std.proofs.Common.{◌≡◌, ℕ, ◌-◌, ◌≤◌, List, Bool, true, false, ◌&&◌, leb, ltb, sym, ap, ◌∙◌, arith, rules, leb-true, ltb-true, ltb-false}
use Rattle.units.specs.Outcome.{given, refused}
use Rattle.units.specs.Refusals.{outcome}
use Rattle.planner_rules.specs.declared.pages.AreaPlan.{AreaPlan}
use Rattle.planner_rules.specs.declared.planning.RunCounts.{RunCounts}
use Rattle.planner_rules.specs.Lent.{room_in}
use Rattle.planner_rules.specs.Pages.{pages_in, holds_area, area_numbered}
use Rattle.planner_rules.proofs.PagesCode.{area_zero, area_past, area_found}
use Rattle.planner_pages.proofs.area_page.Goals as goal
use Rattle.std.proofs.lemmas.Bool.{and_parts}

module _ (a : AreaPlan) (rows columns : List ℕ) (room : RunCounts) (e : (room.rows ≡ room_in rows) × (room.columns ≡ room_in columns)) (held : Bool)
    (h : held ≡ (leb a.row_runs room.rows && leb a.column_runs room.columns)) where
  none : held ≡ false → holds_area a rows columns ≡ false
  none n = rw (sym e.0, sym e.1) (sym h ∙ n)

  few : held ≡ true → (a.row_runs ≤ room_in rows) × (a.column_runs ≤ room_in columns)
  few y =
      let halves = and_parts (leb a.row_runs room.rows) (leb a.column_runs room.columns) (sym h ∙ y) in
      (omega (arith, e.0, leb-true a.row_runs room.rows halves.0), omega (arith, e.1, leb-true a.column_runs room.columns halves.1))

pub returns-then-not-runs_held : goal.returns-then-not-runs_held
unfolding area_numbered
returns-then-not-runs_held c =
    let a = c.args in
    rw (none a.area a.runs.rows.now a.runs.columns.now _ c.rooms_in.ensures _ c.runs_held.ensures c.if-not-runs_held.true)

pub returns-in_err-before : goal.returns-in_err-before
returns-in_err-before c =
    let a = c.args in
    let fit = few a.area a.runs.rows.now a.runs.columns.now _ c.rooms_in.ensures _ c.runs_held.ensures c.if-not-runs_held.false in
    let zero : a.number ≡ 0 = grind arith in
    let e : outcome c.from_residual.result ≡ refused 14 = search rules in
    e ∙ area_zero a.order a.area a.runs.rows.now a.runs.columns.now a.number fit.0 fit.1 zero

pub returns-then-not-has_more : goal.returns-then-not-has_more
returns-then-not-has_more c =
    let a = c.args in
    let fit = few a.area a.runs.rows.now a.runs.columns.now _ c.rooms_in.ensures _ c.runs_held.ensures c.if-not-runs_held.false in
    let low : 1 ≤ a.number = grind arith in
    let e : c.in_ok-before.before ≡ a.number - 1 = grind arith in
    let more : ltb c.in_ok-before.before (pages_in a.area) ≡ false = sym c.has_more.ensures ∙ c.if-not-has_more.true in
    area_past a.order a.area a.runs.rows.now a.runs.columns.now a.number fit.0 fit.1 low (ltb-false _ _ (rw e at more))

pub returns : goal.returns
returns c =
    let a = c.args in
    let fit = few a.area a.runs.rows.now a.runs.columns.now _ c.rooms_in.ensures _ c.runs_held.ensures c.if-not-runs_held.false in
    let low : 1 ≤ a.number = grind arith in
    let e : c.in_ok-before.before ≡ a.number - 1 = grind arith in
    let more : ltb c.in_ok-before.before (pages_in a.area) ≡ true = sym c.has_more.ensures ∙ c.if-not-has_more.false in
    ap given (rw (c.default.ensures.0, c.default.ensures.1, e) at c.page_at.ensures)
    ∙ area_found a.order a.area a.runs.rows.now a.runs.columns.now a.number fit.0 fit.1 low (ltb-true _ _ (rw e at more))
