-- What is left of the rooms holds the areas that are left.
use Rattle.std.proofs.Common.{refl, sym, ◌∙◌, arith}
use Rattle.planner_rules.proofs.AreaPages.{held_end, held_on, held_few_rows, held_few_columns}
use Rattle.planner_pages.proofs.areas.runs_fit.Goals as goal

pub returns-then-area-rows : goal.returns-then-area-rows
returns-then-area-rows c =
    let l = c.loop-area in
    held_few_rows c.args.areas.now l.area-index l.rows l.columns _ (omega arith) refl c.if-area-rows.true ∙ l.invariant.held

pub returns-then-area-columns : goal.returns-then-area-columns
returns-then-area-columns c =
    let l = c.loop-area in
    held_few_columns c.args.areas.now l.area-index l.rows l.columns _ (omega arith) refl c.if-area-columns.true ∙ l.invariant.held

pub loop-area-preserved : goal.loop-area-preserved
loop-area-preserved c =
    let l = c.loop-area in
    record {
      within = omega arith;
      held = held_on c.args.areas.now l.area-index l.rows l.columns _ (omega arith) refl c.if-area-rows.false c.if-area-columns.false ∙ l.invariant.held;
    }

pub returns : goal.returns
returns c =
    let l = c.loop-area in
    sym (held_end c.args.areas.now l.area-index l.rows l.columns (omega arith)) ∙ l.invariant.held
