-- Which breaks are skipped, and where the others are cut.
use Rattle.std.proofs.Common.{Option, sym, ap, ◌∙◌, arith}
use Rattle.planner_rules.specs.declared.titles.Span.{Span}
use Rattle.planner_rules.specs.Runs.{moved}
use Rattle.planner_rules.proofs.Laws.{split}
use Rattle.planner_rules.proofs.AxisLaws.{placed_zero, placed_past, placed_title, placed_moved}
use Rattle.planner.proofs.runs.Cutter.placed_cut.Goals as goal

pub returns-then-p-eq0 : goal.returns-then-p-eq0
returns-then-p-eq0 c =
    split c.args.p 0 (λ h. placed_zero _ _ _ _ _ _ h) (λ h. placed_past _ _ _ _ _ _ h (grind arith))

pub returns-then-holds : goal.returns-then-holds
returns-then-holds c = placed_title _ _ _ _ _ _ (omega arith) (omega arith) (sym c.holds.ensures ∙ c.if-holds.true)

pub returns : goal.returns
returns c =
    let a = c.args in
    c.moved_cut.ensures ∙ ap (λ (h : Option Span). moved h a.prev a.p a.slots.indexes.now) c.holder.ensures
    ∙ placed_moved _ _ _ _ _ _ (omega arith) (omega arith) (sym c.holds.ensures ∙ c.if-holds.false)
