-- The next cut is the placed one, where that is kept.
use Rattle.std.proofs.Common.{◌∙◌, arith, rules, tests}
use Rattle.planner_rules.proofs.Laws.{split}
use Rattle.planner_rules.proofs.AxisLaws.{kept_yes, kept_past, kept_low, next_is, next_stays}
use Rattle.planner.proofs.runs.Cutter.next_cut.Goals as goal

pub returns-then-b-indexes-clause-value : goal.returns-then-b-indexes-clause-value
returns-then-b-indexes-clause-value c = next_stays _ _ _ _ _ _ (search (rules, tests)) (omega arith) (omega arith)

pub returns-then-place-indexes-clause-value : goal.returns-then-place-indexes-clause-value
returns-then-place-indexes-clause-value c =
    kept_yes _ _ _ c.if-place-prev.true c.if-place-indexes.true ∙ next_is _ _ _ _ _ _ _ _ c.break_place-p.ensures c.placed_cut-place.ensures

pub returns-clause-value : goal.returns-clause-value
returns-clause-value c =
    let cut = c.placed_cut-place.result in
    let there = next_is _ _ _ _ _ _ _ _ c.break_place-p.ensures c.placed_cut-place.ensures in
    split cut.place c.args.prev (λ h. kept_low _ _ _ h ∙ there) (λ h. kept_past _ _ _ h (grind arith) ∙ there)
