-- What was counted at the scale that was chosen is what the area comes to.
use Rattle.std.proofs.Common.{◌≡◌, ap, ◌∙◌}
use Rattle.planner_rules.specs.declared.planning.PrintRange.{PrintRange}
use Rattle.planner_rules.specs.declared.planning.CountedArea.{CountedArea}
use Rattle.planner_rules.specs.declared.planning.Shared.{Shared}
use Rattle.planner_rules.specs.Scale.{Scale}
use Rattle.planner_rules.specs.Plan.{Sheet, rows_in, columns_in, chosen_scale, counted_at, area_at, area_layout}
use Rattle.planner_rules.specs.Asked.{sheet_by}
use Rattle.planner_rules.specs.Steps.{sides_in}
use Rattle.planner_rules.proofs.AreaLaws.{area_few}
use Rattle.planner.proofs.sheet_area.SheetArea.count.Goals as goal

chosen : (x : Shared) (s : Sheet) (g : PrintRange) (z : Scale) (k : CountedArea)
    → z ≡ chosen_scale s.settings (sides_in x) (rows_in s g) (columns_in s g) → k ≡ counted_at (sides_in x) (rows_in s g) (columns_in s g) z
    → k ≡ (area_layout (sides_in x) s g).counted
unfolding area_layout area_at
chosen x s g z k q e = e ∙ ap (counted_at (sides_in x) (rows_in s g) (columns_in s g)) q

pub returns-clause-counted : goal.returns-clause-counted
returns-clause-counted c =
    let a = c.args.self.now in
    chosen a.sheet.shared.now (sheet_by a.sheet.shared.now a.sheet.lists.now) a.ready.range _ _ c.choose_scale.ensures c.count_at.ensures.counted

pub returns-clause-few : goal.returns-clause-few
returns-clause-few c =
    let a = c.args.self.now in
    let x = a.sheet.shared.now in
    let sheet = sheet_by x a.sheet.lists.now in
    area_few (sides_in x) sheet a.ready.range _ (chosen x sheet a.ready.range _ _ c.choose_scale.ensures c.count_at.ensures.counted) c.count_at.ensures.few_cut
