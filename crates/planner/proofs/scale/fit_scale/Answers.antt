-- Where both axes fail at 100, the scale is 100 with its note, and else what halving finds.
use Rattle.std.proofs.Common.{sym}
use Rattle.planner_rules.proofs.ScaleLaws.{fit_none, fit_found}
use Rattle.planner.specs.Axes.{both_pass}
use Rattle.planner.proofs.scale.fit_scale.Goals as goal

pub returns-then-not-both_pass : goal.returns-then-not-both_pass
returns-then-not-both_pass c =
    let a = c.args in
    let passes = both_pass a.rows a.columns in
    fit_none passes (sym c.if-not-both_pass.ensures)

pub returns : goal.returns
returns c =
    let a = c.args in
    let passes = both_pass a.rows a.columns in
    fit_found passes _ (sym c.if-not-both_pass.ensures) c.halved_permille.ensures
