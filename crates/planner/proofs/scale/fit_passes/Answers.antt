-- The runs that are asked about are those at the permille.
use Rattle.std.proofs.Common.{◌&&◌, Bool, length, ap, ◌∙◌, rules, tests}
use Rattle.planner_rules.specs.declared.runs.Frame.{Frame}
use Rattle.planner_rules.specs.Runs.{run, runs}
use Rattle.planner_rules.specs.Scale.{runs_at, all_fit, meets, space_of, body_for, titled}
use Rattle.planner_rules.specs.Plan.{ready_frame}
use Rattle.planner_rules.proofs.Laws.{none, some}
use Rattle.planner_rules.proofs.ScaleLaws.{no_runs, some_runs}
use Rattle.planner.proofs.scale.fit_passes.Goals as goal

pub returns-then-is_empty : goal.returns-then-is_empty
unfolding runs_at runs
returns-then-is_empty c =
    let a = c.args in
    let body = body_for a.axis.fit.stretch a.axis.merges.firsts.now a.axis.merges.lasts.now a.axis.slots.indexes.now a.axis.slots.sizes.now in
    c.empty_fits.ensures ∙ no_runs (space_of a.axis.fit.page) body a.axis.fit.target a.permille
    (none (run (ready_frame a.axis.fit a.permille) a.axis.merges.firsts.now a.axis.merges.lasts.now) a.axis.slots.indexes.now a.axis.slots.sizes.now
    (search (rules, tests)))

pub returns : goal.returns
unfolding runs_at runs
returns c =
    let a = c.args in
    let body = body_for a.axis.fit.stretch a.axis.merges.firsts.now a.axis.merges.lasts.now a.axis.slots.indexes.now a.axis.slots.sizes.now in
    let passes : Frame → Bool = λ f.
    let rs = runs f a.axis.merges.firsts.now a.axis.merges.lasts.now a.axis.slots.indexes.now a.axis.slots.sizes.now in
    all_fit (space_of a.axis.fit.page) (titled f.title) a.permille rs && meets a.axis.fit.target (length rs) in
    c.runs_pass.ensures ∙ ap passes c.frame_at.ensures
    ∙ some_runs (space_of a.axis.fit.page) body a.axis.fit.target a.permille
    (some (run (ready_frame a.axis.fit a.permille) a.axis.merges.firsts.now a.axis.merges.lasts.now) a.axis.slots.indexes.now a.axis.slots.sizes.now
    (search (rules, tests))
    a.axis.slots.are.even)
