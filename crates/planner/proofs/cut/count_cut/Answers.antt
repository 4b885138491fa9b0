-- What was counted by the frame is of the body's runs.
use Rattle.std.proofs.Common.{false, ap, ◌∙◌}
use Rattle.planner_rules.specs.declared.runs.Frame.{Frame}
use Rattle.planner_rules.specs.declared.runs.Tally.{Tally}
use Rattle.planner_rules.specs.Runs.{axis_runs, axis_tally, shifts}
use Rattle.planner_rules.specs.Scale.{space_of}
use Rattle.planner_rules.specs.Pages.{overflowing}
use Rattle.planner_rules.specs.Plan.{ready_frame, cut_from}
use Rattle.planner_rules.proofs.OverflowLaws.{cut_overflowing}
use Rattle.planner_rules.proofs.CutLaws.{cut_from_lem}
use Rattle.planner.proofs.cut.count_cut.Goals as goal

pub returns-clause-counted : goal.returns-clause-counted
unfolding axis_tally
returns-clause-counted c =
    let a = c.args in
    let fit = a.axis.fit in
    let k = ready_frame fit a.permille in
    let fs = a.axis.merges.firsts.now in
    let ls = a.axis.merges.lasts.now in
    let is = a.axis.slots.indexes.now in
    let ss = a.axis.slots.sizes.now in
    let bs = a.breaks.now in
    let all = axis_runs k fs ls is ss 0 bs in
    let e = c.count_axis-counted.ensures.counts in
    let tally_is = e.0 ∙ ap (λ (f : Frame). axis_tally f fs ls is ss bs) c.requires.frame_is in
    let over = λ (f : Frame). overflowing (space_of fit.page) f.title a.permille false (axis_runs f fs ls is ss 0 bs) in
    let over_is = c.cut_overflows.ensures.value
    ∙ cut_overflowing (space_of fit.page) fit.stretch.title a.permille all _ _ (ap (λ (x : Tally). x.runs) tally_is)
    (e.1 ∙ ap over c.requires.frame_is) in
    c.final_cut.ensures ∙ (λ i. cut_from (tally_is i) (over_is i)) ∙ cut_from_lem all (shifts k fs ls is 0 bs) _
