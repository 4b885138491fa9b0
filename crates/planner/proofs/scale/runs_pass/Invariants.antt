-- The runs so far fit and meet the target, and the answer for those of the slots that are left is the whole answer.
use Rattle.std.proofs.Common.{◌≡◌, ◌&&◌, true, ◌+◌, ◌≤◌, length}
use Rattle.planner_rules.specs.Runs.{runs}
use Rattle.planner_rules.specs.Scale.{all_fit, meets, space_of, titled}
use Rattle.planner_rules.proofs.ScaleLaws.{pass_from}
use Rattle.planner.proofs.scale.runs_pass.Given as goal

abbrev pub invariant-loop-head : goal.invariant-loop-head
invariant-loop-head l =
    let k = l.cutter.frame in
    let cut = runs k l.cutter.merges.firsts.now l.cutter.merges.lasts.now in
    let all = cut l.slots.indexes.now l.slots.sizes.now in
    let space = space_of l.page.side in
    record {
      left : pass_from space (titled k.title) l.target l.page.permille l.count (cut l.rest.indexes.now l.rest.sizes.now)
          ≡ all_fit space (titled k.title) l.page.permille all && meets l.target (length all);
      met : meets l.target l.count ≡ true;
      few : l.count + length l.rest.sizes.now ≤ length l.slots.sizes.now;
    }

abbrev pub decreases-loop-head : goal.decreases-loop-head
decreases-loop-head l = length l.rest.sizes.now
