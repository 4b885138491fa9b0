-- Halving from here on gives what halving from 100 to 1,000 does.
use Rattle.std.proofs.Common.{◌≤◌, ◌-◌}
use Rattle.planner_rules.specs.Scale.{halve}
use Rattle.planner_rules.proofs.Halving.{Halving}
use Rattle.planner.specs.Axes.{both_pass}
use Rattle.planner.proofs.scale.halved_permille.Given as goal

abbrev pub invariant-loop-low : goal.invariant-loop-low
invariant-loop-low l =
    let passes = both_pass l.rows l.columns in
    record {
      from : 100 ≤ l.low;
      to : l.high ≤ 1000;
      between : l.low ≤ l.high;
      halving : Halving passes (halve passes 10 100 1000) l.low l.high;
    }

abbrev pub decreases-loop-low : goal.decreases-loop-low
decreases-loop-low l = l.high - l.low
