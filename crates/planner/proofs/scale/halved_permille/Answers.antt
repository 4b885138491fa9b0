-- A turn asks the middle, which lies above low and not above high.
use Rattle.std.proofs.Common.{sym, arith}
use Rattle.planner_rules.specs.Scale.{middle, halve}
use Rattle.planner_rules.proofs.Halving.{halving_stop, up_at, down_at}
use Rattle.planner.specs.Axes.{both_pass}
use Rattle.planner.proofs.scale.halved_permille.Goals as goal

pub loop-low-smaller-then-both_pass : goal.loop-low-smaller-then-both_pass
unfolding middle
loop-low-smaller-then-both_pass c = omega (arith, c.middle_of-middle.ensures, c.loop-low-test.true)

pub loop-low-preserved-then-both_pass : goal.loop-low-preserved-then-both_pass
unfolding middle
loop-low-preserved-then-both_pass c =
    let a = c.args in
    let l = c.loop-low in
    let passes = both_pass a.rows a.columns in
    record {
      from = omega (arith, c.middle_of-middle.ensures, l.invariant.from);
      to = l.invariant.to;
      between = omega (arith, c.middle_of-middle.ensures, c.loop-low-test.true);
      halving =
          up_at passes (halve passes 10 100 1000) l.low l.high _ c.loop-low-test.true c.middle_of-middle.ensures l.invariant.halving
          (sym c.if-both_pass.ensures);
    }

pub overflow_sub-high : goal.overflow_sub-high
unfolding middle
overflow_sub-high c = omega (arith, c.middle_of-middle.ensures, c.loop-low.invariant.from)

pub loop-low-smaller : goal.loop-low-smaller
unfolding middle
loop-low-smaller c = omega (arith, c.middle_of-middle.ensures, c.loop-low-test.true)

pub loop-low-preserved : goal.loop-low-preserved
unfolding middle
loop-low-preserved c =
    let a = c.args in
    let l = c.loop-low in
    let passes = both_pass a.rows a.columns in
    record {
      from = l.invariant.from;
      to = omega (arith, c.middle_of-middle.ensures, c.loop-low-test.true, l.invariant.to);
      between = omega (arith, c.middle_of-middle.ensures, c.loop-low-test.true);
      halving =
          down_at passes (halve passes 10 100 1000) l.low l.high _ c.loop-low-test.true c.middle_of-middle.ensures l.invariant.halving
          (sym c.if-both_pass.ensures);
    }

pub returns : goal.returns
returns c =
    let a = c.args in
    let l = c.loop-low in
    let passes = both_pass a.rows a.columns in
    halving_stop passes (halve passes 10 100 1000) l.low l.high c.loop-low-test.false l.invariant.halving
