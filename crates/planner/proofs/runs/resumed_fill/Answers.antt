-- A slot that goes onto the sum, or restarts it, is one that the definition takes, and one that does neither ends the run.
use Rattle.std.proofs.Common.{arith}
use Rattle.planner_rules.proofs.EndLaws.{again_fits, again_title, again_stops, again_end, resumed_start}
use Rattle.planner.proofs.runs.resumed_fill.Goals as goal

pub loop-n-init : goal.loop-n-init
loop-n-init c = (
  omega arith,
  omega arith,
  omega (arith, c.args.head.slots.are.small.each 0),
  resumed_start c.args.capacity c.args.last c.args.head.slots.indexes.now c.args.head.slots.sizes.now (omega (arith, c.args.head.slots.are.even)) (omega arith),
)

pub loop-n-preserved-then-next-capacity : goal.loop-n-preserved-then-next-capacity
loop-n-preserved-then-next-capacity c =
    let l = c.loop-n in
    let a = c.args in
    let slots = a.head.slots in (
      omega arith,
      omega arith,
      omega (arith, slots.are.small.each l.n),
      omega (
        arith,
        again_fits a.capacity a.last l.sum l.n slots.indexes.now slots.sizes.now (omega (arith, slots.are.even)) (omega arith) (omega arith),
      ),
    )

pub returns-then-head-n-clause-value : goal.returns-then-head-n-clause-value
returns-then-head-n-clause-value c =
    let l = c.loop-n in
    let a = c.args in
    let slots = a.head.slots in
    omega (
      arith,
      again_stops a.capacity a.last l.sum l.n slots.indexes.now slots.sizes.now (omega (arith, slots.are.even)) (omega arith) (omega arith)
          (omega arith),
    )

pub loop-n-preserved : goal.loop-n-preserved
loop-n-preserved c =
    let l = c.loop-n in
    let a = c.args in
    let slots = a.head.slots in (
      omega arith,
      omega arith,
      omega (arith, slots.are.small.each l.n),
      omega (
        arith,
        again_title a.capacity a.last l.sum l.n slots.indexes.now slots.sizes.now (omega (arith, slots.are.even)) (omega arith) (omega arith)
            (omega arith),
      ),
    )

pub returns-clause-value : goal.returns-clause-value
returns-clause-value c =
    let l = c.loop-n in
    let a = c.args in
    let slots = a.head.slots in
    omega (arith, again_end a.capacity a.last l.sum l.n slots.indexes.now slots.sizes.now (omega (arith, slots.are.even)))
