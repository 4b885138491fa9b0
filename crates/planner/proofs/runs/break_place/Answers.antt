-- An index below the break, beside one that is not, tells how many are below it.
use Rattle.std.proofs.Common.{arith}
use Rattle.planner_rules.proofs.Places.{below_at}
use Rattle.planner.proofs.runs.break_place.Goals as goal

pub returns-then-b-indexes : goal.returns-then-b-indexes
returns-then-b-indexes c =
    let a = c.args in
    below_at a.b a.slots.indexes.now a.slots.are.rising a.prev (omega arith) (omega arith) (omega arith)
