-- The one run is four numbers.
use Rattle.std.proofs.Common.{arith}
use Rattle.planner_rules.specs.Lent.{flat}
use Rattle.planner.proofs.runs.write_empty.Goals as goal

pub put_run-requires : goal.put_run-requires
unfolding flat
put_run-requires c = omega (arith, c.requires)

pub returns : goal.returns
unfolding flat
returns c = c.put_run.ensures.list_after
