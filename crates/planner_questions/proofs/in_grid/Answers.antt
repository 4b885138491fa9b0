-- The merges of both axes, and the areas.
use Rattle.planner_rules.specs.Titles.{limit_of}
use Rattle.planner_rules.specs.Plan.{in_grid}
use Rattle.planner_questions.proofs.in_grid.Goals as goal

pub returns : goal.returns
unfolding in_grid limit_of
returns c = rw (c.all_within.ensures, c.all_within-2.ensures, c.all_inside.ensures)
