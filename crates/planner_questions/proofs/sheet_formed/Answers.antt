-- The lists of both axes, and the areas.
use Rattle.planner_rules.specs.Plan.{formed}
use Rattle.planner_questions.proofs.sheet_formed.Goals as goal

pub returns : goal.returns
unfolding formed
returns c = rw (c.formed.ensures, c.formed-2.ensures, c.all_upright.ensures)
