-- Eight sizes added by fours are their sum.
use Rattle.planner_rules.proofs.Laws.{sum_eight}
use Rattle.planner.proofs.filling.sum_of_eight.Goals as goal

pub returns-clause-value : goal.returns-clause-value
returns-clause-value c = sum_eight c.args.s.now c.requires.s_len
