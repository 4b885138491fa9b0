-- The bits of all sizes together tell of each.
use Rattle.std.proofs.Common.{leb, ap, ◌∙◌}
use Rattle.planner_rules.proofs.QuestionLaws.{bits_small}
use Rattle.planner_questions.proofs.all_small.Goals as goal

pub returns : goal.returns
returns c = ap (λ n. leb n 1073741823) c.bits_of.ensures ∙ bits_small c.args.sizes.now
