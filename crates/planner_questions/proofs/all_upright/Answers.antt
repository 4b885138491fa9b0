-- Every area is asked.
use Rattle.std.proofs.Common.{◌∙◌, rules, tests}
use Rattle.std.proofs.lemmas.Iterator.{YieldsList-from_slice}
use Rattle.std.proofs.lemmas.Iterator.Search.{all_from_yields_List}
use Rattle.planner_rules.specs.Areas.{upright}
use Rattle.planner_rules.proofs.QuestionLaws.{every_all}
use Rattle.planner_questions.proofs.all_upright.Goals as goal

pub returns : goal.returns
returns c =
    let gs = c.args.areas.now in
    all_from_yields_List upright _ _ _ c.all.ensures.ran (YieldsList-from_slice gs cc) (λ x b q k. search (rules, tests)) ∙ every_all upright gs
