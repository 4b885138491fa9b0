-- Every index is asked.
use Rattle.std.proofs.Common.{leb, ◌∙◌, rules, tests}
use Rattle.std.proofs.lemmas.Iterator.{YieldsList-from_slice}
use Rattle.std.proofs.lemmas.Iterator.Search.{all_from_yields_List}
use Rattle.planner_rules.proofs.QuestionLaws.{within_all}
use Rattle.planner_questions.proofs.all_within.Goals as goal

pub returns : goal.returns
returns c =
    let a = c.args in
    all_from_yields_List (λ x. leb x a.limit) _ _ _ c.all.ensures.ran (YieldsList-from_slice a.indexes.now cc) (λ x b q k. search (rules, tests))
    ∙ within_all a.limit a.indexes.now
