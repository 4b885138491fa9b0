-- Every pair is asked.
use Rattle.std.proofs.Common.{ℕ, leb, ◌∙◌, rules, tests}
use Rattle.std.proofs.lemmas.Iterator.{YieldsList-from_slice, YieldsList-from_zip}
use Rattle.std.proofs.lemmas.Iterator.Search.{all_from_yields_List}
use Rattle.planner_rules.proofs.QuestionLaws.{ordered_all}
use Rattle.planner_questions.proofs.pairs_ordered.Goals as goal

pub returns : goal.returns
returns c =
    let fs = c.args.merges.firsts.now in
    let ls = c.args.merges.lasts.now in
    all_from_yields_List (λ (p : ℕ × ℕ). leb p.0 p.1) c.all.new.self _ c.all.result c.all.ensures.ran
    (YieldsList-from_zip {s = c.zip.result} (YieldsList-from_slice fs cc) (YieldsList-from_slice ls cc)) (λ x b q k. search (rules, tests))
    ∙ ordered_all fs ls
