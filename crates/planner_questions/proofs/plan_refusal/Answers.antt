-- Each question in turn: those before it passed, and it stopped. A goal knows the calls before its own place only, so that the chains of two goals stay
-- two: a lemma of one would take as arguments all that it says.
use Rattle.std.proofs.Common.{◌≡◌, ◌&&◌, length, Err, sym, ◌∙◌, ap₂, arith, rules, tests}
use Rattle.planner_rules.specs.Areas.{one_to_eight}
use Rattle.planner_rules.specs.Titles.{limit_of}
use Rattle.planner_rules.specs.Plan.{first_no}
use Rattle.planner_rules.proofs.QuestionLaws.{stopped, passed}
use Rattle.planner_questions.proofs.plan_refusal.Goals as goal

pub returns-in_err-ask : goal.returns-in_err-ask
unfolding first_no
returns-in_err-ask c =
    let e : c.from_residual.result ≡ Err c.in_err-ask.field-0.0 = search rules in
    let four : c.contains-four.result ≡ one_to_eight (length c.args.request.now.areas.now) = search (rules, tests) in
    rw e (sym (stopped 4 _ _ _ _ four c.in_err-ask.ensures))

pub returns-in_err-ask-2 : goal.returns-in_err-ask-2
unfolding first_no
returns-in_err-ask-2 c =
    let e : c.from_residual-in_err-ask-2.result ≡ Err c.in_err-ask-2.field-0.0 = search rules in
    rw e (sym (passed 4 _ _ _ (omega arith) (search (rules, tests)) c.in_ok-ask.ensures
    ∙ stopped 6 _ _ _ _ c.sheet_formed.ensures c.in_err-ask-2.ensures))

pub returns-in_err-ask-3 : goal.returns-in_err-ask-3
unfolding first_no
returns-in_err-ask-3 c =
    let e : c.from_residual-in_err-ask-3.result ≡ Err c.in_err-ask-3.field-0.0 = search rules in
    rw e (sym (passed 4 _ _ _ (omega arith) (search (rules, tests)) c.in_ok-ask.ensures
    ∙ passed 6 _ _ _ (omega arith) c.sheet_formed.ensures c.in_ok-ask-2.ensures
    ∙ stopped 7 _ _ _ _ c.in_grid.ensures c.in_err-ask-3.ensures))

pub returns-in_err-ask-4 : goal.returns-in_err-ask-4
unfolding first_no
returns-in_err-ask-4 c =
    let e : c.from_residual-in_err-ask-4.result ≡ Err c.in_err-ask-4.field-0.0 = search rules in
    rw e (sym (passed 4 _ _ _ (omega arith) (search (rules, tests)) c.in_ok-ask.ensures
    ∙ passed 6 _ _ _ (omega arith) c.sheet_formed.ensures c.in_ok-ask-2.ensures
    ∙ passed 7 _ _ _ (omega arith) c.in_grid.ensures c.in_ok-ask-3.ensures
    ∙ stopped 15 _ _ _ _ c.cells_hold-fifteen.ensures c.in_err-ask-4.ensures))

pub returns-in_err-ask-5 : goal.returns-in_err-ask-5
unfolding first_no limit_of
returns-in_err-ask-5 c =
    let e : c.from_residual-in_err-ask-5.result ≡ Err c.in_err-ask-5.field-0.0 = search rules in
    let eight = ap₂ ◌&&◌ c.rising_within.ensures c.rising_within-2.ensures in
    rw e (sym (passed 4 _ _ _ (omega arith) (search (rules, tests)) c.in_ok-ask.ensures
    ∙ passed 6 _ _ _ (omega arith) c.sheet_formed.ensures c.in_ok-ask-2.ensures
    ∙ passed 7 _ _ _ (omega arith) c.in_grid.ensures c.in_ok-ask-3.ensures
    ∙ passed 15 _ _ _ (omega arith) c.cells_hold-fifteen.ensures c.in_ok-ask-4.ensures
    ∙ stopped 8 _ _ _ _ eight c.in_err-ask-5.ensures))

pub returns : goal.returns
unfolding first_no limit_of
returns c =
    let eight = ap₂ ◌&&◌ c.rising_within.ensures c.rising_within-2.ensures in
    rw (c.all_small.ensures, c.all_small-2.ensures) at c.ask-6.ensures
    ∙ sym (passed 4 _ _ _ (omega arith) (search (rules, tests)) c.in_ok-ask.ensures
    ∙ passed 6 _ _ _ (omega arith) c.sheet_formed.ensures c.in_ok-ask-2.ensures
    ∙ passed 7 _ _ _ (omega arith) c.in_grid.ensures c.in_ok-ask-3.ensures
    ∙ passed 15 _ _ _ (omega arith) c.cells_hold-fifteen.ensures c.in_ok-ask-4.ensures
    ∙ passed 8 _ _ _ (omega arith) eight c.in_ok-ask-5.ensures)
