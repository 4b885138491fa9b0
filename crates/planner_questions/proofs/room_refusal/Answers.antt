-- Each question in turn: those before it passed, and it stopped.
use Rattle.std.proofs.Common.{◌≡◌, Err, refl, sym, ◌∙◌, arith, rules}
use Rattle.planner_rules.specs.Plan.{room_no}
use Rattle.planner_rules.proofs.QuestionLaws.{stopped, passed}
use Rattle.planner_questions.proofs.room_refusal.Goals as goal

pub returns-in_err-ask : goal.returns-in_err-ask
unfolding room_no
returns-in_err-ask c =
    let e : c.from_residual.result ≡ Err c.in_err-ask.field-0.0 = search rules in
    rw e (sym (stopped 11 _ _ _ _ refl (rw c.runs_held.ensures at c.in_err-ask.ensures)))

pub returns : goal.returns
unfolding room_no
returns c = c.ask-2.ensures ∙ sym (passed 11 _ _ _ (omega arith) refl (rw c.runs_held.ensures at c.in_ok-ask.ensures))
