-- Each question in turn: those before it passed, and it stopped. The chains: as at `plan_refusal`.
use Rattle.std.proofs.Common.{◌≡◌, Bool, ◌&&◌, leb, Err, sym, ap, ◌∙◌, arith, rules}
use Rattle.planner_rules.specs.Partition.{first_no}
use Rattle.planner_rules.proofs.QuestionLaws.{stopped, passed}
use Rattle.planner_questions.proofs.partition_refusal.Goals as goal

pub returns-in_err-ask : goal.returns-in_err-ask
unfolding first_no
returns-in_err-ask c =
    let e : c.from_residual.result ≡ Err c.in_err-ask.field-0.0 = search rules in
    rw e (sym (stopped 6 _ _ _ _ c.axis_formed.ensures c.in_err-ask.ensures))

pub returns-in_err-ask-2 : goal.returns-in_err-ask-2
unfolding first_no
returns-in_err-ask-2 c =
    let e : c.from_residual-in_err-ask-2.result ≡ Err c.in_err-ask-2.field-0.0 = search rules in
    let seven = ap (λ (b : Bool). leb c.args.setup.last c.args.limit && b) c.all_within.ensures in
    rw e (sym (passed 6 _ _ _ (omega arith) c.axis_formed.ensures c.in_ok-ask.ensures
    ∙ stopped 7 _ _ _ _ seven c.in_err-ask-2.ensures))

pub returns-in_err-ask-3 : goal.returns-in_err-ask-3
unfolding first_no
returns-in_err-ask-3 c =
    let e : c.from_residual-in_err-ask-3.result ≡ Err c.in_err-ask-3.field-0.0 = search rules in
    let seven = ap (λ (b : Bool). leb c.args.setup.last c.args.limit && b) c.all_within.ensures in
    rw e (sym (passed 6 _ _ _ (omega arith) c.axis_formed.ensures c.in_ok-ask.ensures
    ∙ passed 7 _ _ _ (omega arith) seven c.in_ok-ask-2.ensures
    ∙ stopped 8 _ _ _ _ c.rising_within.ensures c.in_err-ask-3.ensures))

pub returns : goal.returns
unfolding first_no
returns c =
    let seven = ap (λ (b : Bool). leb c.args.setup.last c.args.limit && b) c.all_within.ensures in
    rw c.all_small.ensures at c.ask-4.ensures
    ∙ sym (passed 6 _ _ _ (omega arith) c.axis_formed.ensures c.in_ok-ask.ensures
    ∙ passed 7 _ _ _ (omega arith) seven c.in_ok-ask-2.ensures
    ∙ passed 8 _ _ _ (omega arith) c.rising_within.ensures c.in_ok-ask-3.ensures)
