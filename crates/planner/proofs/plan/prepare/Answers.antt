-- A no refuses; with yes to all questions, the areas share what is found: whatever the settings, sides are given.
use Rattle.std.proofs.Common.{◌≡◌, ◌+◌, ◌^◌, ◌<◌, length, Err, refl, sym, ◌∙◌, arith, rules}
use Rattle.units.specs.Outcome.{given}
use Rattle.planner_rules.proofs.NoTen.{sides_given, not_given}
use Rattle.planner_rules.specs.Plan.{sides_of, content_sides}
use Rattle.planner_rules.specs.Asked.{sheet_asked}
use Rattle.planner_rules.proofs.QuestionLaws.{positive}
use Rattle.planner_rules.proofs.PlanLaws.{is_refused, all_yes, row_slots, column_slots, row_merges_inside, column_merges_inside, shared_by}
use Rattle.planner.proofs.plan.prepare.Goals as goal

pub returns-in_err-plan_refusal : goal.returns-in_err-plan_refusal
returns-in_err-plan_refusal c =
    let a = c.args in
    let e : c.from_residual.result ≡ Err c.in_err-plan_refusal.field-0.0 = search rules in
    rw e (is_refused (sheet_asked a.request.now a.lists.now) a.request.now.areas.now _ c.in_err-plan_refusal.ensures (positive c.in_err-plan_refusal.field-0.0))

pub returns-in_err-sides : goal.returns-in_err-sides
returns-in_err-sides c =
    let found = sides_given c.args.request.now.settings in
    absurd (not_given found.0 _ (sym found.1 ∙ sym c.in_err-sides.ensures))

pub ready_title-row_title-requires-clause-slots : goal.ready_title-row_title-requires-clause-slots
ready_title-row_title-requires-clause-slots c =
    let a = c.args in
    let sheet = sheet_asked a.request.now a.lists.now in
    let y = all_yes sheet a.request.now.areas.now _ c.in_ok-plan_refusal.ensures (omega arith) in
    row_slots sheet a.request.now.areas.now y

pub ready_title-row_title-requires-clause-merge_lasts_value : goal.ready_title-row_title-requires-clause-merge_lasts_value
ready_title-row_title-requires-clause-merge_lasts_value c =
    let a = c.args in
    let sheet = sheet_asked a.request.now a.lists.now in
    let y = all_yes sheet a.request.now.areas.now _ c.in_ok-plan_refusal.ensures (omega arith) in
    row_merges_inside sheet a.request.now.areas.now y

pub ready_title-column_title-requires-clause-slots : goal.ready_title-column_title-requires-clause-slots
ready_title-column_title-requires-clause-slots c =
    let a = c.args in
    let sheet = sheet_asked a.request.now a.lists.now in
    let y = all_yes sheet a.request.now.areas.now _ c.in_ok-plan_refusal.ensures (omega arith) in
    column_slots sheet a.request.now.areas.now y

pub ready_title-column_title-requires-clause-merge_lasts_value : goal.ready_title-column_title-requires-clause-merge_lasts_value
ready_title-column_title-requires-clause-merge_lasts_value c =
    let a = c.args in
    let sheet = sheet_asked a.request.now a.lists.now in
    let y = all_yes sheet a.request.now.areas.now _ c.in_ok-plan_refusal.ensures (omega arith) in
    column_merges_inside sheet a.request.now.areas.now y

pub returns : goal.returns
returns c =
    let a = c.args in
    let sheet = sheet_asked a.request.now a.lists.now in
    let row_lists = a.lists.now.rows in
    let column_lists = a.lists.now.columns in
    let sides : content_sides a.request.now.settings ≡ given (sides_of c.in_ok-sides.sides) = sym c.in_ok-sides.ensures in
    let rows = c.ready_title-row_title.ensures in
    let columns = c.ready_title-column_title.ensures in
    let few : length row_lists.merges.firsts.now + length column_lists.merges.firsts.now < 2 ^ 64 = omega (arith, rows.few, columns.few) in
    shared_by sheet a.request.now.areas.now
    (all_yes sheet a.request.now.areas.now _ c.in_ok-plan_refusal.ensures (omega arith)) _
    rows.title_ready columns.title_ready few sides refl rows.asked_value columns.asked_value
