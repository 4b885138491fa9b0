-- The first page is there, so that its number is from 1 to the plan's count; a turn that goes on has room for a line, and a number up to that count.
use Rattle.std.proofs.Common.{refl, ap, arith, ◌-◌, sym, ◌∙◌}
use Rattle.units.specs.Refusals.{outcome}
use Rattle.job_report.proofs.SpotLaws.{placed, spot_within_plan}
use Rattle.job_report.proofs.BlockLaws.{holding_none, holding_more, holding_refused, holding_full, shut_told, part_last, turn, held_on}
use Rattle.job_report.proofs.blocks.lines_held.Goals as goal
use Rattle.job_report.proofs.blocks.lines_held.Goals.{else-loop-text-test, then-loop-text-test+in_default}

pub area_at-area-requires : goal.area_at-area-requires
area_at-area-requires c = spot_within_plan _ _ _ c.requires.found

pub overflow_sub-most : goal.overflow_sub-most
overflow_sub-most c = (placed _ _ _ c.requires.found).to_count

pub loop-text-init : goal.loop-text-init
loop-text-init c = record { holding = holding_none _ _ _; lent = refl }

pub overflow_add-own : goal.overflow_add-own
overflow_add-own c = omega (arith, (turn _ _ _ _ _ c.requires _ c.area_at-area.ensures _ _ c.loop-text-test.true).own)

pub overflow_add-own-in-loop-text : goal.overflow_add-own-in-loop-text
overflow_add-own-in-loop-text c = omega (arith, (turn _ _ _ _ _ c.requires _ c.area_at-area.ensures _ _ c.loop-text-test.true).own)

pub overflow_add-pages : goal.overflow_add-pages
overflow_add-pages c =
    let t = turn _ _ _ _ _ c.requires _ c.area_at-area.ensures _ _ c.loop-text-test.true in
    omega (arith, t.own, t.number)

pub loop-text-preserved : goal.loop-text-preserved
loop-text-preserved c =
    let t = turn _ _ _ _ _ c.requires _ c.area_at-area.ensures _ _ c.loop-text-test.true in
    record {
      holding = holding_more _ _ _ _ _ _ c.loop-text.invariant.holding _ _ _ (sym t.asked ∙ sym c.area_page-answer.ensures ∙ ap outcome c.in-Ok.is)
          t.room (omega (arith, t.room)) c.page.ensures.put c.page.ensures.long;
      lent = c.page.ensures.lent ∙ c.loop-text.invariant.lent;
    }

-- no page is there, or the room or the numbers have ended
pub returns : goal.returns
returns c =
    let a = c.args in
    let holding = c.loop-text.invariant.holding in
    held_on _ _ _ _ _ c.requires _ c.area_at-area.ensures _ _ _
    (elim c.loop-text-test.branch [
      | else-loop-text-test w ↦
          shut_told _ _ _ _ w.loop-text-test.false (λ full. holding_full _ _ _ _ _ _ holding full)
          (λ last.
          part_last a.plan.now.order _ a.runs.rows.now a.runs.columns.now a.spot.before (a.plan.now.pages - a.from) _ _ _ _ _ holding last)
      | then-loop-text-test+in_default w ↦
          let t = turn _ _ _ _ _ c.requires _ c.area_at-area.ensures _ _ w.loop-text-test.true in
          holding_refused _ _ _ _ _ _ holding _ (sym t.asked ∙ sym w.area_page-answer.ensures ∙ ap outcome w.in_default.is)
    ])
