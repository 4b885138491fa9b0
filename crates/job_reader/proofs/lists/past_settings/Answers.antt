-- `job_reader::lists::past_settings` meets its contract.
use Rattle.std.proofs.Common.{sym, ap, ◌∙◌, arith}
use Rattle.job_records.specs.Marks.{place}
use Rattle.job_records.specs.declared.marks.Mark.TheVariants as mark
use Rattle.job_records.proofs.MarkLaws.{later_place, no_later_place}
use Rattle.job_walk.proofs.WalkLaws.{walk_used}
use Rattle.job_reader.proofs.WalkLaws.{going_on, past_end, past_at}
use Rattle.job_reader.proofs.lists.past_settings.Goals as goal
use Rattle.job_reader.proofs.lists.past_settings.Goals.{in-Some+then-gt, in_default}

-- none is left, or it is one that may repeat
pub invariant_of-result : goal.invariant_of-result
invariant_of-result c =
    let going = c.loop-head.invariant in
    let next = c.next_record.ensures in
    record {
      sorted =
          elim c.match-next_record.branch [
            | in-Some+then-gt w ↦
                past_at going next w.in-Some.is
                (omega (arith, later_place w.mark.result mark.ColumnTitle (sym w.gt.ensures ∙ w.if-gt.true), ap place w.mark.ensures))
            | in_default w ↦ past_end going next w.in_default.is
          ];
    }

pub slice_bounds-s-count : goal.slice_bounds-s-count
slice_bounds-s-count c = (walk_used c.loop-head.s.now c.next_record.ensures c.in-Some.is).within

pub slice_bounds-s-start : goal.slice_bounds-s-start
slice_bounds-s-start c = omega (arith, (walk_used c.loop-head.s.now c.next_record.ensures c.in-Some.is).within)

pub loop-head-smaller : goal.loop-head-smaller
loop-head-smaller c = (walk_used c.loop-head.s.now c.next_record.ensures c.in-Some.is).less

pub loop-head-preserved : goal.loop-head-preserved
loop-head-preserved c =
    going_on c.loop-head.invariant c.next_record.ensures c.in-Some.is
    (omega (arith, no_later_place c.mark.result mark.ColumnTitle (sym c.gt.ensures ∙ c.if-gt.false), ap place c.mark.ensures))
