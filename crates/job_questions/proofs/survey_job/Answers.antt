-- `survey_job` answers what the pass over the records found.
use Rattle.std.proofs.Common.{sym, ap, ◌∙◌, arith}
use Rattle.job_records.specs.Marks.{place}
use Rattle.job_records.specs.declared.marks.Mark.TheVariants as mark
use Rattle.job_records.proofs.MarkLaws.{same_place, other_place}
use Rattle.job_records.proofs.RecordLaws.{step_is, step_used, length_part}
use Rattle.job_questions.proofs.PassLaws.{seen_more, seen_nothing, seen_early, seen_end, too_long}
use Rattle.job_questions.proofs.survey_job.Goals as goal

pub returns-then-bytes-gt-MOST_BYTES : goal.returns-then-bytes-gt-MOST_BYTES
returns-then-bytes-gt-MOST_BYTES c = too_long c.args.bytes.now c.if-bytes-gt-MOST_BYTES.true

pub returns : goal.returns
returns c =
    seen_nothing c.args.bytes.now c.loop-head.s.now c.loop-head.t c.loop-head.invariant c.read_record.result c.read_record.ensures
    c.if-bytes-gt-MOST_BYTES.false c.in_default.is

pub returns-then-s-ne2 : goal.returns-then-s-ne2
returns-then-s-ne2 c =
    seen_early c.args.bytes.now c.loop-head.s.now c.loop-head.t c.loop-head.invariant c.read_record.result c.read_record.ensures
    _ _ c.in-Some.is (ap place c.mark.ensures) (same_place _ mark.End (sym c.eq.ensures ∙ c.if-eq.true)) c.if-bytes-gt-MOST_BYTES.false c.if-s-ne2.true

pub returns-then-eq : goal.returns-then-eq
returns-then-eq c =
    seen_end c.args.bytes.now c.loop-head.s.now c.loop-head.t c.loop-head.invariant c.read_record.result c.read_record.ensures
    _ _ c.in-Some.is (ap place c.mark.ensures) (same_place _ mark.End (sym c.eq.ensures ∙ c.if-eq.true)) c.if-bytes-gt-MOST_BYTES.false c.if-s-ne2.false

pub slice_bounds-s-count : goal.slice_bounds-s-count
slice_bounds-s-count c =
    (step_used c.loop-head.s.now _ _ (step_is c.loop-head.s.now _ c.read_record.ensures) c.in-Some.is).1

pub slice_bounds-s-start : goal.slice_bounds-s-start
slice_bounds-s-start c =
    omega (arith, step_used c.loop-head.s.now _ _ (step_is c.loop-head.s.now _ c.read_record.ensures) c.in-Some.is)

pub loop-head-smaller : goal.loop-head-smaller
loop-head-smaller c =
    omega (
      arith,
      step_used c.loop-head.s.now _ _ (step_is c.loop-head.s.now _ c.read_record.ensures) c.in-Some.is,
      length_part c.in-Some.head.bytes c.loop-head.s.now,
    )

pub loop-head-preserved : goal.loop-head-preserved
loop-head-preserved c =
    seen_more c.args.bytes.now c.loop-head.s.now c.loop-head.t c.loop-head.invariant c.read_record.result c.read_record.ensures
    _ _ _ c.in-Some.is (ap place c.mark.ensures) (other_place _ mark.End (sym c.eq.ensures ∙ c.if-eq.false)) c.advance-t.ensures
