-- `read_record` answers what stands at the head of the bytes.
use Rattle.std.proofs.Common.{sym, ap, ◌∙◌, arith}
use Rattle.job_records.specs.Records.{step_outcome}
use Rattle.job_records.proofs.RecordLaws.{head_short, head_unknown, head_cut, head_whole}
use Rattle.job_records.proofs.records.read_record.Goals as goal

pub returns-then-bytes-lt2 : goal.returns-then-bytes-lt2
returns-then-bytes-lt2 c = head_short _ c.if-bytes-lt2.true

pub returns-in_err-mark : goal.returns-in_err-mark
returns-in_err-mark c =
    ap step_outcome c.from_residual.ensures
    ∙ head_unknown c.args.bytes.now _ c.u16_at.ensures (sym c.spelled.ensures ∙ c.in_err-mark.was)

pub returns-then-bytes-size : goal.returns-then-bytes-size
returns-then-bytes-size c =
    head_cut c.args.bytes.now _ c.u16_at.ensures c.in_ok-mark.mark (sym c.spelled.ensures ∙ c.in_ok-mark.was)
    (omega (arith, c.bytes-size.ensures, c.if-bytes-size.true))

pub returns : goal.returns
returns c =
    rw (c.record_at.ensures, c.bytes-size.ensures)
    (head_whole c.args.bytes.now _ c.u16_at.ensures c.in_ok-mark.mark (sym c.spelled.ensures ∙ c.in_ok-mark.was)
    (omega (arith, c.bytes-size.ensures, c.if-bytes-size.false)))
