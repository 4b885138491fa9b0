-- `next_record` is what `before` makes of the step at the head of the bytes.
use Rattle.std.proofs.Common.{◌≡◌, Bool, true, false, not, cond, ap, ◌∙◌, rules}
use Rattle.std.specs.Prelude.{Option, Some, None, MatchOption}
use Rattle.std.specs.Bool.{then_some}
use Rattle.job_records.specs.declared.records.Head.{Head}
use Rattle.job_records.specs.declared.marks.Mark.TheVariants as mark
use Rattle.job_records.specs.Records.{is_end, mark_before}
use Rattle.job_records.proofs.MarkLaws.{same_is}
use Rattle.job_records.proofs.RecordLaws.{step_is}
use Rattle.job_walk.specs.Walk.{before}
use Rattle.job_walk.proofs.next_record.Goals as goal

-- a head is kept where it is no EN's
kept_is : (b end : Bool) (h : Head) → b ≡ not end → then_some b h ≡ cond end None (Some h)
kept_is b true h e = rw e
kept_is b false h e = rw e

filtered : (Gives : Head → Bool → Type 0) → ((h : Head) (b : Bool) → Gives h b → b ≡ not (is_end h.found))
    → (f kept : Option Head) → MatchOption f (kept ≡ None) (λ h. (b : Bool) × Gives h b × (kept ≡ then_some b h)) → kept ≡ before f
unfolding before
filtered Gives t None kept e = e
filtered Gives t (Some h) kept (b, g, e) = e ∙ kept_is b (is_end h.found) h (t h b g)

pub returns : goal.returns
returns c =
    filtered _ (λ h b g. search rules ∙ ap not (same_is (mark_before h.found) mark.End)) _ _ c.filter.ensures
    ∙ ap before (step_is c.args.s.now _ c.read_record.ensures)
