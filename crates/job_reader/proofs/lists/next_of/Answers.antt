-- `next_of` is what `of_kind` makes of the next record.
use Rattle.std.proofs.Common.{ℕ, ◌≡◌, Bool, true, false, cond, ap, ◌∙◌, rules}
use Rattle.std.specs.Prelude.{Option, Some, None, MatchOption, eqb}
use Rattle.std.specs.Bool.{then_some}
use Rattle.job_records.specs.declared.records.Head.{Head}
use Rattle.job_records.specs.Marks.{place}
use Rattle.job_records.specs.Records.{rank, mark_before}
use Rattle.job_records.proofs.MarkLaws.{same_is}
use Rattle.job_reader.specs.Walk.{of_kind}
use Rattle.job_reader.proofs.lists.next_of.Goals as goal

-- a head is kept where it has the mark
kept_is : (b here : Bool) (h : Head) → b ≡ here → then_some b h ≡ cond here (Some h) None
kept_is b true h e = rw e
kept_is b false h e = rw e

filtered : (k : ℕ) (Gives : Head → Bool → Type 0) → ((h : Head) (b : Bool) → Gives h b → b ≡ eqb (rank h.found) k)
    → (f kept : Option Head) → MatchOption f (kept ≡ None) (λ h. (b : Bool) × Gives h b × (kept ≡ then_some b h)) → kept ≡ of_kind k f
unfolding of_kind
filtered k Gives t None kept e = e
filtered k Gives t (Some h) kept (b, g, e) = e ∙ kept_is b (eqb (rank h.found) k) h (t h b g)

pub returns : goal.returns
returns c =
    filtered (place c.args.wanted) _ (λ h b g. search rules ∙ same_is (mark_before h.found) c.args.wanted) _ _ c.filter.ensures
    ∙ ap (of_kind (place c.args.wanted)) c.next_record.ensures
