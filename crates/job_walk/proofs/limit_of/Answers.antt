-- `limit_of` is what `limit_in` makes of the records with the mark.
use Rattle.std.proofs.Common.{◌≡◌, ℕ, List, Bool, true, false, cond, refl, sym, ap, ◌∙◌}
use Rattle.std.specs.Prelude.{Option, Some, None}
use mathlib.Core.Logic.{◌⊎◌, inl, inr}
use Rattle.job_records.specs.declared.records.Record.{Record}
use Rattle.job_records.specs.declared.records.Record.TheVariants.{Limit, Cells}
use Rattle.job_records.specs.Marks.{place}
use Rattle.job_records.specs.Records.{rank}
use Rattle.job_walk.specs.Areas.{is_limit, limit_in}
use Rattle.job_walk.proofs.WalkLaws.{Looked, looked_in_place, from_none, from_one}
use Rattle.job_walk.proofs.Arms.{no_limit}
use Rattle.job_walk.proofs.limit_of.Goals as goal

-- no record, no limit
no_record : (b : Bool) → ◌≡◌ {A = Option ℕ} (cond b None None) None
no_record true = refl
no_record false = refl

-- the limit of a record
some_limit : {k x : ℕ} {l : List Record} {f : Option Record} {r : Record} → Looked k l f → f ≡ Some r → (r ≡ Limit x) ⊎ (r ≡ Cells x)
    → Some x ≡ limit_in k l
some_limit {k} w h (inl i) = from_one w (limit_in k) h i (λ t. rw (sym (w.ranked _ h) ∙ ap rank i))
some_limit {k} w h (inr i) = from_one w (limit_in k) h i (λ t. rw (sym (w.ranked _ h) ∙ ap rank i))

pub returns-in_err-most : goal.returns-in_err-most
returns-in_err-most c =
    let k = place c.args.wanted in
    c.from_residual.ensures ∙ from_none (looked_in_place k c.args.bytes.now c.find_record.ensures) (limit_in k) c.in_err-most.was (no_record (is_limit k))

pub returns-in_default : goal.returns-in_default
returns-in_default c =
    let l = looked_in_place (place c.args.wanted) c.args.bytes.now c.find_record.ensures in
    rw (sym (ap is_limit (l.ranked _ c.in_ok-most.was)) ∙ no_limit _ c.in_default.not-Limit c.in_default.not-Cells)

pub returns-in-Limit : goal.returns-in-Limit
returns-in-Limit c = some_limit (looked_in_place (place c.args.wanted) c.args.bytes.now c.find_record.ensures) c.in_ok-most.was c.in-Limit.is

pub returns-in-Limit-2 : goal.returns-in-Limit-2
returns-in-Limit-2 c = some_limit (looked_in_place (place c.args.wanted) c.args.bytes.now c.find_record.ensures) c.in_ok-most.was c.in-Limit.is
