-- `cells_ok` answers question 15: in order, the records that are looked up are all of their marks.
use mathlib.Core.Path.{◌≡◌, sym, ap, ap₂, ◌∙◌}
use mathlib.Core.Bool.{true}
use mathlib.Core.List.{List}
use Prim.Native.Nat.{ℕ}
use Rattle.planner_rules.specs.Union.{cells_hold}
use Rattle.std.specs.Prelude.{Option, None}
use Rattle.planner_rules.specs.declared.planning.PrintRange.{PrintRange}
use Rattle.job_records.specs.Areas.{ranges_in}
use Rattle.job_records.specs.declared.records.JobAreas.{JobAreas}
use Rattle.job_records.specs.Records.{UC, records, marked}
use Rattle.job_settings.specs.Meaning.{areas_for}
use Rattle.job_walk.specs.Areas.{limit_from}
use Rattle.job_walk.specs.declared.sorted.SortedJob.{SortedJob}
use Rattle.job_walk.specs.Walk.{in_place}
use Rattle.job_walk.proofs.WalkLaws.{marked_in_place, all_areas}
use Rattle.job_questions.proofs.cells_ok.Goals as goal

-- "absent means no limit"
no_limit : (l : Option ℕ) (gs : List PrintRange) → l ≡ None → true ≡ cells_hold l gs
unfolding cells_hold
no_limit l gs e = rw e

-- the limit that was found is the job's
limit_is : (l : Option ℕ) (job : SortedJob) → l ≡ limit_from (in_place UC (records job.bytes.now))
    → l ≡ limit_from (marked UC (records job.bytes.now))
limit_is l job e = e ∙ ap limit_from (marked_in_place UC job)

pub returns-in_default : goal.returns-in_default
returns-in_default c =
    no_limit _ _ (sym (limit_is _ c.args.job c.limit_of-limit.ensures) ∙ c.in_default.is)

pub returns : goal.returns
returns c =
    let limit = limit_is c.limit_of-limit.result c.args.job c.limit_of-limit.ensures in
    let read = c.areas_for-areas.ensures ∙ ap (λ (a : JobAreas). areas_for (ranges_in a)) (all_areas c.args.job c.requires _ c.areas_of-read.ensures) in
    c.cells_hold.ensures ∙ ap₂ cells_hold limit (c.as_slice.ensures.value ∙ read)
