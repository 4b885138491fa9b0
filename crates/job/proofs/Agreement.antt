-- "The reader and the plan agree": the plan of a job's bytes is the planner's plan of what was read. Assumes nothing.
use mathlib.Core.Path.{◌≡◌, refl, sym}
use mathlib.Core.Bool.{true}
use mathlib.Core.List.{List, []}
use Prim.Native.Nat.{ℕ}
use Rattle.units.specs.Outcome.{given}
use Rattle.planner_rules.specs.declared.planning.PrintRange.{PrintRange}
use Rattle.planner_rules.specs.Plan.{Sheet, planned, counted, area_written}
use Rattle.job_reader.specs.declared.lists.Job.{Job}
use Rattle.std.specs.Prelude.{Ok}
use Rattle.job_records.specs.Areas.{ranges_in}
use Rattle.job_records.specs.Records.{records}
use Rattle.job_questions.specs.Verdict.{questions, question6, in_order, items_of, verdict_lent}
use Rattle.job_reader.specs.Reading.{Lists, even_lists as items_even, room_in, asked, job_of, read_job, JobRead}
use Rattle.job_questions.proofs.PassLaws.{All}
use Rattle.job_reader.proofs.ReadingLaws.{in_order_given, all_given, all_past}
use Rattle.job_settings.specs.Meaning.{areas_for}
use Rattle.job.specs.PlanJob.{sheet_read, fronts, job_sheet, job_areas, plan_job, count_job, write_job_area}
use Rattle.job.proofs.ReadLaws.{read_to, sheet_is, areas_are}
use Rattle.std.proofs.lemmas.Bool.{and_parts}

-- what `read_job` read, planned, is what `plan_job` plans; the same of the other two calls
module _ (s : List ℕ) (before after : Lists) (j : Job) (w : JobRead s (Ok j) before after) where
  given_is : given j ≡ in_order (asked (items_even before) (room_in before) s) (job_of (records s))
  unfolding read_job
  given_is = w.answer

  job_is : j ≡ job_of (records s)
  job_is = (in_order_given (job_of (records s)) (job_of (records s)) (asked (items_even before) (room_in before) s) j given_is).0

  answered : All (questions true s)
  answered =
      let a = all_given (job_of (records s)) (asked (items_even before) (room_in before) s) j given_is in
      let five = a.1.1.1.1.1 in
      let six = (and_parts (items_even before) (question6 true s) five.0).1 in
      let rest = five.1 in (
        a.0,
        (
          a.1.0,
          (
            a.1.1.0,
            (a.1.1.1.0, (a.1.1.1.1.0, (six, (rest.0, (rest.1.0, (rest.1.1.0, (rest.1.1.1.0, tt))))))),
          ),
        ),
      )

  verdict_is : verdict_lent true s ≡ given (items_of (records s))
  unfolding verdict_lent
  verdict_is = sym (all_past (items_of (records s)) [] (questions true s) answered)

  -- the sheet and the areas of what was read
  abbrev sheet : Sheet
  sheet = sheet_read j.settings (fronts j.items after)

  abbrev areas : List PrintRange
  areas = areas_for (ranges_in j.settings.areas)

  same_sheet : sheet ≡ job_sheet s
  same_sheet = sheet_is s j after job_is (read_to s before after (Ok j) w j refl job_is)

  same_areas : areas ≡ job_areas s
  same_areas = areas_are s j job_is

  pub plan_agrees : (rows columns : List ℕ) → plan_job s rows columns ≡ planned sheet areas rows columns
  unfolding plan_job
  plan_agrees rows columns = rw (verdict_is, same_sheet, same_areas)

  pub count_agrees : count_job s ≡ counted sheet areas
  unfolding count_job
  count_agrees = rw (verdict_is, same_sheet, same_areas)

  pub area_agrees : (n p : ℕ) (rows columns : List ℕ) → write_job_area s n p rows columns ≡ area_written sheet areas n p rows columns
  unfolding write_job_area
  area_agrees n p rows columns = rw (verdict_is, same_sheet, same_areas)
