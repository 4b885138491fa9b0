-- With which numbers the calls of a job refuse, and what program `plan` never meets. Assumes nothing.
use mathlib.Core.Path.{◌≡◌, refl, sym}
use mathlib.Core.Bool.{Bool, true, false, ◌||◌, true≢false}
use mathlib.Core.List.{List, [], ◌∷◌}
use Prim.Native.Nat.{ℕ, ◌+◌, ◌*◌, ◌≤◌, ◌<◌}
use native.Mathlib.Omega.{arith}
use lib.ListN.{length, length-map}
use Rattle.units.specs.Outcome.{Outcome, given, refused, and_then}
use Rattle.planner_rules.specs.Areas.{plans_in}
use Rattle.planner_rules.specs.Lent.{room_in}
use Rattle.planner_rules.specs.Plan.{Layout, planned, counted, area_written}
use Rattle.planner_rules.proofs.NoTen.{among, plan_numbers_lem, count_numbers, area_numbers}
use Rattle.planner_rules.proofs.RunCount.{never_eleven}
use Rattle.job_questions.specs.declared.Items.{Items}
use Rattle.job_records.specs.Records.{RW, CL, field, records, marked}
use Rattle.job_questions.specs.Verdict.{verdict_lent}
use Rattle.job_reader.proofs.ItemRoom.{is_asked, verdict_number, few_rows, few_columns}
use Rattle.job.specs.PlanJob.{job_sheet, job_areas, plan_job, count_job, write_job_area}
use Rattle.job.proofs.CountedAreas.{Writes, counted_writes, Adds, counted_pages}
use Rattle.planner_rules.proofs.Demand.{then_yes}

-- ---- the questions, then what is made of the job

-- a job that is refused with a number that no question of the bytes has was questioned with yes
module _ {A : Type 0} (s : List ℕ) (rest : Outcome A) (k : ℕ) where
  past_questions : is_asked k ≡ false → and_then (verdict_lent true s) (λ (items : Items). rest) ≡ refused k
      → ((items : Items) × (verdict_lent true s ≡ given items)) × (rest ≡ refused k)
  past_questions h e = go (verdict_lent true s) refl e
    where
      go : (o : Outcome Items) → verdict_lent true s ≡ o → and_then o (λ (items : Items). rest) ≡ refused k
          → ((items : Items) × (verdict_lent true s ≡ given items)) × (rest ≡ refused k)
      go (given items) i j = ((items, i), j)
      go (refused n) i j =
          let same : n ≡ k = cc in
          let yes : true ≡ is_asked k = rw same at (sym (verdict_number true s n i)) in
          absurd cc

  -- what is given was questioned with yes, too
  given_questions : (a : A) → and_then (verdict_lent true s) (λ (items : Items). rest) ≡ given a
      → ((items : Items) × (verdict_lent true s ≡ given items)) × (rest ≡ given a)
  given_questions a e = let (items, i, j) = then_yes (verdict_lent true s) (λ (items : Items). rest) a e in ((items, i), j)

  -- a number is one that the bytes are asked with, or one that comes after
  of_questions : (ns : List ℕ) → (rest ≡ refused k → among k ns ≡ true) → and_then (verdict_lent true s) (λ (items : Items). rest) ≡ refused k
      → (is_asked k || among k ns) ≡ true
  of_questions ns f e = go (is_asked k) refl
    where
      go : (b : Bool) → is_asked k ≡ b → (b || among k ns) ≡ true
      go true i = refl
      go false i = f (past_questions i e).1

-- ---- with which numbers

-- `plan_job`: 1 to 9 and 15, then 11 and 12
pub plan_refuses : (s rows columns : List ℕ) (k : ℕ) → plan_job s rows columns ≡ refused k
    → (is_asked k || among k (4 ∷ 6 ∷ 7 ∷ 15 ∷ 8 ∷ 9 ∷ 11 ∷ 12 ∷ [])) ≡ true
unfolding plan_job
plan_refuses s rows columns k e =
    of_questions s (planned (job_sheet s) (job_areas s) rows columns) k _ (plan_numbers_lem (job_sheet s) (job_areas s) rows columns k) e

-- `count_job`: 1 to 9 and 15, then 12
pub count_refuses : (s : List ℕ) (k : ℕ) → count_job s ≡ refused k → (is_asked k || among k (4 ∷ 6 ∷ 7 ∷ 15 ∷ 8 ∷ 9 ∷ 12 ∷ [])) ≡ true
unfolding count_job
count_refuses s k e = of_questions s (counted (job_sheet s) (job_areas s)) k _ (count_numbers (job_sheet s) (job_areas s) k) e

-- `write_job_area` at a permille above 0: 1 to 9 and 15, then 14 and 11
pub area_refuses : (s rows columns : List ℕ) (n p : ℕ) → 1 ≤ p → (k : ℕ) → write_job_area s n p rows columns ≡ refused k
    → (is_asked k || among k (4 ∷ 6 ∷ 7 ∷ 15 ∷ 8 ∷ 9 ∷ 14 ∷ 11 ∷ [])) ≡ true
unfolding write_job_area
area_refuses s rows columns n p h k e =
    of_questions s (area_written (job_sheet s) (job_areas s) n p rows columns) k _ (area_numbers (job_sheet s) (job_areas s) n p rows columns h k) e

-- "10. Arithmetic above within i64?" is never answered no, and no plan asks 13: pages are taken by number
pub job_never_ten : (s rows columns : List ℕ) → plan_job s rows columns ≡ refused 10 → ⊥
unfolding among
job_never_ten s rows columns e = true≢false (sym (plan_refuses s rows columns 10 e))

pub job_never_thirteen : (s rows columns : List ℕ) → plan_job s rows columns ≡ refused 13 → ⊥
unfolding among
job_never_thirteen s rows columns e = true≢false (sym (plan_refuses s rows columns 13 e))

-- ---- lists of 5,000 runs

-- a job that is questioned with yes has no more rows and columns
module _ (s : List ℕ) (items : Items) (v : verdict_lent true s ≡ given items) where
  rows_few : length (job_sheet s).row_indexes ≤ 5000
  rows_few = omega (arith, few_rows s items v, length-map (marked RW (records s)) (field 0))

  columns_few : length (job_sheet s).column_indexes ≤ 5000
  columns_few = omega (arith, few_columns s items v, length-map (marked CL (records s)) (field 0))

-- 5,000 entries an axis for each area are enough for one plan
pub job_never_eleven : (s rows columns : List ℕ) → length (job_areas s) * 5000 ≤ room_in rows → length (job_areas s) * 5000 ≤ room_in columns
    → plan_job s rows columns ≡ refused 11 → ⊥
unfolding plan_job
job_never_eleven s rows columns hr hc e =
    let ((items, v), i) = past_questions s (planned (job_sheet s) (job_areas s) rows columns) 11 refl e in
    never_eleven (job_sheet s) (job_areas s) rows columns 5000 5000 (rows_few s items v) (omega arith) hr (columns_few s items v) (omega arith) hc i

-- "Its run lists hold 5,000 entries an axis": area by area, that many are enough for all; a job that was counted is written, each area at the
-- permille that was found for it, and refused with nothing
pub job_writes : (s : List ℕ) (l : Layout) → count_job s ≡ given l → (k : ℕ) → k < length (plans_in l.plan.areas)
    → (rows columns : List ℕ) → 5000 ≤ room_in rows → 5000 ≤ room_in columns → Writes (λ (p : ℕ). write_job_area s (k + 1) p rows columns) l k
unfolding count_job write_job_area
job_writes s l e k h rows columns hr hc =
    let ((items, v), i) = given_questions s (counted (job_sheet s) (job_areas s)) 0 l e in
    rw v
    (counted_writes (job_sheet s) (job_areas s) l i k h rows columns (omega (arith, rows_few s items v)) (omega arith)
    (omega (arith, columns_few s items v)) (omega arith))

-- and its pages are those of its areas, each of which has one
pub job_pages : (s : List ℕ) (l : Layout) → count_job s ≡ given l → Adds l.plan
unfolding count_job
job_pages s l e = counted_pages (job_sheet s) (job_areas s) l (given_questions s (counted (job_sheet s) (job_areas s)) 0 l e).1
