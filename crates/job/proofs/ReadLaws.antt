-- A job that is read to lists that hold it is the job of its bytes. Assumes nothing.
use mathlib.Core.Path.{◌≡◌, refl, sym, ap, ap₂, ◌∙◌}
use mathlib.Core.Bool.{Bool, true}
use mathlib.Core.List.{List}
use Prim.Native.Nat.{ℕ, ◌≤◌}
use native.Mathlib.Omega.{arith}
use lib.ListN.{length, take, drop, length-map, length-append}
use lib.Seq.{take_at}
use borrow.Author.Tests.{eq-eqb}
use Rattle.units.specs.Outcome.{Outcome, given, refused, and_then}
use Rattle.planner_rules.specs.Slots.{written}
use Rattle.planner_rules.specs.Partition.{lent}
use Rattle.job_questions.specs.declared.Items.{Items}
use Rattle.job_reader.specs.declared.lists.Job.{Job}
use Rattle.units.specs.declared.refusal.Refusal.{Refusal}
use Rattle.units.specs.Refusals.{number_of, outcome}
use Rattle.std.specs.Prelude.{Result, Ok, Err}
use Rattle.job_records.specs.Areas.{ranges_in}
use Rattle.job_records.specs.Records.{RW, CL, MR, BR, BC, records, marked, values, field}
use Rattle.job_questions.specs.Verdict.{verdict_lent, question1}
use Rattle.job_reader.specs.Reading.{Lists, lists, even_lists as items_even, room_in, read_job, job_of, JobRead}
use Rattle.job_reader.proofs.ReadingLaws.{admit_refused, read_refused}
use Rattle.job_reader.proofs.ItemRoom.{Brings, items_fit, all_answered, read_whole}
use Rattle.job_settings.specs.Meaning.{settings_for, areas_for}
use Rattle.planner_rules.specs.Plan.{Sheet, sheet_of}
use Rattle.planner_rules.specs.Asked.{sheet_with}
use Rattle.planner_rules.specs.declared.lists.SheetLists.{SheetLists}
use Rattle.planner_rules.specs.declared.planning.Settings.{Settings}
use Rattle.job_settings.specs.declared.JobSettings.{JobSettings}
use Rattle.planner_rules.specs.declared.planning.PrintRange.{PrintRange}
use Rattle.job.specs.PlanJob.{lists_in, sheet_read, job_lists, job_sheet, job_areas, fronts, Long, Telling, Holds, JobTold}
use Rattle.planner_rules.proofs.Demand.{then_yes}

-- ---- lists that hold what a job brings

-- lists with room for all that a job's bytes can bring hold its items, if it is read
pub holds_of : (room : Items) {s ri rs ci cs fr fc lr lc rb cb : List ℕ} → (question1 s ≡ true → Brings (length s) room)
    → room.rows ≡ length ri → room.rows ≡ length rs → room.columns ≡ length ci → room.columns ≡ length cs
    → room.merges ≡ length fr → room.merges ≡ length fc → room.merges ≡ length lr → room.merges ≡ length lc
    → room.row_breaks ≡ length rb → room.column_breaks ≡ length cb
    → Holds s (lists ri rs ci cs fr fc lr lc rb cb)
holds_of room {s} {ri} {rs} {ci} {cs} {fr} {fc} {lr} {lc} w a b c d e f g h i j = record {
  even = rw (
    eq-eqb (length ri) (length rs) (sym a ∙ b),
    eq-eqb (length ci) (length cs) (sym c ∙ d),
    eq-eqb (length fr) (length fc) (sym e ∙ f),
    eq-eqb (length fr) (length lr) (sym e ∙ g),
    eq-eqb (length fr) (length lc) (sym e ∙ h),
  );
  room = λ q. rw (← a, ← c, ← e, ← i, ← j) (items_fit (length s) room (w q) s (omega arith));
}

-- ---- the lists after a job was read

-- of n items and a list that was written: no more than its room, and the job's values first
pub record Front (k f : ℕ) (s : List ℕ) (n : ℕ) (new : List ℕ) : Type 0 where
  pub few : n ≤ length new
  pub is : take n new ≡ values k f (records s)

-- ten lists, by the items that were read to them
pub record ReadTo (s : List ℕ) (n : Items) (after : Lists) : Type 0 where
  pub row_indexes : Front RW 0 s n.rows after.row_indexes
  pub row_sizes : Front RW 1 s n.rows after.row_sizes
  pub column_indexes : Front CL 0 s n.columns after.column_indexes
  pub column_sizes : Front CL 1 s n.columns after.column_sizes
  pub merge_first_rows : Front MR 0 s n.merges after.merge_first_rows
  pub merge_first_columns : Front MR 1 s n.merges after.merge_first_columns
  pub merge_last_rows : Front MR 2 s n.merges after.merge_last_rows
  pub merge_last_columns : Front MR 3 s n.merges after.merge_last_columns
  pub row_breaks : Front BR 0 s n.row_breaks after.row_breaks
  pub column_breaks : Front BC 0 s n.column_breaks after.column_breaks

pub fronts_are : (s : List ℕ) (n : Items) (after : Lists) → ReadTo s n after → fronts n after ≡ job_lists s
fronts_are s n after f =
    rw (
      f.row_indexes.is,
      f.row_sizes.is,
      f.column_indexes.is,
      f.column_sizes.is,
      f.merge_first_rows.is,
      f.merge_first_columns.is,
      f.merge_last_rows.is,
      f.merge_last_columns.is,
      f.row_breaks.is,
      f.column_breaks.is,
    )

front : (s : List ℕ) (o : Outcome Job) (j : Job) → o ≡ given j → (k f n : ℕ) (old new : List ℕ) → n ≡ length (marked k (records s))
    → new ≡ lent o (values k f (records s)) old → Front k f s n new
front s o j given_is k f n old new m i =
    let w : new ≡ written (values k f (records s)) old = rw given_is at i in
    record {
      few = rw w (simp length-append (omega (arith, m, length-map (marked k (records s)) (field f))));
      is = rw w (take_at (values k f (records s)) (drop (length (values k f (records s))) old) n (length-map (marked k (records s)) (field f) ∙ sym m));
    }

-- a job that was given, and is that of the bytes
pub read_to : (s : List ℕ) (before after : Lists) (r : Result Job Refusal) → JobRead s r before after → (j : Job) → r ≡ Ok j → j ≡ job_of (records s)
    → ReadTo s j.items after
read_to s before after r w j k m =
    let q : read_job s before ≡ given j = sym w.answer ∙ ap outcome k in
    let rows = ap (λ (x : Job). x.items.rows) m in
    let columns = ap (λ (x : Job). x.items.columns) m in
    let merges = ap (λ (x : Job). x.items.merges) m in
    record {
      row_indexes = front s _ j q RW 0 _ before.row_indexes after.row_indexes rows w.row_indexes_are;
      row_sizes = front s _ j q RW 1 _ before.row_sizes after.row_sizes rows w.row_sizes_are;
      column_indexes = front s _ j q CL 0 _ before.column_indexes after.column_indexes columns w.column_indexes_are;
      column_sizes = front s _ j q CL 1 _ before.column_sizes after.column_sizes columns w.column_sizes_are;
      merge_first_rows = front s _ j q MR 0 _ before.merge_first_rows after.merge_first_rows merges w.merge_first_rows_are;
      merge_first_columns = front s _ j q MR 1 _ before.merge_first_columns after.merge_first_columns merges w.merge_first_columns_are;
      merge_last_rows = front s _ j q MR 2 _ before.merge_last_rows after.merge_last_rows merges w.merge_last_rows_are;
      merge_last_columns = front s _ j q MR 3 _ before.merge_last_columns after.merge_last_columns merges w.merge_last_columns_are;
      row_breaks = front s _ j q BR 0 _ before.row_breaks after.row_breaks (ap (λ (x : Job). x.items.row_breaks) m) w.row_breaks_are;
      column_breaks = front s _ j q BC 0 _ before.column_breaks after.column_breaks (ap (λ (x : Job). x.items.column_breaks) m)
          w.column_breaks_are;
    }

-- the sheet and the areas of what was read are those of the bytes
pub sheet_is : (s : List ℕ) (j : Job) (after : Lists) → j ≡ job_of (records s) → ReadTo s j.items after
    → sheet_read j.settings (fronts j.items after) ≡ job_sheet s
sheet_is s j after m f = ap₂ sheet_read (ap (λ (x : Job). x.settings) m) (fronts_are s j.items after f)

pub areas_are : (s : List ℕ) (j : Job) → j ≡ job_of (records s) → areas_for (ranges_in j.settings.areas) ≡ job_areas s
areas_are s j m = ap (λ (x : Job). areas_for (ranges_in x.settings.areas)) m

-- ---- the questions of a job that is read

module _ (s : List ℕ) {before : Lists} (holds : Holds s before) where
  -- reading asks what the questions ask, and never 11
  read_as : read_job s before ≡ and_then (verdict_lent true s) (λ (items : Items). given (job_of (records s)))
  read_as = go (verdict_lent true s) refl
    where
      go : (o : Outcome Items) → verdict_lent true s ≡ o → read_job s before ≡ and_then o (λ (items : Items). given (job_of (records s)))
      go (given items) e = read_whole s items e before holds.even (holds.room (all_answered s items e).0)
      go (refused n) e =
          let v : refused n ≡ verdict_lent (items_even before) s = sym e ∙ ap (λ (b : Bool). verdict_lent b s) (sym holds.even) in
          sym (read_refused s before n (admit_refused (items_even before) s (room_in before) n v))

  -- a no is the questions'
  verdict_no : (n : ℕ) → refused n ≡ read_job s before → verdict_lent true s ≡ refused n
  verdict_no n e = go (verdict_lent true s) refl (e ∙ read_as)
    where
      go : (o : Outcome Items) → verdict_lent true s ≡ o → refused n ≡ and_then o (λ (items : Items). given (job_of (records s)))
          → verdict_lent true s ≡ refused n
      go (given items) i h = absurd cc
      go (refused m) i h = let same : m ≡ n = cc in i ∙ ap refused same

  -- else the job is what was read
  verdict_yes : (j : Job) → given j ≡ read_job s before → (j ≡ job_of (records s)) × ((items : Items) × (verdict_lent true s ≡ given items))
  verdict_yes j e =
      let (items, i, h) = then_yes (verdict_lent true s) (λ (items : Items). given (job_of (records s))) j (sym (e ∙ read_as)) in
      let same : j ≡ job_of (records s) = cc in
      (same, (items, i))

-- the sheet of settings as the planner has them
abbrev sheet_by : JobSettings → Settings → Lists → Sheet
sheet_by j set l =
    sheet_of set j.row_title j.column_title l.row_indexes l.row_sizes l.column_indexes l.column_sizes
    l.merge_first_rows l.merge_first_columns l.merge_last_rows l.merge_last_columns l.row_breaks l.column_breaks

-- the clauses of an answer, of the same job
same_told : {A : Type 0} (told : Telling A) {v u : Outcome Items} {s t : Sheet} {a b : List PrintRange} → v ≡ u → s ≡ t → a ≡ b
    → (r : Result A Refusal) → told v s a r → told u t b r
same_told told e f g r t = rw (← e, ← f, ← g) t

-- a job that was read to lists that hold it, and answered
module _ {s : List ℕ} {before after : Lists} (holds : Holds s before) {got : Result Job Refusal} (w : JobRead s got before after) where
  yes_is : (j : Job) → got ≡ Ok j → (j ≡ job_of (records s)) × ((items : Items) × (verdict_lent true s ≡ given items))
  yes_is j k = verdict_yes s holds j (sym (ap outcome k) ∙ w.answer)

  pub long_lists : (j : Job) → got ≡ Ok j → Long j.items after
  long_lists j k =
      let f = read_to s before after got w j k (yes_is j k).0 in
      record {
        row_indexes_long = f.row_indexes.few;
        row_sizes_long = f.row_sizes.few;
        column_indexes_long = f.column_indexes.few;
        column_sizes_long = f.column_sizes.few;
        merge_first_rows_long = f.merge_first_rows.few;
        merge_first_columns_long = f.merge_first_columns.few;
        merge_last_rows_long = f.merge_last_rows.few;
        merge_last_columns_long = f.merge_last_columns.few;
        row_breaks_long = f.row_breaks.few;
        column_breaks_long = f.column_breaks.few;
      }

  module _ {A : Type 0} (told : Telling A) {r : Result A Refusal} where
    -- a refusal of the reader is the questions'
    pub refusal_told : {x : Refusal} → got ≡ Err x → told (refused (number_of x)) (job_sheet s) (job_areas s) r
        → JobTold told s r
    refusal_told {x} k t =
        same_told told (sym (verdict_no s holds (number_of x) (sym (ap outcome k) ∙ w.answer))) refl refl r t

    -- an answer to what was read answers the job
    pub reading_told : {j : Job} → got ≡ Ok j → {set : Settings} {areas : List PrintRange} (l : SheetLists) → set ≡ settings_for j.settings
        → areas ≡ areas_for (ranges_in j.settings.areas) → lists_in l ≡ fronts j.items after
        → ((items : Items) → told (given items) (sheet_with set j.settings.row_title j.settings.column_title l) areas r)
        → JobTold told s r
    reading_told {j} k l e f h t =
        let y = yes_is j k in
        same_told told (sym y.1.1) (ap₂ (sheet_by j.settings) e h ∙ sheet_is s j after y.0 (read_to s before after got w j k y.0))
        (f ∙ areas_are s j y.0) r (t y.1.0)
