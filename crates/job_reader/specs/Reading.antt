-- The call that reads a job into lent lists: document 01, sections "Jobs" and "Questions in order". Assumes nothing.
use Rattle.std.specs.Prelude.{◌≡◌, ℕ, Bool, true, ◌&&◌, List, [], ◌∷◌, ◌++◌, length, leb, eqb, Result}
use Rattle.units.specs.Outcome.{Outcome}
use Rattle.planner_rules.specs.Slots.{written}
use Rattle.planner_rules.specs.Partition.{lent}
use Rattle.job_records.specs.Records.{RW, CL, MR, BR, BC, records, values}
use Rattle.job_questions.specs.Verdict.{questions, in_order, items_of}
use Rattle.job_reader.specs.Settings.{settings_of}
use Rattle.job_records.specs.declared.records.Record.{Record}
use Rattle.job_questions.specs.declared.Items.{Items}
use Rattle.job_reader.specs.declared.lists.Job.{Job}
use Rattle.job_reader.specs.declared.lists.JobLists.{JobLists}
use Rattle.job_reader.specs.declared.lists.LentMerges.{LentMerges}
use Rattle.job_reader.specs.declared.lists.LentSlots.{LentSlots}
use Rattle.units.specs.declared.refusal.Refusal.{Refusal}
use Rattle.units.specs.Refusals.{outcome}

-- ten lists: two of rows and two of columns (indexes and sizes), four of merges, and the breaks
pub record Lists : Type 0 where
  pub row_indexes : List ℕ
  pub row_sizes : List ℕ
  pub column_indexes : List ℕ
  pub column_sizes : List ℕ
  pub merge_first_rows : List ℕ
  pub merge_first_columns : List ℕ
  pub merge_last_rows : List ℕ
  pub merge_last_columns : List ℕ
  pub row_breaks : List ℕ
  pub column_breaks : List ℕ

-- ten lists together
abbrev pub lists : List ℕ → List ℕ → List ℕ → List ℕ → List ℕ → List ℕ → List ℕ → List ℕ → List ℕ → List ℕ → Lists
lists ri rs ci cs fr fc lr lc rb cb = record {
  row_indexes = ri;
  row_sizes = rs;
  column_indexes = ci;
  column_sizes = cs;
  merge_first_rows = fr;
  merge_first_columns = fc;
  merge_last_rows = lr;
  merge_last_columns = lc;
  row_breaks = rb;
  column_breaks = cb;
}

-- the lists that are lent together
abbrev pub lists_in : JobLists → Lists
lists_in l =
    lists l.rows.slots.indexes.now l.rows.slots.sizes.now l.columns.slots.indexes.now l.columns.slots.sizes.now
    l.rows.merges.firsts.now l.columns.merges.firsts.now l.rows.merges.lasts.now l.columns.merges.lasts.now
    l.rows.breaks.now l.columns.breaks.now

-- 6: "Slices that make up one list equally long", of the lent lists
abbrev pub even_lists : Lists → Bool
even_lists l =
    eqb (length l.row_indexes) (length l.row_sizes) && (eqb (length l.column_indexes) (length l.column_sizes)
    && (eqb (length l.merge_first_rows) (length l.merge_first_columns) && (eqb (length l.merge_first_rows) (length l.merge_last_rows)
    && eqb (length l.merge_first_rows) (length l.merge_last_columns))))

-- how many items the lent lists hold, and the most areas, for which no list is lent
abbrev pub room_in : Lists → Items
room_in l = record {
  areas = 8;
  rows = length l.row_indexes;
  columns = length l.column_indexes;
  merges = length l.merge_first_rows;
  row_breaks = length l.row_breaks;
  column_breaks = length l.column_breaks;
}

-- 11: "Items read .. fit their lent lists?"
abbrev pub fit_in : Items → Items → Bool
fit_in items room =
    leb items.rows room.rows && (leb items.columns room.columns && (leb items.merges room.merges
    && (leb items.row_breaks room.row_breaks && leb items.column_breaks room.column_breaks)))

-- the questions of this call: those of the bytes, and 11
abbrev pub asked : Bool → Items → List ℕ → List (ℕ × Bool)
asked equally_long room s = questions equally_long s ++ ((11, fit_in (items_of (records s)) room) ∷ [])

-- how many items are read
unfoldable pub admitted : Bool → Items → List ℕ → Outcome Items
admitted equally_long room s = in_order (asked equally_long room s) (items_of (records s))

-- what is asked of a job, and of the lists that are lent for its items
abbrev pub admitted_to : List ℕ → Lists → Outcome Items
admitted_to s l = admitted (even_lists l) (room_in l) s

-- what is read besides the lists: the settings, and how many items
abbrev pub job_of : List Record → Job
job_of rs = record { settings = settings_of rs; items = items_of rs }

-- a job read to lent lists
unfoldable pub read_job : List ℕ → Lists → Outcome Job
read_job s l = in_order (asked (even_lists l) (room_in l) s) (job_of (records s))

-- the answer r of the call and the lent lists, which were `before`, for the bytes s
pub record JobRead (s : List ℕ) (r : Result Job Refusal) (before after : Lists) : Type 0 where
  pub answer : outcome r ≡ read_job s before
  -- "RW u32, i64"
  pub row_indexes_are : after.row_indexes ≡ lent (read_job s before) (values RW 0 (records s)) before.row_indexes
  pub row_sizes_are : after.row_sizes ≡ lent (read_job s before) (values RW 1 (records s)) before.row_sizes
  -- "CL u16, i64"
  pub column_indexes_are : after.column_indexes ≡ lent (read_job s before) (values CL 0 (records s)) before.column_indexes
  pub column_sizes_are : after.column_sizes ≡ lent (read_job s before) (values CL 1 (records s)) before.column_sizes
  -- "MR as AR": "first row, first column, last row, last column"
  pub merge_first_rows_are : after.merge_first_rows ≡ lent (read_job s before) (values MR 0 (records s)) before.merge_first_rows
  pub merge_first_columns_are : after.merge_first_columns ≡ lent (read_job s before) (values MR 1 (records s)) before.merge_first_columns
  pub merge_last_rows_are : after.merge_last_rows ≡ lent (read_job s before) (values MR 2 (records s)) before.merge_last_rows
  pub merge_last_columns_are : after.merge_last_columns ≡ lent (read_job s before) (values MR 3 (records s)) before.merge_last_columns
  -- "BR u32; BC u16"
  pub row_breaks_are : after.row_breaks ≡ lent (read_job s before) (values BR 0 (records s)) before.row_breaks
  pub column_breaks_are : after.column_breaks ≡ lent (read_job s before) (values BC 0 (records s)) before.column_breaks

-- after a call the ten lent lists are the ones that were lent, each in its place
pub record StillLent (old new : JobLists) : Type 0 where
  pub row_indexes : new.rows.slots.indexes.ghost_name ≡ old.rows.slots.indexes.ghost_name
  pub row_sizes : new.rows.slots.sizes.ghost_name ≡ old.rows.slots.sizes.ghost_name
  pub column_indexes : new.columns.slots.indexes.ghost_name ≡ old.columns.slots.indexes.ghost_name
  pub column_sizes : new.columns.slots.sizes.ghost_name ≡ old.columns.slots.sizes.ghost_name
  pub merge_first_rows : new.rows.merges.firsts.ghost_name ≡ old.rows.merges.firsts.ghost_name
  pub merge_first_columns : new.columns.merges.firsts.ghost_name ≡ old.columns.merges.firsts.ghost_name
  pub merge_last_rows : new.rows.merges.lasts.ghost_name ≡ old.rows.merges.lasts.ghost_name
  pub merge_last_columns : new.columns.merges.lasts.ghost_name ≡ old.columns.merges.lasts.ghost_name
  pub row_breaks : new.rows.breaks.ghost_name ≡ old.rows.breaks.ghost_name
  pub column_breaks : new.columns.breaks.ghost_name ≡ old.columns.breaks.ghost_name

-- ---- for the private functions

-- the lists of the slots of an axis, and of its merges, each in its place
pub record SlotsStill (old new : LentSlots) : Type 0 where
  pub indexes : new.indexes.ghost_name ≡ old.indexes.ghost_name
  pub sizes : new.sizes.ghost_name ≡ old.sizes.ghost_name

pub record MergesStill (old new : LentMerges) : Type 0 where
  pub firsts : new.firsts.ghost_name ≡ old.firsts.ghost_name
  pub lasts : new.lasts.ghost_name ≡ old.lasts.ghost_name

-- the lent lists hold the items
pub record Room (s : List ℕ) (l : Lists) : Type 0 where
  pub even : even_lists l ≡ true
  pub fits : fit_in (items_of (records s)) (room_in l) ≡ true

-- all items were written to the front of the lent lists, which were `before`
pub record AllWritten (s : List ℕ) (before after : Lists) : Type 0 where
  pub row_indexes_are : after.row_indexes ≡ written (values RW 0 (records s)) before.row_indexes
  pub row_sizes_are : after.row_sizes ≡ written (values RW 1 (records s)) before.row_sizes
  pub column_indexes_are : after.column_indexes ≡ written (values CL 0 (records s)) before.column_indexes
  pub column_sizes_are : after.column_sizes ≡ written (values CL 1 (records s)) before.column_sizes
  pub merge_first_rows_are : after.merge_first_rows ≡ written (values MR 0 (records s)) before.merge_first_rows
  pub merge_first_columns_are : after.merge_first_columns ≡ written (values MR 1 (records s)) before.merge_first_columns
  pub merge_last_rows_are : after.merge_last_rows ≡ written (values MR 2 (records s)) before.merge_last_rows
  pub merge_last_columns_are : after.merge_last_columns ≡ written (values MR 3 (records s)) before.merge_last_columns
  pub row_breaks_are : after.row_breaks ≡ written (values BR 0 (records s)) before.row_breaks
  pub column_breaks_are : after.column_breaks ≡ written (values BC 0 (records s)) before.column_breaks
