-- What one pass over the records carries from record to record, for the private functions of `src/lib.rt`. Assumes nothing.
use Rattle.std.specs.Prelude.{ℕ, ◌+◌, ◌<◌, ◌^◌, Bool, true, cond, ◌&&◌, List, [], ◌∷◌, leb, eqb, Option, Some, None, is_some, Result, Ok, Err}
use Rattle.job_records.specs.Records.{AR, RW, CL, MR, BR, BC, rank, mark_before, records}
use Rattle.units.specs.Grid.{last_row, last_column}
use Rattle.planner_rules.specs.Areas.{one_to_eight}
use Rattle.job_questions.specs.Verdict.{asked, follows, flag_ok, not_reversed, in_grid, sized, question1, question2, question3}
use Rattle.job_records.specs.declared.records.Record.{Record}
use Rattle.job_questions.specs.declared.Asked.{Asked}
use Rattle.job_questions.specs.declared.Asked.TheVariants.{Flag, Rectangle, InRows, InColumns, Other}
use Rattle.job_questions.specs.declared.Fine.{Fine}
use Rattle.job_questions.specs.declared.Items.{Items}
use Rattle.job_questions.specs.declared.State.{State}
use Rattle.units.specs.declared.refusal.Refusal.{Refusal}
use Rattle.units.specs.declared.refusal.Refusal.TheVariants.{TooManyBytes, BrokenRecord, EndNotLast}
use Rattle.job_records.specs.Marks.{place}
use Rattle.job_records.specs.declared.marks.Mark.{Mark}

-- what a record answers to the questions 5, 6, 7 and 9
abbrev pub fine : Asked → Fine
fine a = record { flag = flag_ok a; first = not_reversed a; grid = in_grid a; size = sized a }

-- what is fine of both
abbrev pub both_fine : Fine → Fine → Fine
both_fine a b = record { flag = a.flag && b.flag; first = a.first && b.first; grid = a.grid && b.grid; size = a.size && b.size }

-- 8 of one axis: the least index that may come next, after a slot with the index i; none where a slot did not rise in the grid
abbrev pub placed : ℕ → Option ℕ → ℕ → Option ℕ
placed top None i = None
placed top (Some n) i = cond (leb n i && leb i top) (Some (i + 1)) None

-- the next row that may come, after a record
abbrev pub rows_after : Option ℕ → Asked → Option ℕ
rows_after n (Flag x) = n
rows_after n (Rectangle r) = n
rows_after n (InRows s) = placed last_row n s.index
rows_after n (InColumns s) = n
rows_after n Other = n

-- the next column that may come, after a record
abbrev pub columns_after : Option ℕ → Asked → Option ℕ
columns_after n (Flag x) = n
columns_after n (Rectangle r) = n
columns_after n (InRows s) = n
columns_after n (InColumns s) = placed last_column n s.index
columns_after n Other = n

-- one more where the ranks are the same
abbrev pub one_more : ℕ → ℕ → ℕ → ℕ
one_more n k j = n + cond (eqb k j) 1 0

-- the items counted, after a record with the rank k
abbrev pub counted : Items → ℕ → Items
counted c k = record {
  areas = one_more c.areas k AR;
  rows = one_more c.rows k RW;
  columns = one_more c.columns k CL;
  merges = one_more c.merges k MR;
  row_breaks = one_more c.row_breaks k BR;
  column_breaks = one_more c.column_breaks k BC;
}

-- so few that one more can be counted
pub record Few (c : Items) : Type 0 where
  pub areas : c.areas < 2 ^ 32
  pub rows : c.rows < 2 ^ 32
  pub columns : c.columns < 2 ^ 32
  pub merges : c.merges < 2 ^ 32
  pub row_breaks : c.row_breaks < 2 ^ 32
  pub column_breaks : c.column_breaks < 2 ^ 32

-- the place of the mark that came last, or 0
abbrev pub rank_in : Option Mark → ℕ
rank_in None = 0
rank_in (Some m) = place m

-- before the first record
abbrev pub start : State
start = record {
  last = None;
  ordered = true;
  fine = record { flag = true; first = true; grid = true; size = true };
  rows = Some 0;
  columns = Some 0;
  items = record { areas = 0; rows = 0; columns = 0; merges = 0; row_breaks = 0; column_breaks = 0 };
}

-- the state of a pass after one more record
abbrev pub advanced : State → Record → State
advanced t r = record {
  last = Some (mark_before r);
  ordered = t.ordered && follows (rank_in t.last) (rank r);
  fine = both_fine t.fine (fine (asked r));
  rows = rows_after t.rows (asked r);
  columns = columns_after t.columns (asked r);
  items = counted t.items (rank r);
}

-- after some records
unfoldable pub after : State → List Record → State
after t [] = t
after t (r ∷ rs) = after (advanced t r) rs

-- the first of the questions 1 to 3 that is answered no, or what a pass over the records carries
unfoldable pub surveyed : List ℕ → Result State Refusal
surveyed s =
    cond (question1 s) (cond (question2 s) (cond (question3 s) (Ok (after start (records s))) (Err EndNotLast)) (Err BrokenRecord)) (Err TooManyBytes)

-- the number of the first no, or 0
unfoldable pub first_no : List (ℕ × Bool) → ℕ
first_no [] = 0
first_no ((n, q) ∷ qs) = cond q (first_no qs) n

-- the first of the questions 4 to 7, 15, 8 and 9 that is answered no, or 0; 15 is not the pass's
unfoldable pub answer : Bool → Bool → State → ℕ
answer equally_long cells t =
    first_no
    ((4, t.ordered && one_to_eight t.items.areas)
    ∷ (5, t.fine.flag)
    ∷ (6, equally_long && t.fine.first)
    ∷ (7, t.fine.grid)
    ∷ (15, cells)
    ∷ (8, is_some t.rows && is_some t.columns)
    ∷ (9, t.fine.size)
    ∷ [])
