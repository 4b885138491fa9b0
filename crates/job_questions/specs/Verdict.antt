-- Document 01, section "Questions in order", and document 02, T-02: 1 to 9 and 15 as they are put to a job, each to the whole input, and the
-- first number with a no. Assumes nothing.
use Rattle.std.specs.Prelude.{ℕ, ◌+◌, Bool, true, cond, ◌&&◌, ◌||◌, List, [], ◌∷◌, length, leb, ltb, eqb, ℤ, pos}
use Rattle.std.specs.Int.Signed.{le_z}
use Rattle.units.specs.Grid.{last_row, last_column, largest_size}
use Rattle.units.specs.Outcome.{Outcome, given, refused}
use Rattle.job_records.specs.Areas.{ranges_in}
use Rattle.job_records.specs.Records.{UC, AR, RW, CL, MR, BR, BC, rank, step, ended, records, rest, marked, values}
use Rattle.planner_rules.specs.Areas.{one_to_eight}
use Rattle.planner_rules.specs.Union.{cells_hold}
use Rattle.job_settings.specs.Meaning.{areas_for}
use Rattle.job_walk.specs.Areas.{limit_from, areas_from}
use Rattle.job_records.specs.declared.records.Range.{Range}
use Rattle.job_records.specs.declared.records.Record.{Record}
use Rattle.job_records.specs.declared.records.Record.TheVariants.{Paper, Landscape, Margin, Scale, Wide, High, Fit, Order, Headings, Limit, Cells, Area}
use Rattle.job_records.specs.declared.records.Record.TheVariants.{TitleRows, TitleColumns, Row, Column, Merged, RowBreak, ColumnBreak, End}
use Rattle.job_questions.specs.declared.Asked.{Asked}
use Rattle.job_questions.specs.declared.Asked.TheVariants.{Flag, Rectangle, InRows, InColumns, Other}
use Rattle.job_questions.specs.declared.Items.{Items}

-- what the questions 5, 6, 7 and 9 ask of a record: "FT and OD", "AR and every MR", "Sizes"
abbrev pub asked : Record → Asked
asked (Paper x) = Other
asked Landscape = Other
asked (Margin m) = Other
asked (Scale x) = Other
asked (Wide x) = Other
asked (High x) = Other
asked (Fit x) = Flag x
asked (Order x) = Flag x
asked Headings = Other
asked (Limit x) = Other
asked (Cells x) = Other
asked (Area a) = Rectangle a
asked (TitleRows f l) = Other
asked (TitleColumns f l) = Other
asked (Row s) = InRows s
asked (Column s) = InColumns s
asked (Merged m) = Rectangle m.cells
asked (RowBreak b) = Other
asked (ColumnBreak b) = Other
asked End = Other

-- a test that every record passes
unfoldable pub every : (Asked → Bool) → List Record → Bool
every p [] = true
every p (r ∷ rs) = p (asked r) && every p rs

-- ---- 4

-- "Only RW, CL, MR, BR and BC repeat", and "AR may stand up to eight times"
abbrev pub repeats : ℕ → Bool
repeats n = eqb n AR || (leb RW n && leb n BC)

-- "Marks ordered, repeated only where allowed": a mark may follow an earlier one, or itself
abbrev pub follows : ℕ → ℕ → Bool
follows k n = ltb k n || (eqb k n && repeats n)

-- each mark may follow the one before it; k is the first one's
unfoldable pub ordered : ℕ → List Record → Bool
ordered k [] = true
ordered k (r ∷ rs) = follows k (rank r) && ordered (rank r) rs

-- ---- tests of one record: true where the question does not ask it

-- "FT and OD 0 or 1"
abbrev pub flag_ok : Asked → Bool
flag_ok (Flag x) = leb x 1
flag_ok (Rectangle a) = true
flag_ok (InRows s) = true
flag_ok (InColumns s) = true
flag_ok Other = true

-- "firsts not above lasts in AR and every MR"
abbrev pub firsts_ok : Range → Bool
firsts_ok a = leb a.first_row a.last_row && leb a.first_column a.last_column

-- 6, of one record
abbrev pub not_reversed : Asked → Bool
not_reversed (Flag x) = true
not_reversed (Rectangle a) = firsts_ok a
not_reversed (InRows s) = true
not_reversed (InColumns s) = true
not_reversed Other = true

-- "AR and every MR inside the grid"
abbrev pub grid_ok : Range → Bool
grid_ok a =
    (leb a.first_row last_row && leb a.last_row last_row) && (leb a.first_column last_column && leb a.last_column last_column)

-- 7, of one record
abbrev pub in_grid : Asked → Bool
in_grid (Flag x) = true
in_grid (Rectangle a) = grid_ok a
in_grid (InRows s) = true
in_grid (InColumns s) = true
in_grid Other = true

-- "Sizes 0 to 1,073,741,823"
abbrev pub size_ok : ℤ → Bool
size_ok z = le_z (pos 0) z && le_z z (pos largest_size)

-- 9, of one record
abbrev pub sized : Asked → Bool
sized (Flag x) = true
sized (Rectangle a) = true
sized (InRows s) = size_ok s.size
sized (InColumns s) = size_ok s.size
sized Other = true

-- "Slot indexes strictly rising and inside the grid": from k on, each above the one before, none above the last
unfoldable pub rising : ℕ → ℕ → List ℕ → Bool
rising top k [] = true
rising top k (i ∷ is) = leb k i && (leb i top && rising top (i + 1) is)

-- ---- the questions

-- the most bytes of a job
abbrev pub most_bytes : ℕ
most_bytes = 60000

-- "1. At most 60,000 bytes?"
abbrev pub question1 : List ℕ → Bool
question1 s = leb (length s) most_bytes

-- "2. Whole known records up to an EN? (empty input: 2)"
abbrev pub question2 : List ℕ → Bool
question2 s = ended (step (rest s))

-- "3. EN last?": of what stands from the first EN on, the EN is all
abbrev pub question3 : List ℕ → Bool
question3 s = eqb (length (rest s)) 2

-- "4. Marks ordered, repeated only where allowed, AR there?"; "AR may stand up to eight times; more is a 4"
abbrev pub question4 : List ℕ → Bool
question4 s = ordered 0 (records s) && one_to_eight (length (marked AR (records s)))

-- "5. FT and OD 0 or 1?"
abbrev pub question5 : List ℕ → Bool
question5 s = every flag_ok (records s)

-- "6. Slices that make up one list equally long, and firsts not above lasts in AR and every MR (titles are never refused)?"
abbrev pub question6 : Bool → List ℕ → Bool
question6 equally_long s = equally_long && every not_reversed (records s)

-- "7. AR and every MR inside the grid?"
abbrev pub question7 : List ℕ → Bool
question7 s = every in_grid (records s)

-- "15 when the union exceeds UC, asked after 7"
abbrev pub question15 : List ℕ → Bool
question15 s = cells_hold (limit_from (marked UC (records s))) (areas_for (ranges_in (areas_from (marked AR (records s)))))

-- "8. Slot indexes strictly rising and inside the grid?"
abbrev pub question8 : List ℕ → Bool
question8 s = rising last_row 0 (values RW 0 (records s)) && rising last_column 0 (values CL 0 (records s))

-- "9. Sizes 0 to 1,073,741,823?"
abbrev pub question9 : List ℕ → Bool
question9 s = every sized (records s)

-- ---- the answer

-- "A "no" returns the number": questions by their numbers and answers, and what is given where all are answered yes
abbrev pub in_order : {A : Type 0} → List (ℕ × Bool) → A → Outcome A
in_order [] v = given v
in_order ((n, q) ∷ qs) v = cond q (in_order qs v) (refused n)

-- how many records repeat of each kind: AR, and "RW, CL, MR, BR and BC"
abbrev pub items_of : List Record → Items
items_of rs = record {
  areas = length (marked AR rs);
  rows = length (marked RW rs);
  columns = length (marked CL rs);
  merges = length (marked MR rs);
  row_breaks = length (marked BR rs);
  column_breaks = length (marked BC rs);
}

-- "Each is put to the whole input, where the call has it": of the slices that a caller was lent, whether they are equally long
abbrev pub questions : Bool → List ℕ → List (ℕ × Bool)
questions equally_long s =
    (1, question1 s)
    ∷ (2, question2 s)
    ∷ (3, question3 s)
    ∷ (4, question4 s)
    ∷ (5, question5 s)
    ∷ (6, question6 equally_long s)
    ∷ (7, question7 s)
    ∷ (15, question15 s)
    ∷ (8, question8 s)
    ∷ (9, question9 s)
    ∷ []

-- the first no, or how many items there are
unfoldable pub verdict_lent : Bool → List ℕ → Outcome Items
verdict_lent equally_long s = in_order (questions equally_long s) (items_of (records s))

-- of a call that was lent no slices
abbrev pub verdict : List ℕ → Outcome Items
verdict s = verdict_lent true s
