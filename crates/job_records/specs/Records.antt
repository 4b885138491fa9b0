-- Document 01, section "Jobs": the records of a job. A record is said of the bytes from its mark on, so that no definition speaks of a
-- position. Assumes nothing.
use Rattle.std.specs.Prelude.{ℕ, zero, suc, pred, ◌+◌, ◌*◌, Bool, false, not, cond, List, [], ◌∷◌, map, length, get_or, leb, eqb, nat_abs, Option, Some, None}
use Rattle.units.specs.Outcome.{Outcome, given, refused}
use Rattle.job_records.specs.LittleEndian.{u16_at, u32_at, u64_at, i64_of}
use Rattle.job_records.specs.declared.records.Range.{Range}
use Rattle.job_records.specs.declared.records.Slot.{Slot}
use Rattle.units.specs.declared.margins.Margins.{Margins}
use Rattle.job_records.specs.declared.records.Record.{Record}
use Rattle.job_records.specs.declared.records.Record.TheVariants.{Paper, Landscape, Margin, Scale, Wide, High, Fit, Order, Headings, Limit, Cells, Area}
use Rattle.job_records.specs.declared.records.Record.TheVariants.{TitleRows, TitleColumns, Row, Column, Merged, RowBreak, ColumnBreak, End}
use Rattle.job_records.specs.Marks.{place}
use Rattle.job_records.specs.declared.records.Head.{Head}
use Rattle.job_records.specs.declared.marks.Mark.{Mark}
use Rattle.job_records.specs.declared.marks.Mark.TheVariants as mark

-- ---- what stands after a mark, which has two bytes

-- "MG six f64", each by the 64 bits that stand for it: "left, right, top, bottom, header, footer"
abbrev pub margins_at : List ℕ → Margins ℕ
margins_at s = record {
  left = u64_at s 2;
  right = u64_at s 10;
  top = u64_at s 18;
  bottom = u64_at s 26;
  header = u64_at s 34;
  footer = u64_at s 42;
}

-- "AR range u32, u16, u32, u16 as first row, first column, last row, last column"; "MR as AR"
abbrev pub range_at : List ℕ → Range
range_at s = record { first_row = u32_at s 2; first_column = u16_at s 6; last_row = u32_at s 8; last_column = u16_at s 12 }

-- "RW u32, i64"
abbrev pub row_at : List ℕ → Slot
row_at s = record { index = u32_at s 2; size = i64_of (u64_at s 6) }

-- "CL u16, i64"
abbrev pub column_at : List ℕ → Slot
column_at s = record { index = u16_at s 2; size = i64_of (u64_at s 4) }

-- ---- the table of records

-- "a two-byte ASCII mark before each", as the number that its two bytes spell; what stands after it; how many bytes the record has, its
-- mark counted
pub record Format : Type 0 where
  pub mark : ℕ
  pub kind : List ℕ → Record
  pub bytes : ℕ

-- a kind of record, by the two bytes of its mark
abbrev pub format : ℕ → ℕ → (List ℕ → Record) → ℕ → Format
format a b k n = record { mark = a + 256 * b; kind = k; bytes = n }

-- "Little-endian records .. in this order"; "LA, HD and EN have no body"
unfoldable pub formats : List Format
formats =
    -- "PC paper u16"
    format 80 67 (λ s. Paper (u16_at s 2)) 4
    -- "LA landscape"
    ∷ format 76 65 (λ s. Landscape) 2
    -- "MG six f64"
    ∷ format 77 71 (λ s. Margin (margins_at s)) 50
    -- "SC percent u16"
    ∷ format 83 67 (λ s. Scale (u16_at s 2)) 4
    -- "FW, FH targets u16"
    ∷ format 70 87 (λ s. Wide (u16_at s 2)) 4
    ∷ format 70 72 (λ s. High (u16_at s 2)) 4
    -- "FT fit u8"
    ∷ format 70 84 (λ s. Fit (get_or s 2 0)) 3
    -- "OD u8, 1 for over then down"
    ∷ format 79 68 (λ s. Order (get_or s 2 0)) 3
    -- "HD headings"
    ∷ format 72 68 (λ s. Headings) 2
    -- "LP page limit u64"
    ∷ format 76 80 (λ s. Limit (u64_at s 2)) 10
    -- document 02, T-02: "UC, u64, between LP and AR"
    ∷ format 85 67 (λ s. Cells (u64_at s 2)) 10
    -- "AR range u32, u16, u32, u16"
    ∷ format 65 82 (λ s. Area (range_at s)) 14
    -- "TR two u32"
    ∷ format 84 82 (λ s. TitleRows (u32_at s 2) (u32_at s 6)) 10
    -- "TC two u16"
    ∷ format 84 67 (λ s. TitleColumns (u16_at s 2) (u16_at s 4)) 6
    -- "RW u32, i64"
    ∷ format 82 87 (λ s. Row (row_at s)) 14
    -- "CL u16, i64"
    ∷ format 67 76 (λ s. Column (column_at s)) 12
    -- "MR as AR"
    ∷ format 77 82 (λ s. Merged (record { cells = range_at s })) 14
    -- "BR u32"
    ∷ format 66 82 (λ s. RowBreak (u32_at s 2)) 6
    -- "BC u16"
    ∷ format 66 67 (λ s. ColumnBreak (u16_at s 2)) 4
    -- "EN"
    ∷ format 69 78 (λ s. End) 2
    ∷ []

-- a record that was found, and how many bytes it has
pub record Found : Type 0 where
  pub kind : Record
  pub bytes : ℕ

-- the same as an outcome
abbrev pub found : Record → ℕ → Outcome Found
found r n = given (record { kind = r; bytes = n })

-- the record of a mark among some formats; an unknown mark is no to 2, "Whole known records up to an EN?"
unfoldable pub find : ℕ → List Format → List ℕ → Outcome Found
find m [] s = refused 2
find m (f ∷ fs) s = cond (eqb m f.mark) (found (f.kind s) f.bytes) (find m fs s)

-- the record with a mark, for a private function of `src/records.rt`
abbrev pub kind_of : Mark → List ℕ → Record
kind_of mark.Paper s = Paper (u16_at s 2)
kind_of mark.Landscape s = Landscape
kind_of mark.Margins s = Margin (margins_at s)
kind_of mark.Percent s = Scale (u16_at s 2)
kind_of mark.FitWidth s = Wide (u16_at s 2)
kind_of mark.FitHeight s = High (u16_at s 2)
kind_of mark.Fit s = Fit (get_or s 2 0)
kind_of mark.Order s = Order (get_or s 2 0)
kind_of mark.Headings s = Headings
kind_of mark.PageLimit s = Limit (u64_at s 2)
kind_of mark.CellLimit s = Cells (u64_at s 2)
kind_of mark.Area s = Area (range_at s)
kind_of mark.RowTitle s = TitleRows (u32_at s 2) (u32_at s 6)
kind_of mark.ColumnTitle s = TitleColumns (u16_at s 2) (u16_at s 4)
kind_of mark.Row s = Row (row_at s)
kind_of mark.Column s = Column (column_at s)
kind_of mark.Merge s = Merged (record { cells = range_at s })
kind_of mark.RowBreak s = RowBreak (u32_at s 2)
kind_of mark.ColumnBreak s = ColumnBreak (u16_at s 2)
kind_of mark.End s = End

-- the record of a known mark at the head of the bytes
unfoldable pub known : List ℕ → Outcome Found
known s = find (u16_at s 0) formats s

-- a record counts where all its bytes are there, of n; one that is not whole is no to 2
unfoldable pub whole : ℕ → Outcome Found → Outcome Found
whole n (given f) = cond (leb f.bytes n) (given f) (refused 2)
whole n (refused k) = refused k

-- the whole known record at the head of the bytes, and how many bytes it has
unfoldable pub head_record : List ℕ → Outcome Found
head_record s = whole (length s) (known s)

-- the outcome that a head stands for, or its absence
abbrev pub step_outcome : Option Head → Outcome Found
step_outcome (Some h) = found h.found h.bytes
step_outcome None = refused 2

-- the head that stands for an outcome
abbrev pub step_of : Outcome Found → Option Head
step_of (given f) = Some (record { found = f.kind; bytes = f.bytes })
step_of (refused n) = None

-- the step from the head of the bytes
unfoldable pub step : List ℕ → Option Head
unfolding head_record
step s = step_of (head_record s)

-- ---- the places of the marks in the order of the records, from 1

abbrev pub PC : ℕ
PC = 1

abbrev pub LA : ℕ
LA = 2

abbrev pub MG : ℕ
MG = 3

abbrev pub SC : ℕ
SC = 4

abbrev pub FW : ℕ
FW = 5

abbrev pub FH : ℕ
FH = 6

abbrev pub FT : ℕ
FT = 7

abbrev pub OD : ℕ
OD = 8

abbrev pub HD : ℕ
HD = 9

abbrev pub LP : ℕ
LP = 10

abbrev pub UC : ℕ
UC = 11

abbrev pub AR : ℕ
AR = 12

abbrev pub TR : ℕ
TR = 13

abbrev pub TC : ℕ
TC = 14

abbrev pub RW : ℕ
RW = 15

abbrev pub CL : ℕ
CL = 16

abbrev pub MR : ℕ
MR = 17

abbrev pub BR : ℕ
BR = 18

abbrev pub BC : ℕ
BC = 19

abbrev pub EN : ℕ
EN = 20

-- the mark before a record
abbrev pub mark_before : Record → Mark
mark_before (Paper x) = mark.Paper
mark_before Landscape = mark.Landscape
mark_before (Margin m) = mark.Margins
mark_before (Scale x) = mark.Percent
mark_before (Wide x) = mark.FitWidth
mark_before (High x) = mark.FitHeight
mark_before (Fit x) = mark.Fit
mark_before (Order x) = mark.Order
mark_before Headings = mark.Headings
mark_before (Limit x) = mark.PageLimit
mark_before (Cells x) = mark.CellLimit
mark_before (Area a) = mark.Area
mark_before (TitleRows f l) = mark.RowTitle
mark_before (TitleColumns f l) = mark.ColumnTitle
mark_before (Row s) = mark.Row
mark_before (Column s) = mark.Column
mark_before (Merged m) = mark.Merge
mark_before (RowBreak b) = mark.RowBreak
mark_before (ColumnBreak b) = mark.ColumnBreak
mark_before End = mark.End

-- the place of a record's mark
abbrev pub rank : Record → ℕ
rank r = place (mark_before r)

-- ---- the records of a job, up to the first EN

-- an EN
abbrev pub is_end : Record → Bool
is_end r = eqb (rank r) EN

-- whether reading goes on after a step: it found a record, and that is no EN
unfoldable pub goes_on : Option Head → Bool
goes_on None = false
goes_on (Some h) = not (is_end h.found)

-- whether a step found an EN
unfoldable pub ended : Option Head → Bool
ended None = false
ended (Some h) = is_end h.found

-- how many bytes a step takes
abbrev pub used : Option Head → ℕ
used None = 0
used (Some h) = h.bytes

-- the record of a step, if it is no EN, before others
unfoldable pub onto : Option Head → List Record → List Record
onto None rs = []
onto (Some h) rs = cond (is_end h.found) [] (h.found ∷ rs)

-- the records before the first EN, or before what is no whole known record; k bytes still belong to the record before
unfoldable pub records_from : ℕ → List ℕ → List Record
records_from k [] = []
records_from zero (b ∷ bs) = onto (step (b ∷ bs)) (records_from (pred (used (step (b ∷ bs)))) bs)
records_from (suc k) (b ∷ bs) = records_from k bs

-- the records of a job
unfoldable pub records : List ℕ → List Record
records s = records_from 0 s

-- the bytes after those records: from the first EN on
unfoldable pub rest_from : ℕ → List ℕ → List ℕ
rest_from k [] = []
rest_from zero (b ∷ bs) = cond (goes_on (step (b ∷ bs))) (rest_from (pred (used (step (b ∷ bs)))) bs) (b ∷ bs)
rest_from (suc k) (b ∷ bs) = rest_from k bs

-- the bytes from the EN on, or from where no whole known record stands
unfoldable pub rest : List ℕ → List ℕ
rest s = rest_from 0 s

-- ---- "each record read is one kind with its own fields": the fields, in the order in which they stand

-- the four numbers of a range of cells
abbrev pub cells_of : Range → List ℕ
cells_of a = a.first_row ∷ a.first_column ∷ a.last_row ∷ a.last_column ∷ []

-- a size without its sign: question 9 finds it to be 0 or more
abbrev pub fields : Record → List ℕ
fields (Paper x) = x ∷ []
fields Landscape = []
fields (Margin m) = m.left ∷ m.right ∷ m.top ∷ m.bottom ∷ m.header ∷ m.footer ∷ []
fields (Scale x) = x ∷ []
fields (Wide x) = x ∷ []
fields (High x) = x ∷ []
fields (Fit x) = x ∷ []
fields (Order x) = x ∷ []
fields Headings = []
fields (Limit x) = x ∷ []
fields (Cells x) = x ∷ []
fields (Area a) = cells_of a
fields (TitleRows f l) = f ∷ l ∷ []
fields (TitleColumns f l) = f ∷ l ∷ []
fields (Row s) = s.index ∷ nat_abs s.size ∷ []
fields (Column s) = s.index ∷ nat_abs s.size ∷ []
fields (Merged m) = cells_of m.cells
fields (RowBreak b) = b ∷ []
fields (ColumnBreak b) = b ∷ []
fields End = []

-- a field by its place, from 0
abbrev pub field : ℕ → Record → ℕ
field f r = get_or (fields r) f 0

-- the records with a mark
unfoldable pub marked : ℕ → List Record → List Record
marked k [] = []
marked k (r ∷ rs) = cond (eqb (rank r) k) (r ∷ marked k rs) (marked k rs)

-- a field of each record with a mark
abbrev pub values : ℕ → ℕ → List Record → List ℕ
values k f rs = map (field f) (marked k rs)
