-- The marks of the records (document 01, section "Jobs"): their places, the numbers that they spell, and how many bytes go with them. Assumes nothing.
use Rattle.std.specs.Prelude.{ℕ, ◌+◌, ◌*◌, cond, List, [], ◌∷◌, eqb, Option, Some, None}
use Rattle.job_records.specs.declared.marks.Mark.{Mark}
use Rattle.job_records.specs.declared.marks.Mark.TheVariants as mark

-- the place of a mark in the order of the records, from 1
abbrev pub place : Mark → ℕ
place mark.Paper = 1
place mark.Landscape = 2
place mark.Margins = 3
place mark.Percent = 4
place mark.FitWidth = 5
place mark.FitHeight = 6
place mark.Fit = 7
place mark.Order = 8
place mark.Headings = 9
place mark.PageLimit = 10
place mark.CellLimit = 11
place mark.Area = 12
place mark.RowTitle = 13
place mark.ColumnTitle = 14
place mark.Row = 15
place mark.Column = 16
place mark.Merge = 17
place mark.RowBreak = 18
place mark.ColumnBreak = 19
place mark.End = 20

-- "a two-byte ASCII mark before each", as the number that its two bytes spell
abbrev pub number_of : Mark → ℕ
number_of mark.Paper = 80 + 256 * 67
number_of mark.Landscape = 76 + 256 * 65
number_of mark.Margins = 77 + 256 * 71
number_of mark.Percent = 83 + 256 * 67
number_of mark.FitWidth = 70 + 256 * 87
number_of mark.FitHeight = 70 + 256 * 72
number_of mark.Fit = 70 + 256 * 84
number_of mark.Order = 79 + 256 * 68
number_of mark.Headings = 72 + 256 * 68
number_of mark.PageLimit = 76 + 256 * 80
number_of mark.CellLimit = 85 + 256 * 67
number_of mark.Area = 65 + 256 * 82
number_of mark.RowTitle = 84 + 256 * 82
number_of mark.ColumnTitle = 84 + 256 * 67
number_of mark.Row = 82 + 256 * 87
number_of mark.Column = 67 + 256 * 76
number_of mark.Merge = 77 + 256 * 82
number_of mark.RowBreak = 66 + 256 * 82
number_of mark.ColumnBreak = 66 + 256 * 67
number_of mark.End = 69 + 256 * 78

-- the marks "in this order"
abbrev pub marks : List Mark
marks =
    mark.Paper ∷ mark.Landscape ∷ mark.Margins ∷ mark.Percent ∷ mark.FitWidth ∷ mark.FitHeight ∷ mark.Fit ∷ mark.Order ∷ mark.Headings
    ∷ mark.PageLimit ∷ mark.CellLimit ∷ mark.Area ∷ mark.RowTitle ∷ mark.ColumnTitle ∷ mark.Row ∷ mark.Column ∷ mark.Merge ∷ mark.RowBreak
    ∷ mark.ColumnBreak ∷ mark.End ∷ []

-- the first of some marks that spells a number
abbrev pub spelled_by : ℕ → List Mark → Option Mark
spelled_by n [] = None
spelled_by n (m ∷ ms) = cond (eqb n (number_of m)) (Some m) (spelled_by n ms)

-- the mark that spells a number, if one does
unfoldable pub mark_of : ℕ → Option Mark
mark_of n = spelled_by n marks

-- how many bytes a record with a mark has, the mark counted
abbrev pub bytes_of : Mark → ℕ
bytes_of mark.Paper = 4
bytes_of mark.Landscape = 2
bytes_of mark.Margins = 50
bytes_of mark.Percent = 4
bytes_of mark.FitWidth = 4
bytes_of mark.FitHeight = 4
bytes_of mark.Fit = 3
bytes_of mark.Order = 3
bytes_of mark.Headings = 2
bytes_of mark.PageLimit = 10
bytes_of mark.CellLimit = 10
bytes_of mark.Area = 14
bytes_of mark.RowTitle = 10
bytes_of mark.ColumnTitle = 6
bytes_of mark.Row = 14
bytes_of mark.Column = 12
bytes_of mark.Merge = 14
bytes_of mark.RowBreak = 6
bytes_of mark.ColumnBreak = 4
bytes_of mark.End = 2
