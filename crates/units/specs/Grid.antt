-- The grid of a worksheet, and the largest size of a row or a column. Assumes nothing.
use Rattle.std.specs.Prelude.{ℕ}

-- "1,048,575 (rows) or 16,383 (columns)": the last row of the grid
abbrev pub last_row : ℕ
last_row = 1048575

-- and its last column
abbrev pub last_column : ℕ
last_column = 16383

-- "Sizes 0 to 1,073,741,823"
abbrev pub largest_size : ℕ
largest_size = 1073741823
