-- How the records of a job are walked once question 4 is answered yes: marks that never fall, so that the items of a kind stand together.
-- For the private functions of `src/settings.rt` and `src/lists.rt`. Assumes nothing.
use Rattle.std.specs.Prelude.{◌≡◌, Bool, cond, ◌||◌, List, ℕ, ◌≤◌, eqb, Option, Some, None}
use Rattle.job_records.specs.Records.{PC, SC, FW, FH, FT, OD, TR, TC, RW, CL, BR, BC, rank, field, marked, records}
use Rattle.job_records.specs.declared.records.Range.{Range}
use Rattle.job_records.specs.declared.records.Record.{Record}
use Rattle.job_records.specs.declared.records.Head.{Head}
use Rattle.job_reader.specs.declared.lists.Measured.{Measured}

-- the next record, where its mark is k
unfoldable pub of_kind : ℕ → Option Head → Option Head
of_kind k None = None
of_kind k (Some h) = cond (eqb (rank h.found) k) (Some h) None

-- s is an end of b that has all records with the marks from k on
pub record Kept (k : ℕ) (b s : List ℕ) : Type 0 where
  pub same : (j : ℕ) → k ≤ j → marked j (records s) ≡ marked j (records b)

-- the marks with a body of one u16, and of one u8, among the settings
abbrev pub is_number : ℕ → Bool
is_number k = eqb k PC || (eqb k SC || (eqb k FW || eqb k FH))

-- a kind of record that has a flag
abbrev pub is_flag : ℕ → Bool
is_flag k = eqb k FT || eqb k OD

-- a kind of record that has a title
abbrev pub is_title : ℕ → Bool
is_title k = eqb k TR || eqb k TC

-- the marks of slots, and of breaks
abbrev pub is_slot : ℕ → Bool
is_slot k = eqb k RW || eqb k CL

-- a kind of record that has a break
abbrev pub is_break : ℕ → Bool
is_break k = eqb k BR || eqb k BC

-- a slot's index and size
abbrev pub measured : Record → Measured
measured r = record { index = field 0 r; size = field 1 r }

-- the four indexes of a merge
abbrev pub cells : Record → Range
cells r = record { first_row = field 0 r; first_column = field 1 r; last_row = field 2 r; last_column = field 3 r }
