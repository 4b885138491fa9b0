-- How the records of a job are walked: one by one, and up to those of a mark. Assumes nothing.
use Rattle.std.specs.Prelude.{cond, List, [], ◌∷◌, ℕ, ◌≤◌, eqb, ltb, Option, Some, None}
use mathlib.Core.HLevel.{×_prop, Unit-prop}
use native.Mathlib.Bridge.{le_prop}
use Rattle.job_records.specs.Records.{rank, is_end, records}
use Rattle.job_records.specs.declared.records.Record.{Record}
use Rattle.job_records.specs.declared.records.Head.{Head}
use Rattle.job_walk.specs.declared.Records.{Records}

-- the record before the EN that a step found
unfoldable pub before : Option Head → Option Head
before None = None
before (Some h) = cond (is_end h.found) None (Some h)

-- the records that are still to come
abbrev pub left : Records → List Record
left r = records r.rest.now

-- the first of some records
abbrev pub first_of : List Record → Option Record
first_of [] = None
first_of (r ∷ rs) = Some r

-- the records with the mark k that stand before every record with a later mark
unfoldable pub in_place : ℕ → List Record → List Record
in_place k [] = []
in_place k (r ∷ rs) = cond (ltb k (rank r)) [] (cond (eqb (rank r) k) (r ∷ in_place k rs) (in_place k rs))

-- "in this order": marks from k on that never fall, so that all records with a mark are in place
abbrev pub Sorted : ℕ → List Record → Type 0
Sorted k [] = Unit {0}
Sorted k (r ∷ rs) = (k ≤ rank r) × Sorted (rank r) rs

-- of which there is one proof at most
pub sorted_prop : (k : ℕ) (rs : List Record) → IsProp (Sorted k rs)
sorted_prop k [] = Unit-prop
sorted_prop k (r ∷ rs) = ×_prop le_prop (sorted_prop (rank r) rs)
