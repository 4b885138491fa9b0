-- A record of the rank of one kind is of that kind: what an arm's default leaves out. Assumes nothing.
use Rattle.std.proofs.Common.{◌≡◌, ℕ, false, refl, arith}
use Rattle.job_records.specs.declared.records.Range.{Range}
use Rattle.job_records.specs.declared.records.Record.{Record}
use Rattle.job_records.specs.declared.records.Record.TheVariants.{Limit, Cells, Area}
use Rattle.job_records.specs.Records.{rank}
use Rattle.job_walk.specs.Areas.{is_limit}

pub no_limit : (r : Record) → ((x : ℕ) → r ≡ Limit x → ⊥) → ((x : ℕ) → r ≡ Cells x → ⊥) → is_limit (rank r) ≡ false
no_limit (Limit x) h k = absurd (h x refl)
no_limit (Cells x) h k = absurd (k x refl)
no_limit r h k = refl

pub only_area : (r : Record) → rank r ≡ 12 → ((a : Range) → r ≡ Area a → ⊥) → ⊥
only_area (Area a) e h = h a refl
only_area r e h = omega arith
