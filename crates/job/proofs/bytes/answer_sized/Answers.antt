-- `job::bytes::answer_sized` meets its contract: its arrays hold all that the job's bytes bring.
use Rattle.std.proofs.Common.{◌≡◌, ℕ, length, sym}
use Rattle.std.proofs.Math.ListN.{replicate}
use Rattle.std.proofs.lemmas.List.{length-replicate}
use Rattle.job_questions.specs.declared.Items.{Items}
use Rattle.job.proofs.ReadLaws.{holds_of}
use Rattle.job.proofs.bytes.answer_sized.Goals as goal

long : (n : ℕ) → n ≡ length {A = ℕ} (replicate n 0)
long n = sym (length-replicate n 0)

pub answer_in-requires : goal.answer_in-requires
answer_in-requires g c =
    let n = g.row in
    let r = c.requires in
    let room : Items =
    record { areas = 8; rows = n.ROWS; columns = n.COLUMNS; merges = n.ROWS; row_breaks = n.ROW_BREAKS; column_breaks = n.COLUMN_BREAKS } in
    holds_of room
    (λ q. record {
      rows_held = r.rows_held q;
      columns_held = r.columns_held q;
      merges_held = r.rows_held q;
      row_breaks_held = r.row_breaks_held q;
      column_breaks_held = r.column_breaks_held q;
    })
    (long n.ROWS) (long n.ROWS) (long n.COLUMNS) (long n.COLUMNS)
    (long n.ROWS) (long n.ROWS) (long n.ROWS) (long n.ROWS)
    (long n.ROW_BREAKS) (long n.COLUMN_BREAKS)
