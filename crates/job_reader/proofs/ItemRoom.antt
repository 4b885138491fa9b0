-- How many items a number of bytes can bring: a record has the bytes of its mark. A job whose questions are answered yes is read whole where
-- the lists hold its items. Assumes nothing.
use mathlib.Core.Path.{◌≡◌, refl, sym, ap, ◌∙◌}
use mathlib.Core.Bool.{Bool, true, false, cond, ◌&&◌, ◌||◌}
use mathlib.Core.List.{List, [], ◌∷◌}
use Prim.Native.Nat.{ℕ, zero, suc, pred, ◌+◌, ◌*◌, ◌≤◌, ◌<◌}
use native.Mathlib.Omega.{arith}
use lib.Dec.{T, leb, eqb, leb→le}
use lib.ListN.{length}
use borrow.Author.Tests.{le-leb, leb-true}
use Rattle.units.specs.Outcome.{given, refused}
use Rattle.job_records.specs.declared.records.Record.{Record}
use Rattle.job_records.specs.declared.records.Head.{Head}
use Rattle.std.specs.Prelude.{Option, Some, None}
use Rattle.job_questions.specs.declared.Items.{Items}
use Rattle.job_records.specs.Records.{Format, RW, CL, MR, BR, BC, formats, known, head_record, step, rank, is_end, used, onto}
use Rattle.job_records.specs.Records.{records_from, records, marked}
use Rattle.job_questions.specs.Verdict.{questions, in_order, verdict_lent, items_of}
use Rattle.job_reader.specs.Reading.{Lists, even_lists, room_in, fit_in, asked, job_of, read_job}
use Rattle.job_records.proofs.RecordLaws.{in_whole, step_found, step_used, every_format, found_passes}
use Rattle.job_questions.proofs.PassLaws.{All}
use Rattle.job_reader.proofs.ReadingLaws.{all_given, all_past}
use Rattle.std.proofs.lemmas.Bool.{and_parts}

-- ---- the bytes of a mark

-- a record with the place k in the order has at least w bytes
abbrev heavy : ℕ → ℕ → List ℕ → Format → Bool
heavy k w s f = cond (eqb (rank (f.kind s)) k) (leb w f.bytes) true

heavy_here : (k w : ℕ) (f : Format) (s : List ℕ) → T (heavy k w s f) → eqb (rank (f.kind s)) k ≡ true → w ≤ f.bytes
heavy_here k w f s t e = leb→le w f.bytes (rw e at t)

-- the table says so, of a mark and its bytes
abbrev Weighs : ℕ → ℕ → Type 0
Weighs k w = (s : List ℕ) → T (every_format (heavy k w s) formats)

step_heavy : (k w : ℕ) → Weighs k w → (s : List ℕ) (q : Head) → step s ≡ Some q → eqb (rank q.found) k ≡ true → w ≤ q.bytes
unfolding head_record known
step_heavy k w h s q i e =
    found_passes (heavy k w s) (λ r n. eqb (rank r) k ≡ true → w ≤ n) s (λ f. heavy_here k w f s) formats _ q.found q.bytes (h s)
    (in_whole (length s) (known s) q.found q.bytes (step_found s q i)).0 e

-- ---- the bytes of all records with a mark

module _ (k w : ℕ) (h : Weighs k w) where
  next : (r : Record) (n l : ℕ) (rs : List Record) → 1 ≤ n → (eqb (rank r) k ≡ true → w ≤ n) → length (marked k rs) * w + pred n ≤ l
      → length (marked k (r ∷ rs)) * w ≤ suc l
  unfolding marked
  next r n l rs u v i = go (eqb (rank r) k) v
    where
      go : (b : Bool) → (b ≡ true → w ≤ n) → length (cond b (r ∷ marked k rs) (marked k rs)) * w ≤ suc l
      go true v = let j = v refl in omega arith
      go false v = omega arith

  pub bytes_from : (j : ℕ) (s : List ℕ) → j ≤ length s → length (marked k (records_from j s)) * w + j ≤ length s
  unfolding records_from marked onto
  bytes_from zero [] u = omega arith
  bytes_from (suc j) [] u = absurd (omega arith)
  bytes_from (suc j) (b ∷ bs) u = let i = bytes_from j bs (omega arith) in omega arith
  bytes_from zero (b ∷ bs) u = go (step (b ∷ bs)) refl (λ m v. bytes_from m bs v)
    where
      here : (q : Head) (e : Bool) → step (b ∷ bs) ≡ Some q → ((m : ℕ) → m ≤ length bs → length (marked k (records_from m bs)) * w + m ≤ length bs)
          → length (marked k (cond e [] (q.found ∷ records_from (pred q.bytes) bs))) * w + 0 ≤ suc (length bs)
      here q true i more = omega arith
      here q false i more =
          let m = step_used (b ∷ bs) (Some q) q (sym i) refl in
          let l : pred q.bytes ≤ length bs = omega (arith, m.0, m.1) in
          let v = next q.found q.bytes (length bs) (records_from (pred q.bytes) bs) m.0 (step_heavy k w h (b ∷ bs) q i) (more (pred q.bytes) l) in
          omega (arith, v)

      go : (f : Option Head) → step (b ∷ bs) ≡ f → ((m : ℕ) → m ≤ length bs → length (marked k (records_from m bs)) * w + m ≤ length bs)
          → length (marked k (onto f (records_from (pred (used f)) bs))) * w + 0 ≤ suc (length bs)
      go None i more = omega arith
      go (Some q) i more = here q (is_end q.found) i more

  pub bytes_of : (s : List ℕ) → length (marked k (records s)) * w ≤ length s
  unfolding records
  bytes_of s = let i = bytes_from 0 s (omega arith) in omega (arith, i)

-- ---- "all that 60,000 bytes can bring"

-- room for all that n bytes can bring: one item more of a kind has more bytes than those
pub record Brings (n : ℕ) (room : Items) : Type 0 where
  pub rows_held : n < 14 * suc room.rows
  pub columns_held : n < 12 * suc room.columns
  pub merges_held : n < 14 * suc room.merges
  pub row_breaks_held : n < 6 * suc room.row_breaks
  pub column_breaks_held : n < 4 * suc room.column_breaks

pub items_fit : (n : ℕ) (room : Items) → Brings n room → (s : List ℕ) → length s ≤ n → fit_in (items_of (records s)) room ≡ true
unfolding formats
items_fit n room w s l =
    let r = bytes_of RW 14 (λ t. tt) s in
    let c = bytes_of CL 12 (λ t. tt) s in
    let m = bytes_of MR 14 (λ t. tt) s in
    let b = bytes_of BR 6 (λ t. tt) s in
    let d = bytes_of BC 4 (λ t. tt) s in
    let count : ℕ → ℕ = λ k. length (marked k (records s)) in
    let fr = le-leb (count RW) room.rows (omega (arith, r, l, w.rows_held)) in
    let fc = le-leb (count CL) room.columns (omega (arith, c, l, w.columns_held)) in
    let fm = le-leb (count MR) room.merges (omega (arith, m, l, w.merges_held)) in
    let fb = le-leb (count BR) room.row_breaks (omega (arith, b, l, w.row_breaks_held)) in
    let fd = le-leb (count BC) room.column_breaks (omega (arith, d, l, w.column_breaks_held)) in
    rw (fr, fc, fm, fb, fd)

-- ---- a job that is questioned with yes is read

module _ (s : List ℕ) (items : Items) (e : verdict_lent true s ≡ given items) where
  is_given : given items ≡ in_order (questions true s) (items_of (records s))
  unfolding verdict_lent
  is_given = sym e

  pub all_answered : All (questions true s)
  all_answered = all_given (items_of (records s)) (questions true s) items is_given

  pub read_whole : (l : Lists) → even_lists l ≡ true → fit_in (items_of (records s)) (room_in l) ≡ true → read_job s l ≡ given (job_of (records s))
  unfolding read_job
  read_whole l even f =
      ap (λ (b : Bool). in_order (asked b (room_in l) s) (job_of (records s))) even
      ∙ sym (all_past (job_of (records s)) ((11, fit_in (items_of (records s)) (room_in l)) ∷ []) (questions true s) all_answered)
      ∙ ap (λ (b : Bool). in_order ((11, b) ∷ []) (job_of (records s))) f

-- ---- which numbers the questions give, and how many rows and columns a job has

-- the numbers of the questions that are put to the bytes
abbrev pub is_asked : ℕ → Bool
is_asked n = (leb 1 n && leb n 9) || eqb n 15

-- a test that the numbers of some questions pass
abbrev passed : (ℕ → Bool) → List (ℕ × Bool) → Bool
passed p [] = true
passed p ((n, q) ∷ qs) = p n && passed p qs

in_order_passed : {A : Type 0} (v : A) (p : ℕ → Bool) (m : ℕ) (qs : List (ℕ × Bool)) → passed p qs ≡ true → in_order qs v ≡ refused m → p m ≡ true
in_order_passed v p m [] t e = absurd cc
in_order_passed v p m ((n, true) ∷ qs) t e = in_order_passed v p m qs (and_parts (p n) (passed p qs) t).1 e
in_order_passed v p m ((n, false) ∷ qs) t e = let i : n ≡ m = cc in ap p (sym i) ∙ (and_parts (p n) (passed p qs) t).0

-- so a number such as 0, 10 or 11 is none: there `is_asked` is false
pub verdict_number : (even : Bool) (s : List ℕ) (n : ℕ) → verdict_lent even s ≡ refused n → is_asked n ≡ true
unfolding verdict_lent
verdict_number even s n e = in_order_passed (items_of (records s)) is_asked n (questions even s) refl e

module _ (s : List ℕ) (items : Items) (e : verdict_lent true s ≡ given items) where
  short : length s ≤ 60000
  short = leb-true (length s) 60000 (all_answered s items e).0

  pub few_rows : length (marked RW (records s)) ≤ 4285
  unfolding formats
  few_rows = omega (arith, bytes_of RW 14 (λ t. tt) s, short)

  pub few_columns : length (marked CL (records s)) ≤ 5000
  unfolding formats
  few_columns = omega (arith, bytes_of CL 12 (λ t. tt) s, short)
