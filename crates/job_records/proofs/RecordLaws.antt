-- Laws of `specs/Records.antt`. Assumes nothing.
use mathlib.Core.Path.{◌≡◌, refl, sym, ap, ◌∙◌}
use mathlib.Core.Bool.{Bool, true, false, cond, ◌&&◌}
use mathlib.Core.List.{List, [], ◌∷◌}
use Prim.Native.Nat.{ℕ, zero, suc, pred, ◌-◌, ◌≤◌, ◌<◌}
use native.Mathlib.Decide.{dec_le}
use native.Mathlib.Nat.{lt_of_not-le}
use native.Mathlib.Omega.{arith}
use lib.Dec.{T, eqb, leb, leb→le}
use lib.ListN.{length, take, drop, length-drop}
use borrow.Author.Tests.{ne_eqb, le-leb, lt-leb}
use Rattle.job_records.specs.LittleEndian.{u16_at}
use Rattle.job_records.specs.declared.records.Record.{Record}
use Rattle.job_records.specs.declared.records.Head.{Head}
use Rattle.job_records.specs.declared.marks.Mark.{Mark}
use Rattle.std.specs.Prelude.{Option, Some, None}
use Rattle.job_records.specs.Marks.{number_of, marks, spelled_by, mark_of, bytes_of}
use Rattle.units.specs.Outcome.{Outcome, given, refused}
use Rattle.job_records.specs.Records.{Format, Found, found, find, formats, kind_of, known, whole, head_record, step_outcome, step_of, step, is_end, goes_on}
use Rattle.job_records.specs.Records.{used, onto, records_from, records, rest_from, rest}
use lib.Ieee.Fits.{and_l, and_r}
use Rattle.std.proofs.lemmas.List.{take_rest}

-- ---- the record of a mark

-- the format of a mark
abbrev format_of : Mark → Format
format_of m = record { mark = number_of m; kind = kind_of m; bytes = bytes_of m }

formats_of : List Mark → List Format
formats_of [] = []
formats_of (m ∷ ms) = format_of m ∷ formats_of ms

-- the record that stands for a mark, if there is one
abbrev pub record_for : Option Mark → List ℕ → Outcome Found
record_for None s = refused 2
record_for (Some m) s = found (kind_of m s) (bytes_of m)

find_spelled : (ms : List Mark) (n : ℕ) (s : List ℕ) → find n (formats_of ms) s ≡ record_for (spelled_by n ms) s
unfolding find formats_of
find_spelled [] n s = refl
find_spelled (m ∷ ms) n s = go (eqb n (number_of m)) (find_spelled ms n s)
  where
    go : (b : Bool) → find n (formats_of ms) s ≡ record_for (spelled_by n ms) s
        → cond b (found (kind_of m s) (bytes_of m)) (find n (formats_of ms) s) ≡ record_for (cond b (Some m) (spelled_by n ms)) s
    go true e = refl
    go false e = e

find_mark : (n : ℕ) (s : List ℕ) → find n formats s ≡ record_for (mark_of n) s
unfolding formats formats_of mark_of
find_mark n s = find_spelled marks n s

-- ---- the record at the head

module _ (s : List ℕ) (x : ℕ) (e : x ≡ u16_at s 0) where
  known_is : known s ≡ record_for (mark_of x) s
  unfolding known
  known_is = find_mark (u16_at s 0) s ∙ ap (λ (n : ℕ). record_for (mark_of n) s) (sym e)

  -- an unknown mark
  pub head_unknown : mark_of x ≡ None → refused 2 ≡ head_record s
  unfolding head_record whole
  head_unknown i = rw (known_is, i)

  module _ (m : Mark) (i : mark_of x ≡ Some m) where
    -- all bytes of the record are there
    pub head_whole : bytes_of m ≤ length s → found (kind_of m s) (bytes_of m) ≡ head_record s
    unfolding head_record whole
    head_whole h = rw (known_is, i, le-leb (bytes_of m) (length s) h)

    -- or not
    pub head_cut : length s < bytes_of m → refused 2 ≡ head_record s
    unfolding head_record whole
    head_cut h = rw (known_is, i, lt-leb (bytes_of m) (length s) h)

-- ---- how many bytes a record has: at least two, and no more than there are

-- what was found is one record, with its bytes
pub same_found : (q r : Record) (m n : ℕ) → found q m ≡ found r n → (q ≡ r) × (m ≡ n)
same_found q r m n e =
    let p : ◌≡◌ {A = Found} (record { kind = q; bytes = m }) (record { kind = r; bytes = n }) = cc in
    (ap (λ (f : Found). f.kind) p, ap (λ (f : Found). f.bytes) p)

pub in_whole : (N : ℕ) (f : Outcome Found) (r : Record) (n : ℕ) → whole N f ≡ found r n → (f ≡ found r n) × (n ≤ N)
unfolding whole
in_whole N (refused k) r n e = absurd cc
in_whole N (given f) r n e =
    elim (dec_le f.bytes N) [
      | yes h ↦ (
          let k : given f ≡ found r n = rw (le-leb f.bytes N h) at e in
          let i : f.bytes ≡ n = cc in
          (k, omega arith)
          )
      | no h ↦ let none : refused 2 ≡ found r n = rw (lt-leb f.bytes N (lt_of_not-le h)) at e in absurd cc
    ]

-- a test that every format passes
abbrev pub every_format : (Format → Bool) → List Format → Bool
every_format p [] = true
every_format p (f ∷ fs) = p f && every_format p fs

-- so what is found has passed it
pub found_passes : (p : Format → Bool) (Says : Record → ℕ → Type 0) (s : List ℕ) → ((f : Format) → T (p f) → Says (f.kind s) f.bytes)
    → (fs : List Format) (x : ℕ) (r : Record) (n : ℕ) → T (every_format p fs) → find x fs s ≡ found r n → Says r n
unfolding find
found_passes p Says s h [] x r n t e = absurd cc
found_passes p Says s h (f ∷ fs) x r n t e = go (eqb x f.mark) (found_passes p Says s h fs x r n (and_r (p f) (every_format p fs) t)) e
  where
    go : (b : Bool) → (find x fs s ≡ found r n → Says r n) → cond b (found (f.kind s) f.bytes) (find x fs s) ≡ found r n → Says r n
    go true later e = let same = same_found (f.kind s) r f.bytes n e in rw (← same.0, ← same.1) (h f (and_l (p f) (every_format p fs) t))
    go false later e = later e

head_sized : (s : List ℕ) (r : Record) (n : ℕ) → head_record s ≡ found r n → (2 ≤ n) × (n ≤ length s)
unfolding head_record known formats
head_sized s r n e =
    let w = in_whole (length s) (known s) r n e in
    (found_passes (λ f. leb 2 f.bytes) (λ r n. 2 ≤ n) s (λ f t. leb→le 2 f.bytes t) formats _ r n tt w.0, w.1)

-- where there is none, the number is 2
abbrev Two : Outcome Found → Type 0
Two (given f) = Unit {0}
Two (refused k) = 2 ≡ k

two_of : (b : Bool) (f g : Outcome Found) → Two f → Two g → Two (cond b f g)
two_of true f g x y = x
two_of false f g x y = y

find_two : (fs : List Format) (x : ℕ) (s : List ℕ) → Two (find x fs s)
unfolding find
find_two [] x s = refl
find_two (f ∷ fs) x s = two_of (eqb x f.mark) (found (f.kind s) f.bytes) (find x fs s) tt (find_two fs x s)

whole_two : (N : ℕ) (o : Outcome Found) → Two o → Two (whole N o)
unfolding whole
whole_two N (given f) t = two_of (leb f.bytes N) (given f) (refused 2) tt refl
whole_two N (refused k) t = t

head_two : (s : List ℕ) → Two (head_record s)
unfolding head_record known
head_two s = whole_two (length s) (known s) (find_two formats (u16_at s 0) s)

-- fewer bytes than a mark has
pub head_short : (s : List ℕ) → length s < 2 → refused 2 ≡ head_record s
head_short s h = go (head_record s) refl (head_two s)
  where
    go : (o : Outcome Found) → head_record s ≡ o → Two o → refused 2 ≡ o
    go (given f) e t = let w = head_sized s f.kind f.bytes e in absurd (omega arith)
    go (refused k) e t = ap refused t

-- ---- a step

of_step : (f : Option Head) → f ≡ step_of (step_outcome f)
of_step (Some h) = refl
of_step None = refl

-- the step, where its outcome is known
pub step_is : (s : List ℕ) (f : Option Head) → step_outcome f ≡ head_record s → f ≡ step s
unfolding step
step_is s f e = of_step f ∙ ap step_of e

-- what was found where a step read a record
pub step_found : (s : List ℕ) (h : Head) → step s ≡ Some h → head_record s ≡ found h.found h.bytes
unfolding step
step_found s h e = go (head_record s) e
  where
    go : (o : Outcome Found) → step_of o ≡ Some h → o ≡ found h.found h.bytes
    go (given f) e =
        let i : ◌≡◌ {A = Head} (record { found = f.kind; bytes = f.bytes }) h = cc in
        rw (← i) refl
    go (refused k) e = absurd cc

pub step_used : (s : List ℕ) (f : Option Head) (h : Head) → f ≡ step s → f ≡ Some h → (1 ≤ h.bytes) × (h.bytes ≤ length s)
step_used s f h e k = let w = head_sized s h.found h.bytes (step_found s h (sym e ∙ k)) in (omega (arith, w.0), w.1)

-- ---- the records and the rest, step by step

skip : (k : ℕ) (s : List ℕ) → records_from k s ≡ records_from zero (drop k s)
unfolding records_from
skip zero s = refl
skip (suc k) [] = refl
skip (suc k) (b ∷ bs) = skip k bs

pub records_more : (s : List ℕ) (h : Head) → step s ≡ Some h → 1 ≤ h.bytes → h.bytes ≤ length s → is_end h.found ≡ false
    → records s ≡ h.found ∷ records (drop h.bytes s)
unfolding records records_from onto
records_more s h e i k g = go s h.found h.bytes e i k g
  where
    go : (s : List ℕ) (r : Record) (n : ℕ) → step s ≡ Some (record { found = r; bytes = n }) → 1 ≤ n → n ≤ length s → is_end r ≡ false
        → records_from 0 s ≡ r ∷ records_from 0 (drop n s)
    go [] r n e h k g = absurd (omega arith)
    go (b ∷ bs) r zero e h k g = absurd (omega arith)
    go (b ∷ bs) r (suc n) e h k g = rw (e, g) (ap (λ (l : List Record). r ∷ l) (skip n bs))

skip_rest : (k : ℕ) (s : List ℕ) → rest_from k s ≡ rest_from zero (drop k s)
unfolding rest_from
skip_rest zero s = refl
skip_rest (suc k) [] = refl
skip_rest (suc k) (b ∷ bs) = skip_rest k bs

pub rest_more : (s : List ℕ) (h : Head) → step s ≡ Some h → 1 ≤ h.bytes → h.bytes ≤ length s → is_end h.found ≡ false → rest s ≡ rest (drop h.bytes s)
unfolding rest rest_from goes_on
rest_more s h e i k g = go s h.found h.bytes e i k g
  where
    go : (s : List ℕ) (r : Record) (n : ℕ) → step s ≡ Some (record { found = r; bytes = n }) → 1 ≤ n → n ≤ length s → is_end r ≡ false
        → rest_from 0 s ≡ rest_from 0 (drop n s)
    go [] r n e h k g = absurd (omega arith)
    go (b ∷ bs) r zero e h k g = absurd (omega arith)
    go (b ∷ bs) r (suc n) e h k g = rw (e, g) (skip_rest n bs)

pub records_stop : (s : List ℕ) → goes_on (step s) ≡ false → records s ≡ []
unfolding records records_from goes_on onto
records_stop [] e = refl
records_stop (b ∷ bs) e = go (step (b ∷ bs)) e
  where
    go : (f : Option Head) → goes_on f ≡ false → onto f (records_from (pred (used f)) bs) ≡ []
    go None e = refl
    go (Some h) e = rw (borrow.Author.Tests.not-false (is_end h.found) e)

pub rest_stop : (s : List ℕ) → goes_on (step s) ≡ false → rest s ≡ s
unfolding rest rest_from
rest_stop [] e = refl
rest_stop (b ∷ bs) e = rw e

-- ---- the part `&l[n..]` of a slice, as the borrow checker gives it

pub length_part : {A : Type 0} (n : ℕ) (l : List A) → length (take (length l - n) (drop n l)) ≡ length l - n
length_part n l = ap length (take_rest l n) ∙ length-drop n l

-- ---- the longest record of a table

-- how many bytes a record has, by the number that its mark spells; 0 where the table has none
abbrev pub size_in : List Format → ℕ → ℕ
size_in [] m = 0
size_in (f ∷ fs) m = cond (eqb m f.mark) f.bytes (size_in fs m)

-- records that all have n bytes at most
abbrev pub within : ℕ → List Format → Bool
within n [] = true
within n (f ∷ fs) = leb f.bytes n && within n fs

pub size_within : (n : ℕ) (fs : List Format) (x : ℕ) → T (within n fs) → size_in fs x ≤ n
size_within n [] x t = omega arith
size_within n (f ∷ fs) x t =
    go (eqb x f.mark) (leb→le f.bytes n (and_l (leb f.bytes n) (within n fs) t)) (size_within n fs x (and_r (leb f.bytes n) (within n fs) t))
  where
    go : (b : Bool) → f.bytes ≤ n → size_in fs x ≤ n → cond b f.bytes (size_in fs x) ≤ n
    go true h k = h
    go false h k = k
