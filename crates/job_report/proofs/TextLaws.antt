-- Text that is put from a place on. Assumes nothing.
use mathlib.Core.Path.{◌≡◌, refl, sym, ap, ap₂, ◌∙◌}
use mathlib.Core.List.{List, [], ◌∷◌, ◌++◌, append_assoc, append-nil}
use Prim.Native.Nat.{ℕ, suc, ◌+◌, ◌*◌, ◌≤◌, ◌<◌}
use native.Mathlib.Numerals.{add-one}
use native.Mathlib.Omega.{arith}
use lib.ListN.{length, get_or, take, drop, set, length-append, length-set, take-append-drop}
use lib.Seq.{take-suc, length-take-le, set_split, take_at, drop_at, drop-drop}
use Rattle.io.specs.Counts.{IsPrefixLen}
use Rattle.io.specs.Digits.{last_digits, IsDigitCount}
use Rattle.planner_rules.specs.Slots.{written}
use Rattle.job_report.specs.Lines.{decimal, numbers, line, put, PutAt, LinesPut, TextPut}
use Rattle.job_report.specs.declared.text.Text.{Text}
use Rattle.job_report.proofs.DecimalLaws.{fewest_decimal}

-- ---- one text after another

-- what is put after a text, onto what putting that text left, is put with it
put_then : (at : ℕ) (a b old : List ℕ) → at + length a ≤ length old → put (at + length a) b (put at a old) ≡ put at (a ++ b) old
put_then at a b old h =
    let start = take at old in
    let rest = drop at old in
    let front : length (start ++ a) ≡ at + length a = length-append start a ∙ ap (λ (n : ℕ). n + length a) (length-take-le at old (omega arith)) in
    let whole : put at a old ≡ (start ++ a) ++ drop (length a) rest = sym (append_assoc start a (drop (length a) rest)) in
    let before : take (at + length a) (put at a old) ≡ start ++ a = ap (take (at + length a)) whole ∙ take_at (start ++ a) _ _ front in
    let behind : drop (at + length a) (put at a old) ≡ drop (length a) rest = ap (drop (at + length a)) whole ∙ drop_at (start ++ a) _ _ front in
    let left : drop (length b) (drop (length a) rest) ≡ drop (length (a ++ b)) rest = rw length-append (drop-drop (length b) (length a) rest) in
    ap₂ (λ (x y : List ℕ). x ++ written b y) before behind
    ∙ append_assoc start a (b ++ drop (length b) (drop (length a) rest))
    ∙ ap (λ (l : List ℕ). start ++ l) (sym (append_assoc a b _) ∙ ap (λ (l : List ℕ). (a ++ b) ++ l) left)

pub and_then_lem : {a b : List ℕ} {at r s : ℕ} {old one two : List ℕ} → r ≤ length old → PutAt a at r old one → PutAt b r s one two
    → PutAt (a ++ b) at s old two
and_then_lem {a} {b} {at} {old = old} h p q =
    let e = p.after in
    record {
      after = omega (arith, q.after, length-append a b);
      array_is = q.array_is ∙ ap₂ (λ (n : ℕ) (l : List ℕ). put n b l) e p.array_is ∙ put_then at a b old (omega arith);
    }

-- nothing is put
pub put_none : (at : ℕ) (old : List ℕ) → PutAt [] at at old old
put_none at old = record { after = omega arith; array_is = sym (take-append-drop at old) }

-- a byte
pub put_byte : (old : List ℕ) (at b : ℕ) → at < length old → PutAt (b ∷ []) at (at + 1) old (set old at b)
put_byte old at b h =
    let rest : drop 1 (drop at old) ≡ drop (suc at) old = rw (← (add-one at)) (drop-drop 1 at old) in
    record { after = refl; array_is = rw rest (set_split old at b h) }

-- ---- in a lent array

pub text_byte : (t : Text) (b : ℕ) → t.at < length t.out.now → (new : Text) → new.at ≡ t.at + 1 → new.out.now ≡ set t.out.now t.at b
    → new.out.ghost_name ≡ t.out.ghost_name → TextPut (b ∷ []) t new
text_byte t b h new e f g = record { put = rw (e, f) (put_byte t.out.now t.at b h); long = rw f (length-set t.out.now t.at b); lent = g }

pub texts_join : {a b : List ℕ} {t u v : Text} → u.at ≤ length t.out.now → TextPut a t u → TextPut b u v → TextPut (a ++ b) t v
texts_join h p q = record { put = and_then_lem h p.put q.put; long = q.long ∙ p.long; lent = q.lent ∙ p.lent }

-- ---- a number

-- a space, then the fewest digits
pub number_put : {t u v : Text} (n k : ℕ) (spelt : List ℕ) → u.at ≤ length t.out.now → IsDigitCount 10 1 n k × (take k spelt ≡ last_digits 10 k n)
    → TextPut (32 ∷ []) t u → TextPut (take k spelt) u v → TextPut (32 ∷ decimal n) t v
number_put n k spelt h d p q = rw (d.1 ∙ fewest_decimal n k d.0) at (texts_join h p q)

-- ---- a loop over numbers

numbers-append : (ms ns : List ℕ) → numbers (ms ++ ns) ≡ numbers ms ++ numbers ns
unfolding numbers
numbers-append [] ns = refl
numbers-append (m ∷ ms) ns = rw (numbers-append ms ns) (ap (λ (l : List ℕ). 32 ∷ l) (sym (append_assoc (decimal m) (numbers ms) (numbers ns))))

one_number : (n : ℕ) → numbers (n ∷ []) ≡ 32 ∷ decimal n
unfolding numbers
one_number n = ap (λ (l : List ℕ). 32 ∷ l) (append-nil (decimal n))

-- i numbers stand in the array, up to its place
pub record Told (old : Text) (list : List ℕ) (new : Text) (i : ℕ) : Type 0 where
  pub so_far : TextPut (numbers (take i list)) old new
  pub within : i ≤ length list
  pub short : new.at ≤ old.at + 21 * i

pub told_none : (old : Text) (list : List ℕ) → Told old list old 0
unfolding numbers
told_none old list = record { so_far = record { put = put_none old.at old.out.now; long = refl; lent = refl }; within = omega arith; short = omega arith }

pub told_more : {old new newer : Text} {list : List ℕ} {i : ℕ} → i < length list → new.at ≤ length old.out.now → Told old list new i
    → TextPut (32 ∷ decimal (get_or list i 0)) new newer → newer.at ≤ new.at + 21 → Told old list newer (i + 1)
told_more {list = list} {i = i} h room w e l =
    let b = w.short in
    let more : numbers (take (i + 1) list) ≡ numbers (take i list) ++ (32 ∷ decimal (get_or list i 0)) =
    ap numbers (rw add-one (take-suc list i 0 h))
    ∙ numbers-append (take i list) (get_or list i 0 ∷ [])
    ∙ ap (λ (t : List ℕ). numbers (take i list) ++ t) (one_number (get_or list i 0)) in
    record { so_far = rw more (texts_join room w.so_far e); within = omega arith; short = omega arith }

-- ---- a line

pub line_put : {t u v w : Text} {word : List ℕ} (list : List ℕ) → v.at ≤ length t.out.now → u.at ≤ v.at → TextPut word t u
    → TextPut (numbers list) u v → TextPut (10 ∷ []) v w → TextPut (line word list) t w
unfolding line
line_put list h l p q r = texts_join h (texts_join (omega arith) p q) r

-- ---- lines at the start of an array

-- they are no more bytes than the array has
pub lines_within : (lines : List ℕ) (r : ℕ) (old new : List ℕ) → LinesPut lines r old new → IsPrefixLen r new
lines_within lines r old new w =
    let h : r ≤ length new = omega (arith, w.count, ap length w.array_is, length-append lines (drop (length lines) old)) in
    (h, sym (length-take-le r new h))
