-- Laws of `specs/Questions.antt`'s definitions: for the loops of crate `planner_questions`, and what a "yes" says of every item. Assumes nothing.
use mathlib.Core.Path.{◌≡◌, refl, sym, ap, ◌∙◌}
use mathlib.Core.Bool.{Bool, true, false, ◌&&◌, and-true, and-false, and_assoc}
use mathlib.Core.List.{List, [], ◌∷◌}
use Prim.Native.Nat.{ℕ, zero, suc, ◌+◌, ◌-◌, ◌≤◌, ◌<◌, ◌^◌}
use native.Mathlib.Nat.{lt_of_not-le}
use native.Mathlib.Decide.{dec_le}
use native.Mathlib.Omega.{arith}
use lib.Bits.{bit_or, or_lt, or_add_and, and_le_l, and_le_r}
use lib.Dec.{leb, ltb}
use Rattle.std.specs.Prelude.{fold}
use Rattle.std.specs.List.{list_all, zip}
use lib.ListN.{length, get_or}
use borrow.Author.Tests.{le-leb, lt-leb, leb-true, ltb-true}
use Rattle.planner_rules.specs.declared.planning.PrintRange.{PrintRange}
use Rattle.planner_rules.specs.Areas.{every_area}
use Rattle.planner_rules.specs.Slots.{Slots}
use Rattle.units.specs.Outcome.{Outcome, refused}
use Rattle.units.specs.Refusals.{number_of}
use Rattle.units.specs.declared.refusal.Refusal.{Refusal}
use Rattle.units.specs.declared.refusal.Refusal.TheVariants as no
use Rattle.planner_rules.specs.Questions.{ask, no_or, all_ordered, all_within, rising, rising_within, all_small}
use Rattle.std.proofs.lemmas.Bool.{and_parts}
use Rattle.std.proofs.lemmas.List.Recursion.{same_from_clauses}

-- ---- questions one after another, and the number of the first no

-- a no refuses with its number, if what comes after it does so with the number that comes after
pub asked_no : {A : Type 0} (n : ℕ) (b : Bool) (k : ℕ) (o : Outcome A) → (0 < k → o ≡ refused k) → 0 < no_or n b k → ask n b o ≡ refused (no_or n b k)
asked_no n true k o f h = f h
asked_no n false k o f h = refl

-- none: the answer is yes, and there is none after it
pub asked_yes : (n : ℕ) (b : Bool) (k : ℕ) → 0 < n → 0 ≡ no_or n b k → (b ≡ true) × (0 ≡ k)
asked_yes n true k p e = (refl, e)
asked_yes n false k p e = absurd (omega arith)

-- no refusal has the number 0
pub positive : (r : Refusal) → 0 < number_of r
positive no.TooManyBytes = omega arith
positive no.BrokenRecord = omega arith
positive no.EndNotLast = omega arith
positive no.MisplacedRecord = omega arith
positive no.BadFlag = omega arith
positive no.MalformedLists = omega arith
positive no.OutsideGrid = omega arith
positive no.IndexesNotRising = omega arith
positive no.SizeOutOfRange = omega arith
positive no.CoordinateOverflow = omega arith
positive no.ListTooShort = omega arith
positive no.TooManyPages = omega arith
positive no.PageListTooShort = omega arith
positive no.NoSuchNumber = omega arith
positive no.TooManyCells = omega arith

-- one question that was put as a test: where it refused, its number is that of the first no; where it did not, what comes after it is asked
pub stopped : (n : ℕ) (a b : Bool) (k : ℕ) (r : Refusal) → b ≡ a → number_of r ≡ no_or n b 0 → no_or n a k ≡ number_of r
stopped n true b k r e f = absurd (omega (arith, positive r, rw e at f))
stopped n false b k r e f = sym (rw e at f)

pub passed : (n : ℕ) (a b : Bool) (k : ℕ) → 0 < n → b ≡ a → 0 ≡ no_or n b 0 → no_or n a k ≡ k
passed n true b k p e f = refl
passed n false b k p e f = absurd (omega (arith, rw e at f))

-- no number refuses nothing
pub no_number : {A : Type 0} (o : Outcome A) → 0 < 0 → o ≡ refused 0
no_number o h = absurd (omega arith)

-- ---- the definitions as one test of every item

pub ordered_all : (fs ls : List ℕ) → list_all (λ (p : ℕ × ℕ). leb p.0 p.1) (zip fs ls) ≡ all_ordered fs ls
unfolding all_ordered
ordered_all [] ls = refl
ordered_all (f ∷ fs) [] = refl
ordered_all (f ∷ fs) (l ∷ ls) = ap (λ (b : Bool). leb f l && b) (ordered_all fs ls)

pub every_all : (p : PrintRange → Bool) (gs : List PrintRange) → list_all p gs ≡ every_area p gs
unfolding every_area
every_all p = same_from_clauses (list_all p) (every_area p) (λ x b. p x && b) refl (λ _ _. refl) (λ _ _. refl)

pub within_all : (limit : ℕ) (xs : List ℕ) → list_all (λ x. leb x limit) xs ≡ all_within limit xs
unfolding all_within
within_all limit =
    same_from_clauses (list_all (λ x. leb x limit)) (all_within limit) (λ x b. leb x limit && b) refl (λ _ _. refl) (λ _ _. refl)

-- the bits of two numbers together make a number within 30 bits, if both are
or-small : (a b : ℕ) → leb (bit_or a b) 1073741823 ≡ (leb a 1073741823 && leb b 1073741823)
or-small a b =
    let sum = or_add_and a b in
    elim (dec_le a 1073741823) [
      | no p ↦ rw (lt-leb a 1073741823 (lt_of_not-le p), lt-leb (bit_or a b) 1073741823 (omega (arith, lt_of_not-le p, sum, and_le_r a b)))
      | yes p ↦
          elim (dec_le b 1073741823) [
            | no q ↦ rw (
              le-leb a 1073741823 p,
              lt-leb b 1073741823 (lt_of_not-le q),
              lt-leb (bit_or a b) 1073741823
                  (omega (arith, lt_of_not-le q, sum, and_le_l a b)),
            )
            | yes q ↦
                rw (le-leb a 1073741823 p, le-leb b 1073741823 q, le-leb (bit_or a b) 1073741823 (omega (arith, or_lt 30 a b (omega arith) (omega arith))))
          ]
    ]

-- and of many sizes together, if all are
bits_from : (bits : ℕ) (l : List ℕ) → leb (fold bit_or bits l) 1073741823 ≡ (leb bits 1073741823 && all_within 1073741823 l)
unfolding all_within
bits_from bits [] = sym (and-true _)
bits_from bits (x ∷ l) = rw (bits_from (bit_or bits x) l, or-small bits x) (and_assoc (leb bits 1073741823) (leb x 1073741823) (all_within 1073741823 l))

pub bits_small : (l : List ℕ) → leb (fold bit_or 0 l) 1073741823 ≡ all_small l
unfolding all_small
bits_small l = bits_from 0 l

-- ---- what a "yes" says

pub within_each : (limit : ℕ) (l : List ℕ) → all_within limit l ≡ true → (k : ℕ) → get_or l k 0 ≤ limit
unfolding all_within
within_each limit [] h k = omega arith
within_each limit (x ∷ l) h zero = leb-true x limit (and_parts (leb x limit) (all_within limit l) h).0
within_each limit (x ∷ l) h (suc k) = within_each limit l (and_parts (leb x limit) (all_within limit l) h).1 k

rising_tail : (i : ℕ) (is : List ℕ) → rising (i ∷ is) ≡ true → rising is ≡ true
unfolding rising
rising_tail i [] h = refl
rising_tail i (j ∷ is) h = (and_parts (ltb i j) (rising (j ∷ is)) h).1

rising_head : (i : ℕ) (is : List ℕ) → rising (i ∷ is) ≡ true → (k : ℕ) → k < length is → i < get_or is k 0
unfolding rising
rising_head i [] h k p = absurd (omega arith)
rising_head i (j ∷ is) h zero p = ltb-true i j (and_parts (ltb i j) (rising (j ∷ is)) h).0
rising_head i (j ∷ is) h (suc k) p =
    let b = and_parts (ltb i j) (rising (j ∷ is)) h in
    omega (arith, ltb-true i j b.0, rising_head j is b.1 k (omega arith))

-- of two places the later has the greater index
pub rises : (is : List ℕ) → rising is ≡ true → (j k : ℕ) → j < k → k < length is → get_or is j 0 < get_or is k 0
rises [] h j k p q = absurd (omega arith)
rises (i ∷ is) h j zero p q = absurd (omega arith)
rises (i ∷ is) h zero (suc k) p q = rising_head i is h k (omega arith)
rises (i ∷ is) h (suc j) (suc k) p q = rises is (rising_tail i is h) j k (omega arith) (omega arith)

-- none is past a limit that the last one is within
pub within_last : (limit : ℕ) (is : List ℕ) → rising is ≡ true → 0 < length is → leb (get_or is (length is - 1) 0) limit ≡ all_within limit is
unfolding all_within
within_last limit [] h p = absurd (omega arith)
within_last limit (i ∷ []) h p = sym (and-true (leb i limit))
within_last limit (i ∷ (j ∷ is)) h p =
    let last = get_or (j ∷ is) (length is) 0 in
    let e : suc (length is) - 1 ≡ length is = omega arith in
    let rest : leb last limit ≡ all_within limit (j ∷ is) = rw e at (within_last limit (j ∷ is) (rising_tail i (j ∷ is) h) (omega arith)) in
    let below : i < last = rising_head i (j ∷ is) h (length is) (omega arith) in
    let f : suc (suc (length is)) - 1 ≡ suc (length is) = omega arith in
    let go : leb last limit ≡ (leb i limit && leb last limit) =
    elim (dec_le last limit) [
      | yes l ↦ rw (le-leb i limit (omega arith))
      | no l ↦ let q = lt-leb last limit (omega (arith, lt_of_not-le l)) in rw q (sym (and-false (leb i limit)))
    ] in
    rw f (go ∙ ap (λ (b : Bool). leb i limit && b) rest)

-- an index is at least its place
pub place_le : (is : List ℕ) → rising is ≡ true → (k : ℕ) → k < length is → k ≤ get_or is k 0
place_le is h zero q = omega arith
place_le is h (suc k) q = omega (arith, place_le is h k (omega arith), rises is h k (suc k) (omega arith) q)

-- so there are no more slots than indexes
pub few : (limit : ℕ) (is : List ℕ) → rising_within limit is ≡ true → length is ≤ limit + 1
unfolding rising_within
few limit is h =
    let b = and_parts (rising is) (all_within limit is) h in
    elim (dec_le (length is) 0) [
      | yes p ↦ omega arith
      | no p ↦ omega (arith, lt_of_not-le p, place_le is b.0 (length is - 1) (omega (arith, lt_of_not-le p)), within_each limit is b.1 (length is - 1))
    ]

pub rising_of : (limit : ℕ) (is : List ℕ) → rising_within limit is ≡ true → (j k : ℕ) → j < k → k < length is → get_or is j 0 < get_or is k 0
unfolding rising_within
rising_of limit is h = rises is (and_parts (rising is) (all_within limit is) h).0

pub small_each : (ss : List ℕ) → all_small ss ≡ true → (k : ℕ) → get_or ss k 0 < 2 ^ 30
unfolding all_small
small_each ss h k = omega (arith, within_each 1073741823 ss h k)

-- after questions 6, 8 and 9 the slots of an axis are what the private functions rely on
pub slots_of : (limit : ℕ) (is ss : List ℕ) → limit ≤ 1048575 → length is ≡ length ss → rising_within limit is ≡ true → all_small ss ≡ true → Slots is ss
slots_of limit is ss h e r s =
    record { even = e; small = record { few = omega (arith, few limit is r); each = small_each ss s }; rising = rising_of limit is r }
