-- Laws of searches, of the title's resumption and of the merge step (`specs/Slots.antt`, `specs/Runs.antt`), way by way. Assumes nothing.
use mathlib.Core.Path.{◌≡◌, ◌∙◌, refl}
use mathlib.Core.Bool.{Bool, true, false, not, cond}
use mir.Val.{bool_byte}
use mathlib.Core.List.{List, [], ◌∷◌}
use Prim.Native.Nat.{ℕ, zero, suc, ◌+◌, ◌≤◌, ◌<◌}
use native.Mathlib.Numerals.{add-one}
use native.Mathlib.Omega.{arith}
use lib.ListN.{length, get_or, drop, drop_of_length-le}
use lib.Seq.{drop-cons}
use borrow.Author.Tests.{lt-ltb, le-ltb, le-leb, lt-leb}
use Rattle.std.specs.Prelude.{Option, Some, None}
use Rattle.planner_rules.specs.declared.titles.Span.{Span}
use Rattle.planner_rules.specs.declared.titles.Title.{Title}
use Rattle.planner_rules.specs.declared.titles.Title.TheVariants.{Pair}
use Rattle.planner_rules.proofs.Laws.{part, either, either_lt}
use lib.Dec.{leb, ltb}
use Rattle.planner_rules.specs.declared.runs.RunEnd.{RunEnd}
use Rattle.planner_rules.specs.declared.runs.Frame.{Frame}
use Rattle.planner_rules.specs.Slots.{below, through}
use Rattle.planner_rules.specs.Titles.{holds, title_holds}
use Rattle.planner_rules.specs.Runs.{merge_step, merged, again, resumed, resumption, filled, taken, holding}
use Rattle.std.proofs.lemmas.List.{take_rest}

-- ---- slots below a limit

pub below_yes : (k n : ℕ) (l : List ℕ) → n < length l → get_or l n 0 < k → below k (drop n l) ≡ suc (below k (drop (n + 1) l))
unfolding below
below_yes k n l h p = rw (add-one, drop-cons l n 0, lt-ltb (get_or l n 0) k)

pub below_no : (k n : ℕ) (l : List ℕ) → n < length l → k ≤ get_or l n 0 → below k (drop n l) ≡ 0
unfolding below
below_no k n l h p = rw (drop-cons l n 0, le-ltb (get_or l n 0) k)

pub below_end : (k n : ℕ) (l : List ℕ) → length l ≤ n → below k (drop n l) ≡ 0
unfolding below
below_end k n l h = rw (drop_of_length-le l h)

-- ---- the title's resumption

module _ (cap last s n : ℕ) (is ss : List ℕ) where
  pub again_fits : n < length is → n < length ss → s + get_or ss n 0 ≤ cap
      → again cap last s (drop n is) (drop n ss) ≡ suc (again cap last (s + get_or ss n 0) (drop (n + 1) is) (drop (n + 1) ss))
  unfolding again
  again_fits h k p = rw (add-one, drop-cons is n 0, drop-cons ss n 0, le-leb (s + get_or ss n 0) cap)

  pub again_title : n < length is → n < length ss → cap < s + get_or ss n 0 → get_or is n 0 ≤ last
      → again cap last s (drop n is) (drop n ss) ≡ suc (again cap last (get_or ss n 0) (drop (n + 1) is) (drop (n + 1) ss))
  unfolding again
  again_title h k p q = rw (add-one, drop-cons is n 0, drop-cons ss n 0, lt-leb (s + get_or ss n 0) cap, le-leb (get_or is n 0) last)

  pub again_stops : n < length is → n < length ss → cap < s + get_or ss n 0 → last < get_or is n 0
      → again cap last s (drop n is) (drop n ss) ≡ 0
  unfolding again
  again_stops h k p q = rw (drop-cons is n 0, drop-cons ss n 0, lt-leb (s + get_or ss n 0) cap, lt-leb (get_or is n 0) last)

  pub again_end : length is ≤ n → again cap last s (drop n is) (drop n ss) ≡ 0
  unfolding again
  again_end h = rw (drop_of_length-le is h)

pub resumed_start : (cap last : ℕ) (is ss : List ℕ) → 0 < length is → 0 < length ss
    → 1 + again cap last (get_or ss 0 0) (drop 1 is) (drop 1 ss) ≡ resumed cap last is ss
unfolding resumed
resumed_start cap last [] ss h k = absurd (omega arith)
resumed_start cap last (i ∷ is) [] h k = absurd (omega arith)
resumed_start cap last (i ∷ is) (x ∷ xs) h k = omega arith

module _ (title : Title) (f l cap n : ℕ) (is ss : List ℕ) (h : title ≡ Pair f l) where
  pub goes_on : title_holds (Pair f l) (get_or is n 0) ≡ true → n + resumed cap l (part n is) (part n ss) ≡ resumption title cap n is ss
  unfolding resumption title_holds
  goes_on p =
      let q : holds f l (get_or is n 0) ≡ true = p in
      rw (h, q, take_rest is n, take_rest ss n)

  pub ends_there : title_holds (Pair f l) (get_or is n 0) ≡ false → n ≡ resumption title cap n is ss
  unfolding resumption title_holds
  ends_there p =
      let q : holds f l (get_or is n 0) ≡ false = p in
      rw (h, q)

-- ---- the whole run

module _ (k : Frame) (is ss : List ℕ) (n : ℕ) (e : n ≡ filled k is ss) where
  pub taken_all : length is ≤ n → n ≡ taken k is ss
  unfolding taken
  taken_all h = rw (← e, le-ltb n (length is))

  pub taken_more : n < length is → resumption k.title k.titled n is ss ≡ taken k is ss
  unfolding taken
  taken_more h = rw (← e, lt-ltb n (length is))

pub below-le : (k : ℕ) (l : List ℕ) → below k l ≤ length l
unfolding below
below-le k [] = omega arith
below-le k (i ∷ is) = either (λ (n : ℕ). n ≤ suc (length is)) (ltb i k) (omega (arith, below-le k is)) (omega arith)

pub through-le : (k : ℕ) (l : List ℕ) → through k l ≤ length l
unfolding through
through-le k [] = omega arith
through-le k (i ∷ is) =
    either (λ (n : ℕ). n ≤ suc (length is)) (ltb 0 (through k is)) (omega (arith, through-le k is))
    (either (λ (n : ℕ). n ≤ suc (length is)) (leb i k) (omega arith) (omega arith))

-- ---- slots up to the last one at or below a limit, from the end

-- what is found from a place on is found from the front
pub through_front : (k j n : ℕ) (l : List ℕ) → through k (drop j l) ≡ suc n → through k l ≡ j + suc n
unfolding through
through_front k zero n l e = e ∙ omega arith
through_front k (suc j) n [] e = absurd (omega arith)
through_front k (suc j) n (i ∷ is) e =
    let r : through k is ≡ j + suc n = through_front k j n is e in
    rw (r, lt-ltb 0 (j + suc n) (omega arith)) (omega arith)

-- a run's end is past its first slot and within the slots
abbrev pub Within : List ℕ → RunEnd → Type 0
Within is r = (1 ≤ r.slots) × (r.slots ≤ length is)

merge_step-within : (held : Option Span) (n : ℕ) (is : List ℕ) → 1 ≤ n → n ≤ length is → Within is (merge_step held n is)
unfolding merge_step
merge_step-within None n is h k = omega arith
merge_step-within (Some s) n is h k =
    either_lt (Within is) 0 (below s.first is) (λ p. omega (arith, below-le s.first is))
    (λ p. either_lt (Within is) n (through s.last is) (λ q. omega (arith, through-le s.last is)) (λ q. omega arith))

pub merged_within : (lo hi : ℕ) (fs ls : List ℕ) (n : ℕ) (is : List ℕ) → 1 ≤ n → n ≤ length is → Within is (merged lo hi fs ls n is)
unfolding merged
merged_within lo hi fs ls n is h k =
    either_lt (Within is) n (length is) (λ p. merge_step-within (holding lo hi (get_or is n 0) fs ls) n is h k) (λ p. omega arith)

-- ---- a flag as a number

pub bit_is : (b : Bool) → bool_byte b ≡ cond b 1 0
bit_is true = refl
bit_is false = refl

pub bit_not : (b : Bool) → bool_byte (not b) ≡ cond b 0 1
bit_not true = refl
bit_not false = refl

pub bit_few : (b : Bool) → bool_byte b ≤ 1
bit_few true = omega arith
bit_few false = omega arith
