-- Laws of filling, of lists of runs and of parts of slots (`specs/Slots.antt`, `specs/Runs.antt`), for the loops of `planner`. Assumes nothing.
use mathlib.Core.Path.{◌≡◌, refl, sym, ap, ◌∙◌}
use mathlib.Core.List.{List, [], ◌∷◌, ◌++◌}
use Prim.Native.Nat.{ℕ, zero, suc, pred, ◌+◌, ◌-◌, ◌≤◌, ◌<◌, ◌^◌, min}
use native.Mathlib.Nat.{not-suc-le-zero, lt_of_not-le}
use native.Mathlib.Decide.{dec_le}
use native.Mathlib.Numerals.{add-one}
use native.Mathlib.Omega.{arith}
use lib.ListN.{length, get_or, take, drop, length-take, length-drop, drop_of_length-le, get_or-eq_default}
use lib.Seq.{take-add, drop-cons, drop-drop, drop-length, get_or-drop, get_or-take, length-take-le}
use borrow.Author.Tests.{le-leb, lt-leb, lt-ltb, le-ltb}
use mathlib.Core.Bool.{Bool, true, false, cond, not, ◌&&◌, and-true, and_assoc, and_comm}
use mathlib.Core.Logic.{◌⊎◌, inl, inr}
use lib.Dec.{leb, ltb, lit<}
use Rattle.planner_rules.specs.Slots.{Small, Rising, Slots, sum, mid}
use Rattle.planner_rules.specs.Titles.{no_merge}
use Rattle.planner_rules.specs.Runs.{more, natural, Run, runs_by}
use Rattle.std.proofs.lemmas.List.{take_rest}
use Rattle.std.proofs.lemmas.List.Edits.{length-between}

-- what holds of both is true of the one picked
pub either {ℓ} : {X : Type ℓ} (P : X → Type 0) (b : Bool) {x y : X} → P x → P y → P (cond b x y)
either P true p q = p
either P false p q = q

-- one number is at most the other, or above it
pub split {ℓ} : {X : Type ℓ} (a b : ℕ) → (a ≤ b → X) → (b < a → X) → X
split a b f g = elim (dec_le a b) [ yes h ↦ f h | no h ↦ g (lt_of_not-le h) ]

-- ---- natural filling

-- the slot at n goes onto the sum
pub more_yes : (cap s n : ℕ) (l : List ℕ) → n < length l → s + get_or l n 0 ≤ cap
    → more cap s (drop n l) ≡ suc (more cap (s + get_or l n 0) (drop (n + 1) l))
unfolding more
more_yes cap s n l h k = rw (add-one, drop-cons l n 0, le-leb (s + get_or l n 0) cap)

-- it does not
pub more_no : (cap s n : ℕ) (l : List ℕ) → n < length l → cap < s + get_or l n 0 → more cap s (drop n l) ≡ 0
unfolding more
more_no cap s n l h k = rw (drop-cons l n 0, lt-leb (s + get_or l n 0) cap)

-- none is left
pub more_end : (cap s n : ℕ) (l : List ℕ) → length l ≤ n → more cap s (drop n l) ≡ 0
unfolding more
more_end cap s n l h = rw (drop_of_length-le l h)

-- as many as stay within the capacity go onto the sum at once
more_many : (cap s m : ℕ) (l : List ℕ) → m ≤ length l → s + sum (take m l) ≤ cap → more cap s l ≡ m + more cap (s + sum (take m l)) (drop m l)
unfolding more sum
more_many cap s zero l h k = let e : s + 0 ≡ s = omega arith in rw e (omega arith)
more_many cap s (suc m) [] h k = absurd (omega arith)
more_many cap s (suc m) (x ∷ xs) h k =
    let e : s + (x + sum (take m xs)) ≡ s + x + sum (take m xs) = omega arith in
    rw (le-leb (s + x) cap (omega arith), e) (omega (arith, more_many cap (s + x) m xs (omega arith) (omega arith)))

-- so the m slots from n on do
pub more_part : (cap s m n : ℕ) (l : List ℕ) → n + m ≤ length l → s + sum (mid n (n + m) l) ≤ cap
    → more cap s (drop n l) ≡ m + more cap (s + sum (mid n (n + m) l)) (drop (n + m) l)
more_part cap s m n l h k =
    let e : n + m - n ≡ m = omega arith in
    let q = rw e at k in
    rw (e, ← drop-drop) (more_many cap s m (drop n l) (simp length-drop (omega arith)) q)

pub natural_start : (cap : ℕ) (l : List ℕ) → 0 < length l → 1 + more cap (get_or l 0 0) (drop 1 l) ≡ natural cap l
unfolding natural
natural_start cap [] h = absurd (not-suc-le-zero h)
natural_start cap (x ∷ xs) h = omega arith

pub natural_pos : (cap : ℕ) (l : List ℕ) → 0 < length l → 1 ≤ natural cap l
unfolding natural
natural_pos cap [] h = absurd (not-suc-le-zero h)
natural_pos cap (x ∷ xs) h = omega arith

more-le : (cap s : ℕ) (l : List ℕ) → more cap s l ≤ length l
unfolding more
more-le cap s [] = omega arith
more-le cap s (x ∷ xs) = either (λ (n : ℕ). n ≤ suc (length xs)) (leb (s + x) cap) (omega (arith, more-le cap (s + x) xs)) (omega arith)

pub natural-le : (cap : ℕ) (l : List ℕ) → natural cap l ≤ length l
unfolding natural
natural-le cap [] = omega arith
natural-le cap (x ∷ xs) = omega (arith, more-le cap x xs)

-- ---- the list of runs

pub skip : (at : List ℕ → List ℕ → Run) (k : ℕ) (is ss : List ℕ) → runs_by at k is ss ≡ runs_by at zero (drop k is) (drop k ss)
unfolding runs_by
skip at zero is ss = refl
skip at (suc k) [] ss = refl
skip at (suc k) (i ∷ is) [] = none (drop k is)
  where
    none : (l : List ℕ) → [] ≡ runs_by at zero l []
    none [] = refl
    none (x ∷ l) = refl
skip at (suc k) (i ∷ is) (s ∷ ss) = skip at k is ss

-- the run at the head, and the runs after it
pub step : (at : List ℕ → List ℕ → Run) (is ss : List ℕ) → 0 < length is → length is ≡ length ss → 1 ≤ (at is ss).slots
    → runs_by at zero is ss ≡ at is ss ∷ runs_by at zero (drop (at is ss).slots is) (drop (at is ss).slots ss)
unfolding runs_by
step at [] ss h e p = absurd (not-suc-le-zero h)
step at (i ∷ is) [] h e p = absurd (omega arith)
step at (i ∷ is) (s ∷ ss) h e p = go (at (i ∷ is) (s ∷ ss)) p
  where
    go : (r : Run) → 1 ≤ r.slots → r ∷ runs_by at (pred r.slots) is ss ≡ r ∷ runs_by at zero (drop r.slots (i ∷ is)) (drop r.slots (s ∷ ss))
    go r h = ap (λ (l : List Run). r ∷ l) (at_slots r.slots h)
      where
        at_slots : (n : ℕ) → 1 ≤ n → runs_by at (pred n) is ss ≡ runs_by at zero (drop n (i ∷ is)) (drop n (s ∷ ss))
        at_slots zero h = absurd (not-suc-le-zero h)
        at_slots (suc n) h = skip at n is ss

-- ---- the part `&l[n..]` of a slice, as the borrow checker gives it

abbrev pub part : {A : Type 0} → ℕ → List A → List A
part n l = take (length l - n) (drop n l)

pub length_part : {A : Type 0} (n : ℕ) (l : List A) → length (part n l) ≡ length l - n
length_part n l = ap length (take_rest l n) ∙ length-drop n l

-- indexes still rise in a part

pub rising-drop : (n : ℕ) (xs : List ℕ) → Rising xs → Rising (drop n xs)
rising-drop n xs r j k h q = rw (get_or-drop n xs j 0, get_or-drop n xs k 0) (r (n + j) (n + k) (omega arith) (omega (arith, length-drop n xs)))

pub rising-take : (n : ℕ) (xs : List ℕ) → Rising xs → Rising (take n xs)
rising-take n xs r j k h q =
    let l = length-take n xs in rw (get_or-take n xs j 0 (omega arith), get_or-take n xs k 0 (omega arith)) (r j k h (omega arith))

small-drop : (n : ℕ) (l : List ℕ) → Small l → Small (drop n l)
small-drop n l s = record { few = simp length-drop (omega (arith, s.few)); each = λ k. rw get_or-drop (s.each (n + k)) }

-- a turn of a loop that takes run after run: the run at the head, and the runs of the parts after it
pub turn : (at : List ℕ → List ℕ → Run) (n : ℕ) (is ss : List ℕ) → Slots is ss → 0 < length ss → n ≡ (at is ss).slots → 1 ≤ n
    → runs_by at zero is ss ≡ at is ss ∷ runs_by at zero (part n is) (part n ss)
turn at n is ss h p e q = rw (take_rest is n, take_rest ss n, e) (step at is ss (omega arith) h.even (omega arith))

-- no slots, no runs
pub none : (at : List ℕ → List ℕ → Run) (is ss : List ℕ) → length ss ≤ 0 → runs_by at zero is ss ≡ []
unfolding runs_by
none at [] ss h = refl
none at (i ∷ is) [] h = refl
none at (i ∷ is) (s ∷ ss) h = absurd (not-suc-le-zero h)

-- ---- a loop that goes down: what stands from i - 1 on

pub drop_back : {A : Type 0} (l : List A) (i : ℕ) (d : A) → 0 < i → i ≤ length l → drop (i - 1) l ≡ get_or l (i - 1) d ∷ drop i l
drop_back l zero d h k = absurd (not-suc-le-zero h)
drop_back l (suc i) d h k = let e : suc i - 1 ≡ i = omega arith in rw e (drop-cons l i d k)

-- two lists side by side, from where the shorter one ends
pub run_out : {A B : Type 0} (P : List A → List B → Type 0) (xs : List A) (ys : List B) (i : ℕ) → min (length xs) (length ys) ≤ i
    → ((r : List B) → P [] r) → ((r : List A) → P r []) → P (drop i xs) (drop i ys)
run_out P xs ys i h p q =
    elim (dec_le (length xs) i) [
      | yes k ↦ rw (drop_of_length-le xs k) (p (drop i ys))
      | no k ↦ let short : length ys ≤ i = omega (arith, lt_of_not-le k) in rw (drop_of_length-le ys short) (q (drop i xs))
    ]

module _ (p : ℕ → ℕ → Bool) where
  none_left : (fs : List ℕ) → no_merge p fs [] ≡ true
  unfolding no_merge
  none_left [] = refl
  none_left (f ∷ fs) = refl

  swap : (a b c : Bool) → a && (b && c) ≡ (b && a) && c
  swap a b c = sym (and_assoc a b c) ∙ ap (λ (t : Bool). t && c) (and_comm a b)

  -- one merge more is asked, whatever was found before it
  pub none_asked : (fs ls : List ℕ) (f l : ℕ) (gs ms : List ℕ) (so_far all : Bool) → fs ≡ f ∷ gs → ls ≡ l ∷ ms
      → all ≡ (so_far && no_merge p fs ls) → all ≡ ((not (p f l) && so_far) && no_merge p gs ms)
  unfolding no_merge
  none_asked fs ls f l gs ms so_far all g m e = e ∙ rw (g, m) (swap so_far (not (p f l)) (no_merge p gs ms))

  -- and past the last none is left
  pub none_ended : (fs ls : List ℕ) (so_far all : Bool) → (fs ≡ []) ⊎ (ls ≡ []) → all ≡ (so_far && no_merge p fs ls) → so_far ≡ all
  unfolding no_merge
  none_ended fs ls so_far all h e =
      elim h [
        | inl g ↦ sym (and-true so_far) ∙ sym (rw g at e)
        | inr g ↦ sym (and-true so_far) ∙ sym (rw (g, none_left fs) at e)
      ]

pub sum_back : (l : List ℕ) (i : ℕ) → 0 < i → i ≤ length l → sum (drop (i - 1) l) ≡ get_or l (i - 1) 0 + sum (drop i l)
unfolding sum
sum_back l i h k = rw (drop_back l i 0)

pub sum-none : (l : List ℕ) → 0 ≡ sum (drop (length l) l)
unfolding sum
sum-none l = rw drop-length

pub sum-append : (xs ys : List ℕ) → sum (xs ++ ys) ≡ sum xs + sum ys
unfolding sum
sum-append [] ys = omega arith
sum-append (x ∷ xs) ys = omega (arith, sum-append xs ys)

-- the sum of the slots up to n, with the m after them, or with one
pub sum_many : (n m : ℕ) (l : List ℕ) → sum (take (n + m) l) ≡ sum (take n l) + sum (mid n (n + m) l)
sum_many n m l = let e : n + m - n ≡ m = omega arith in rw (e, take-add) (sum-append (take n l) (take m (drop n l)))

pub sum_one : (n : ℕ) (l : List ℕ) → n < length l → sum (take (n + 1) l) ≡ sum (take n l) + get_or l n 0
unfolding sum
sum_one n l h = rw (take-add, drop-cons l n 0) (sum-append (take n l) (get_or l n 0 ∷ []) ∙ omega arith)

-- eight in two halves, each of two pairs
pub sum_eight : (l : List ℕ) → length l ≡ 8
    → get_or l 0 0 + get_or l 1 0 + (get_or l 2 0 + get_or l 3 0) + (get_or l 4 0 + get_or l 5 0 + (get_or l 6 0 + get_or l 7 0)) ≡ sum l
sum_eight l e =
    let at : (i : ℕ) → 0 < i → i ≤ 8 → sum (drop (i - 1) l) ≡ get_or l (i - 1) 0 + sum (drop i l) = λ i h k. sum_back l i h (omega (arith, e)) in
    let none : 0 ≡ sum (drop 8 l) = rw e at (sum-none l) in
    omega (
      arith,
      none,
      at 1 (omega arith) (omega arith),
      at 2 (omega arith) (omega arith),
      at 3 (omega arith) (omega arith),
      at 4 (omega arith) (omega arith),
      at 5 (omega arith) (omega arith),
      at 6 (omega arith) (omega arith),
      at 7 (omega arith) (omega arith),
      at 8 (omega arith) (omega arith),
    )

pub some : (at : List ℕ → List ℕ → Run) (is ss : List ℕ) → 0 < length ss → length is ≡ length ss → 1 ≤ length (runs_by at zero is ss)
unfolding runs_by
some at [] ss h e = absurd (omega arith)
some at (i ∷ is) [] h e = absurd (not-suc-le-zero h)
some at (i ∷ is) (s ∷ ss) h e = omega arith

pub small-take : (n : ℕ) (l : List ℕ) → n ≤ length l → Small l → Small (take n l)
small-take n l h s = record { few = simp length-take-le (omega (arith, s.few)); each = each }
  where
    each : (k : ℕ) → get_or (take n l) k 0 < 2 ^ 30
    each k =
        elim (dec_le (suc k) n) [
          | yes p ↦ rw get_or-take (s.each k)
          | no p ↦ rw (get_or-eq_default (take n l) 0 {n = k} (simp length-take-le (omega (arith, lt_of_not-le p)))) (lit< tt)
        ]

-- the same with what the test says
pub either_lt {ℓ} : {X : Type ℓ} (P : X → Type 0) (a b : ℕ) {x y : X} → (a < b → P x) → (b ≤ a → P y) → P (cond (ltb a b) x y)
either_lt P a b {x} {y} f g = split b a (λ h. rw (le-ltb a b h) (g h)) (λ h. rw (lt-ltb a b h) (f h))

-- ---- the part `&l[a..e]`

pub small-mid : (a e : ℕ) (l : List ℕ) → e ≤ length l → Small l → Small (mid a e l)
small-mid a e l h s = small-take (e - a) (drop a l) (simp length-drop (omega arith)) (small-drop a l s)

pub slots_mid : (a e : ℕ) (is ss : List ℕ) → e ≤ length ss → Slots is ss → Slots (mid a e is) (mid a e ss)
slots_mid a e is ss h s = record {
  even = length-between is a e (omega (arith, s.even)) ∙ sym (length-between ss a e h);
  small = small-mid a e ss h s.small;
  rising = rising-take (e - a) (drop a is) (rising-drop a is s.rising);
}
