-- Laws of cuts and of the runs of an axis (`specs/Runs.antt`), way by way. Assumes nothing.
use mathlib.Core.Path.{◌≡◌, refl, sym, ap, ◌∙◌}
use mathlib.Core.Bool.{true, false, cond}
use mathlib.Core.List.{List, [], ◌∷◌, ◌++◌}
use Prim.Native.Nat.{ℕ, ◌+◌, ◌≤◌, ◌<◌, min}
use native.Mathlib.Omega.{arith}
use lib.ListN.{length, get_or, drop, drop_of_length-le}
use lib.Seq.{drop-cons}
use native.Mathlib.Numerals.{add-one}
use lib.Dec.{ltb}
use borrow.Author.Tests.{lt-ltb, le-ltb}
use Rattle.std.specs.Prelude.{Option, Some}
use Rattle.planner_rules.specs.declared.titles.Span.{Span}
use Rattle.planner_rules.specs.declared.runs.Frame.{Frame}
use Rattle.planner_rules.specs.declared.runs.Cut.{Cut}
use Rattle.planner_rules.proofs.Laws.{either, part, turn, none, some}
use Rattle.planner_rules.proofs.Places.{below_up_to}
use Rattle.planner_rules.specs.Slots.{Slots, below, through, mid}
use Rattle.planner_rules.specs.Titles.{title_holds}
use Rattle.planner_rules.specs.Runs.{Run, holding, expansions, cut_at, moved, placed, kept, next_cut, stretch, axis_runs, shifts, runs, run, runs_by}
use Rattle.planner_rules.specs.Runs.{first_marked, with_mark}

module _ (held : Option Span) (m : Span) (prev p : ℕ) (is : List ℕ) (h : held ≡ Some m) (s : ℕ) (e : s ≡ below m.first is) where
  pub moved_start : prev < s → cut_at s true ≡ moved held prev p is
  unfolding moved
  moved_start q = rw (h, ← e, lt-ltb prev s)

  pub moved_past : s ≤ prev → (t : ℕ) → t ≡ through m.last is → cut_at t true ≡ moved held prev p is
  unfolding moved
  moved_past q t e' = rw (h, ← e, ← e', le-ltb prev s)

module _ (k : Frame) (fs ls is : List ℕ) (prev p : ℕ) where
  pub placed_zero : p ≤ 0 → cut_at prev false ≡ placed k fs ls is prev p
  unfolding placed
  placed_zero h = rw (le-ltb 0 p)

  pub placed_past : 0 < p → length is ≤ p → cut_at prev false ≡ placed k fs ls is prev p
  unfolding placed
  placed_past h q = rw (lt-ltb 0 p, le-ltb p (length is))

  pub placed_title : 0 < p → p < length is → title_holds k.title (get_or is p 0) ≡ true → cut_at prev false ≡ placed k fs ls is prev p
  unfolding placed
  placed_title h q t = rw (lt-ltb 0 p, lt-ltb p (length is), t)

  pub placed_moved : 0 < p → p < length is → title_holds k.title (get_or is p 0) ≡ false
      → moved (holding k.lo k.hi (get_or is p 0) fs ls) prev p is ≡ placed k fs ls is prev p
  unfolding placed
  placed_moved h q t = rw (lt-ltb 0 p, lt-ltb p (length is), t)

module _ (n prev : ℕ) (c : Cut) where
  pub kept_yes : prev < c.place → c.place < n → c ≡ kept n prev c
  unfolding kept
  kept_yes h q = rw (lt-ltb prev c.place, lt-ltb c.place n)

  pub kept_past : prev < c.place → n ≤ c.place → cut_at prev c.shifted ≡ kept n prev c
  unfolding kept
  kept_past h q = rw (lt-ltb prev c.place, le-ltb c.place n)

  pub kept_low : c.place ≤ prev → cut_at prev c.shifted ≡ kept n prev c
  unfolding kept
  kept_low h = rw (le-ltb prev c.place)

-- with no merges, a break that is not past the last kept cut leaves it
pub next_stays : (k : Frame) (fs ls is : List ℕ) (prev b : ℕ) → length fs ≡ 0 → prev < length is → b ≤ get_or is prev 0
    → cut_at prev false ≡ next_cut k fs ls is prev b
unfolding next_cut placed moved holding
next_stays k (f ∷ fs) ls is prev b none h l = absurd (omega arith)
next_stays k [] ls is prev b none h l =
    let p = below b is in
    let low = below_up_to b is prev h l in
    either Stays (ltb 0 p)
    (either Stays (ltb p (length is))
    (either Stays (title_holds k.title (get_or is p 0))
    (kept_low (length is) prev (cut_at prev false) (omega arith)) (kept_low (length is) prev (cut_at p false) low))
    (kept_low (length is) prev (cut_at prev false) (omega arith)))
    (kept_low (length is) prev (cut_at prev false) (omega arith))
  where
    Stays : Cut → Type 0
    Stays c = cut_at prev false ≡ kept (length is) prev c

pub next_is : (k : Frame) (fs ls is : List ℕ) (prev b p : ℕ) (c : Cut) → p ≡ below b is → c ≡ placed k fs ls is prev p
    → kept (length is) prev c ≡ next_cut k fs ls is prev b
unfolding next_cut
next_is k fs ls is prev b p c e h = ap (kept (length is) prev) (h ∙ ap (placed k fs ls is prev) e)

-- ---- marks change neither the number of runs nor the expansions

pub marked-length : (m : ℕ) (rs : List Run) → length (first_marked m rs) ≡ length rs
unfolding first_marked
marked-length m [] = refl
marked-length m (r ∷ rs) = refl

marked-expansions : (m : ℕ) (rs : List Run) → expansions (first_marked m rs) ≡ expansions rs
unfolding first_marked expansions
marked-expansions m [] = refl
marked-expansions m (r ∷ rs) = refl

-- only the first of a stretch can be marked
pub unmarked : (k : Frame) (fs ls is ss : List ℕ) → first_marked 0 (runs k fs ls is ss) ≡ runs k fs ls is ss
unfolding first_marked runs runs_by run
unmarked k fs ls [] ss = refl
unmarked k fs ls (i ∷ is) [] = refl
unmarked k fs ls (i ∷ is) (s ∷ ss) = refl

-- a turn of the loop that writes run after run: the run at the head with the mark, and the runs after it without
pub turn_marked : (k : Frame) (fs ls : List ℕ) (m n : ℕ) (is ss : List ℕ) → Slots is ss → 0 < length ss → n ≡ (run k fs ls is ss).slots → 1 ≤ n
    → first_marked m (runs k fs ls is ss) ≡ with_mark m (run k fs ls is ss) ∷ first_marked 0 (runs k fs ls (part n is) (part n ss))
unfolding first_marked runs
turn_marked k fs ls m n is ss h p e q =
    ap (first_marked m) (turn (run k fs ls) n is ss h p e q)
    ∙ ap (λ (rs : List Run). with_mark m (run k fs ls is ss) ∷ rs) (sym (unmarked k fs ls (part n is) (part n ss)))

pub none_marked : (k : Frame) (fs ls : List ℕ) (m : ℕ) (is ss : List ℕ) → length ss ≤ 0 → first_marked m (runs k fs ls is ss) ≡ []
unfolding first_marked runs
none_marked k fs ls m is ss h = ap (first_marked m) (none (run k fs ls) is ss h)

pub some_marked : (k : Frame) (fs ls : List ℕ) (m : ℕ) (is ss : List ℕ) → 0 < length ss → length is ≡ length ss
    → 1 ≤ length (first_marked m (runs k fs ls is ss))
unfolding runs
some_marked k fs ls m is ss h e = omega (arith, marked-length m (runs k fs ls is ss), some (run k fs ls) is ss h e)

module _ (k : Frame) (fs ls is ss : List ℕ) (a e : ℕ) where
  pub stretch_length : length (stretch k fs ls is ss a e) ≡ length (runs k fs ls (mid a e is) (mid a e ss))
  unfolding stretch
  stretch_length = marked-length (min a 1) (runs k fs ls (mid a e is) (mid a e ss))

  pub stretch_expansions : expansions (stretch k fs ls is ss a e) ≡ expansions (runs k fs ls (mid a e is) (mid a e ss))
  unfolding stretch
  stretch_expansions = marked-expansions (min a 1) (runs k fs ls (mid a e is) (mid a e ss))

-- ---- from break to break

module _ (k : Frame) (fs ls is ss : List ℕ) (prev j : ℕ) (bs : List ℕ) where
  pub axis_more : (c : Cut) → j < length bs → c ≡ next_cut k fs ls is prev (get_or bs j 0)
      → axis_runs k fs ls is ss prev (drop j bs) ≡ stretch k fs ls is ss prev c.place ++ axis_runs k fs ls is ss c.place (drop (j + 1) bs)
  unfolding axis_runs
  axis_more c h e = rw (e, add-one, drop-cons bs j 0)

  pub axis_end : length bs ≤ j → axis_runs k fs ls is ss prev (drop j bs) ≡ stretch k fs ls is ss prev (length ss)
  unfolding axis_runs
  axis_end h = rw (drop_of_length-le bs h)

  pub shifts_more : (c : Cut) → j < length bs → c ≡ next_cut k fs ls is prev (get_or bs j 0)
      → shifts k fs ls is prev (drop j bs) ≡ cond c.shifted 1 0 + shifts k fs ls is c.place (drop (j + 1) bs)
  unfolding shifts
  shifts_more c h e = rw (e, add-one, drop-cons bs j 0)

  pub shifts_end : length bs ≤ j → shifts k fs ls is prev (drop j bs) ≡ 0
  unfolding shifts
  shifts_end h = rw (drop_of_length-le bs h)

pub expansions-append : (a b : List Run) → expansions (a ++ b) ≡ expansions a + expansions b
unfolding expansions
expansions-append [] b = omega arith
expansions-append (r ∷ a) b = omega (arith, expansions-append a b)
