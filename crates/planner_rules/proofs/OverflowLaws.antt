-- Laws of overflowing runs (`specs/Pages.antt`), for the functions that count them. Assumes nothing.
use mathlib.Core.Path.{◌≡◌, refl}
use mathlib.Core.Bool.{Bool, false, cond}
use mathlib.Core.List.{List, [], ◌∷◌, ◌++◌}
use Prim.Native.Nat.{ℕ, ◌+◌, min}
use native.Mathlib.Nat.{zero-add}
use native.Mathlib.Omega.{arith}
use lib.Dec.{ltb}
use lib.ListN.{length}
use borrow.Author.Tests.{lt-ltb, le-ltb}
use Rattle.planner_rules.specs.declared.titles.Title.{Title}
use Rattle.planner_rules.specs.declared.runs.Frame.{Frame}
use Rattle.planner_rules.specs.Slots.{mid}
use Rattle.planner_rules.specs.Runs.{Run, runs, first_marked, stretch}
use Rattle.planner_rules.specs.Scale.{Space, fits_side}
use Rattle.planner_rules.specs.Pages.{none, or_empty, overflowing}

module _ (s : Space) (t : Title) (p : ℕ) where
  pub overflowing_append : (empty : Bool) (a b : List Run) → overflowing s t p empty (a ++ b) ≡ overflowing s t p empty a + overflowing s t p empty b
  unfolding overflowing
  overflowing_append empty [] b = omega arith
  overflowing_append empty (r ∷ a) b = omega (arith, overflowing_append empty a b)

  -- a mark does not weigh
  marked_overflowing : (empty : Bool) (m : ℕ) (rs : List Run) → overflowing s t p empty (first_marked m rs) ≡ overflowing s t p empty rs
  unfolding overflowing first_marked
  marked_overflowing empty m [] = refl
  marked_overflowing empty m (r ∷ rs) = refl

  pub stretch_overflowing : (k : Frame) (fs ls is ss : List ℕ) (a e : ℕ) (empty : Bool)
      → overflowing s t p empty (stretch k fs ls is ss a e) ≡ overflowing s t p empty (runs k fs ls (mid a e is) (mid a e ss))
  unfolding stretch
  stretch_overflowing k fs ls is ss a e empty = marked_overflowing empty (min a 1) (runs k fs ls (mid a e is) (mid a e ss))

  -- nor does the place of an empty run
  pub empty_anywhere : (first : ℕ) (rs : List Run) → overflowing s t p (none rs) (or_empty first rs) ≡ overflowing s t p (none rs) (or_empty 0 rs)
  unfolding overflowing
  empty_anywhere first [] = refl
  empty_anywhere first (r ∷ rs) = refl

  -- of so many runs, of which so many overflow: an axis without runs gets one, of titles plus headings
  pub cut_overflowing : (rs : List Run) (n o : ℕ) → n ≡ length rs → o ≡ overflowing s t p false rs
      → cond (ltb 0 n) o (cond (fits_side s p (s.titles + s.headings)) 0 1) ≡ overflowing s t p (none rs) (or_empty 0 rs)
  unfolding overflowing
  cut_overflowing [] n o e q = rw (le-ltb 0 n (omega arith), zero-add) (omega arith)
  cut_overflowing (r ∷ rs) n o e q = rw (lt-ltb 0 n (omega arith)) q
