-- Laws of `specs/Scale.antt`'s definitions. Assumes nothing.
use mathlib.Core.Path.{◌≡◌, refl, sym, ap, ◌∙◌}
use mathlib.Core.Bool.{Bool, true, false, ◌&&◌, and-true, and-false}
use mathlib.Core.List.{List, [], ◌∷◌}
use Prim.Native.Nat.{ℕ, zero, suc, ◌+◌, ◌≤◌}
use native.Mathlib.Nat.{add-zero}
use native.Mathlib.Omega.{arith}
use lib.ListN.{length}
use borrow.Author.Tests.{ne_eqb, le-leb, lt-leb, leb-false}
use Rattle.planner_rules.specs.declared.titles.Title.{Title}
use Rattle.planner_rules.specs.Titles.{past_title}
use Rattle.planner_rules.specs.Runs.{Run}
use Rattle.planner_rules.specs.Scale.{Scale, Space, Body, runs_at, fits_side, printed, rendered, all_fit, runs_fit, meets}
use Rattle.planner_rules.specs.Scale.{axis_passes, halve, fit_scale, titled}

abbrev pub scale_at : ℕ → ℕ → ℕ → Scale
scale_at p c u = record { permille = p; clamp = c; unreachable = u }

-- ---- what a run takes of a page

module _ (s : Space) (title : Title) (first size : ℕ) where
  pub printed_past : past_title title first ≡ true → size + s.titles + s.headings ≡ printed s title false first size
  printed_past t = rw t refl

  pub printed_before : past_title title first ≡ false → size + s.headings ≡ printed s title false first size
  printed_before t = rw t (omega arith)

-- ---- the number of runs

-- no runs meet every target
pub meets_none : (target : ℕ) → meets target 0 ≡ true
meets_none zero = refl
meets_none (suc t) = rw (ne_eqb (suc t) 0 (λ z. omega arith)) (le-leb 0 (suc t) (omega arith))

-- a target that so many runs do not meet is not met by more
meets_more : (target n m : ℕ) → n ≤ m → meets target n ≡ false → meets target m ≡ false
meets_more zero n m h e = e
meets_more (suc t) n m h e =
    let positive = ne_eqb (suc t) 0 (λ z. omega arith) in
    rw positive (lt-leb m (suc t) (omega (arith, leb-false n (suc t) (rw positive at e))))

-- ---- run after run, until the answer is known

-- whether the runs that are left fit, and meet the target together with the n before them
abbrev pub pass_from : Space → Body → ℕ → ℕ → ℕ → List Run → Bool
pass_from s b target p n rs = all_fit s b p rs && meets target (n + length rs)

module _ (s : Space) (b : Body) (target p : ℕ) where
  -- one run more is too many
  pub too_many : (n : ℕ) (rs : List Run) → 1 ≤ length rs → meets target (n + 1) ≡ false → false ≡ pass_from s b target p n rs
  too_many n rs h e = rw (meets_more target (n + 1) (n + length rs) (omega arith) e) (sym (and-false (all_fit s b p rs)))

  -- the first that is left does not fit
  pub one_out : (n : ℕ) (r : Run) (rs : List Run) → fits_side s p (rendered s b r) ≡ false → false ≡ pass_from s b target p n (r ∷ rs)
  unfolding all_fit
  one_out n r rs e = rw e

  -- it fits
  pub one_in : (n : ℕ) (r : Run) (rs : List Run) → fits_side s p (rendered s b r) ≡ true → pass_from s b target p (n + 1) rs ≡ pass_from s b target p n (r ∷ rs)
  unfolding all_fit
  one_in n r rs e = let m : n + 1 + length rs ≡ n + suc (length rs) = omega arith in rw (e, m)

  -- none is left
  pub all_in : (n : ℕ) → meets target n ≡ true → true ≡ pass_from s b target p n []
  unfolding all_fit
  all_in n e = rw (add-zero, e)

-- ---- an axis

-- only the title of a body is looked at
titled_fit : (s : Space) (b : Body) (p : ℕ) (rs : List Run) → all_fit s (titled b.title) p rs ≡ all_fit s b p rs
unfolding all_fit
titled_fit s b p [] = refl
titled_fit s b p (r ∷ rs) = ap (λ (t : Bool). fits_side s p (rendered s b r) && t) (titled_fit s b p rs)

module _ (s : Space) (b : Body) (target p : ℕ) where
  pub no_runs : runs_at s b p ≡ [] → fits_side s p (s.titles + s.headings) ≡ axis_passes s b target p
  unfolding axis_passes runs_fit
  no_runs e = rw (e, meets_none target) (sym (and-true (fits_side s p (s.titles + s.headings))))

  pub some_runs : 1 ≤ length (runs_at s b p) → all_fit s (titled b.title) p (runs_at s b p) && meets target (length (runs_at s b p)) ≡ axis_passes s b target p
  unfolding axis_passes
  some_runs h = ap (λ (t : Bool). t && meets target (length (runs_at s b p))) (titled_fit s b p (runs_at s b p) ∙ all (runs_at s b p) h)
    where
      all : (rs : List Run) → 1 ≤ length rs → all_fit s b p rs ≡ runs_fit s b p rs
      all [] h = absurd (omega arith)
      all (r ∷ rs) h = unfold runs_fit in refl

-- ---- the halving's two ways

pub fit_none : (t : ℕ → Bool) → t 100 ≡ false → scale_at 100 0 1 ≡ fit_scale t
unfolding fit_scale
fit_none t e = rw e

pub fit_found : (t : ℕ → Bool) (low : ℕ) → t 100 ≡ true → low ≡ halve t 10 100 1000 → scale_at low 0 0 ≡ fit_scale t
unfolding fit_scale
fit_found t low e q = rw e (ap (λ (p : ℕ). scale_at p 0 0) q)
