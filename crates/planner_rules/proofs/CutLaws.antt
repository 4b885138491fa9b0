-- Laws of one axis of an area, ready to be cut and cut: of `specs/Plan.antt`'s definitions for the private functions. Assumes nothing.
use mathlib.Core.Path.{◌≡◌, refl, sym, ap, ap₂, ◌∙◌}
use mathlib.Core.List.{List, [], ◌∷◌}
use Prim.Native.Nat.{ℕ, ◌+◌, ◌-◌, ◌≤◌, max}
use native.Mathlib.Omega.{arith}
use lib.IntN.{ℤ}
use lib.ListN.{length}
use borrow.Author.Tests.{ne_eqb}
use Rattle.planner_rules.specs.declared.titles.Title.{Title}
use Rattle.planner_rules.specs.declared.planning.Ready.{Ready}
use Rattle.planner_rules.specs.declared.planning.FinalCut.{FinalCut}
use Rattle.planner_rules.specs.Slots.{Slots, below}
use Rattle.planner_rules.specs.Runs.{Run, expansions, tallies}
use Rattle.planner_rules.specs.Scale.{Space, body_for, frame_for, axis_passes, fit_passes}
use Rattle.planner_rules.specs.Pages.{none, or_empty, overflowing}
use Rattle.planner_rules.specs.Plan.{AxisInput, title_of, start_of, body_part, body_of, space_on, cut_runs, cut_shifts, page_runs, overflows}
use Rattle.planner_rules.specs.Plan.{ReadyFor, within, ready_frame, ready_runs, ready_shifts, ready_overflows, cut_of, cut_from, Cuttable}
use Rattle.planner_rules.proofs.EndLaws.{below-le}
use Rattle.planner_rules.proofs.OverflowLaws.{empty_anywhere}

-- ---- a ready axis

-- what a ready axis has of a list is what the body has
pub within_body : (r : Ready) (side : ℤ) (a : AxisInput) → ReadyFor r side a → (xs : List ℕ) → within r xs ≡ body_part a xs
within_body r side a y xs =
    let from : ℕ = below (start_of a) a.indexes in
    let to : ℕ = below (a.last + 1) a.indexes in
    let e : max from to - from ≡ to - from = omega arith in
    rw (y.to_is, y.from_is, e)

pub frame_of : (r : Ready) (side : ℤ) (a : AxisInput) → ReadyFor r side a → (p : ℕ) → ready_frame r.fit p ≡ frame_for (space_on side a) (body_of a) p
unfolding body_of
frame_of r side a y p =
    ap (λ (s : Space). frame_for s (body_for r.fit.stretch [] [] [] []) p) y.space_is ∙ rw (y.title_is, y.lo_is, y.hi_is)

module _ (r : Ready) (side : ℤ) (a : AxisInput) (y : ReadyFor r side a) (p : ℕ) where
  pub runs_of : ready_runs r p a.indexes a.sizes a.merge_firsts a.merge_lasts a.breaks ≡ cut_runs side a p
  unfolding cut_runs body_of
  runs_of = rw (frame_of r side a y p, within_body r side a y a.indexes, within_body r side a y a.sizes)

  pub shifts_of : ready_shifts r p a.indexes a.merge_firsts a.merge_lasts a.breaks ≡ cut_shifts side a p
  unfolding cut_shifts body_of
  shifts_of = rw (frame_of r side a y p, within_body r side a y a.indexes)

-- the slots of a ready axis
pub cuttable : (r : Ready) (side : ℤ) (a : AxisInput) → Slots a.indexes a.sizes → ReadyFor r side a → Cuttable r a.indexes a.sizes
cuttable r side a s y = record {
  slots = s;
  ordered = rw y.to_is (omega arith);
  inside = rw (y.to_is, y.from_is) (omega (arith, below-le (start_of a) a.indexes, below-le (a.last + 1) a.indexes));
  low = y.low;
}

-- ---- scale

pub passes_of : (r : Ready) (side : ℤ) (a : AxisInput) → ReadyFor r side a → (p : ℕ)
    → fit_passes r.fit a.merge_firsts a.merge_lasts (within r a.indexes) (within r a.sizes) p ≡ axis_passes (space_on side a) (body_of a)
    a.target p
unfolding body_of
passes_of r side a y p =
    rw (y.space_is, y.title_is, y.lo_is, y.hi_is, y.target_is, within_body r side a y a.indexes, within_body r side a y a.sizes)

-- ---- cuts

pub few_runs : (first : ℕ) (rs : List Run) (n : ℕ) → length rs ≤ n → 1 ≤ n → length (or_empty first rs) ≤ n
few_runs first [] n h k = k
few_runs first (r ∷ rs) n h k = h

pub as_many : (first : ℕ) (rs : List Run) → length (or_empty first rs) ≡ length (or_empty 0 rs)
as_many first [] = refl
as_many first (r ∷ rs) = refl

pub cut_from_lem : (rs : List Run) (k o : ℕ) → cut_from (tallies (length rs) (expansions rs) k) o ≡ cut_of rs k o
cut_from_lem [] k o = refl
cut_from_lem (r ∷ rs) k o = let e : max (length (r ∷ rs)) 1 ≡ length (r ∷ rs) = omega arith in rw (ne_eqb (length (r ∷ rs)) 0 (λ z. omega arith), e)

-- the overflowing runs of a ready axis are the body's
pub overflows_of : (r : Ready) (side : ℤ) (a : AxisInput) → ReadyFor r side a → (p : ℕ)
    → ready_overflows r p (ready_runs r p a.indexes a.sizes a.merge_firsts a.merge_lasts a.breaks) ≡ overflows side a p
unfolding page_runs
overflows_of r side a y p =
    ap (ready_overflows r p) (runs_of r side a y p)
    ∙ ap₂ (λ (s : Space) (t : Title). overflowing s t p (none (cut_runs side a p)) (or_empty 0 (cut_runs side a p))) y.space_is y.title_is
    ∙ sym (empty_anywhere (space_on side a) (title_of a).title p a.first (cut_runs side a p))

-- a final cut is of the body's runs
pub cut_of_lem : (r : Ready) (side : ℤ) (a : AxisInput) → ReadyFor r side a → (p : ℕ) (c : FinalCut) →
    (let rs = ready_runs r p a.indexes a.sizes a.merge_firsts a.merge_lasts a.breaks in
    c ≡ cut_of rs (ready_shifts r p a.indexes a.merge_firsts a.merge_lasts a.breaks) (ready_overflows r p rs))
    → c ≡ cut_of (cut_runs side a p) (cut_shifts side a p) (overflows side a p)
cut_of_lem r side a y p c e =
    let rs = runs_of r side a y p in
    let n = shifts_of r side a y p in
    let o = overflows_of r side a y p in
    e ∙ (λ i. cut_of (rs i) (n i) (o i))
