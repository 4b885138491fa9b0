-- The body of an axis: its indexes, by their places, and the runs that cover them. Assumes nothing.
use mathlib.Core.Path.{◌≡◌, refl, sym, ◌∙◌}
use mathlib.Core.Logic.{◌↔◌, inl, inr}
use mathlib.Core.List.{List, [], ◌∷◌}
use Prim.Native.Nat.{ℕ, zero, suc, ◌+◌, ◌-◌, ◌≤◌, ◌<◌}
use native.Mathlib.Omega.{arith}
use lib.IntN.{ℤ}
use lib.ListN.{length, get_or, drop, length-map}
use lib.Seq.{get_or-take, get_or-drop}
use Rattle.planner_rules.specs.declared.titles.Title.TheVariants.{Absent}
use Rattle.planner_rules.specs.declared.runs.Frame.{Frame}
use Rattle.planner_rules.specs.Slots.{Rising, sum, below}
use Rattle.planner_rules.specs.Titles.{title_total}
use Rattle.planner_rules.specs.Runs.{Run, axis_runs}
use Rattle.planner_rules.specs.Lent.{firsts, lasts, sizes}
use Rattle.planner_rules.specs.Scale.{frame_for}
use Rattle.planner_rules.specs.Pages.{or_empty}
use Rattle.planner_rules.specs.Plan.{AxisInput, title_of, start_of, body_of, space_on, cut_runs, page_runs}
use Rattle.planner_rules.specs.Division.{◌∈◌, Division, kept_breaks, InOneRun, FewestRuns}
use Rattle.planner_rules.specs.Demand.{IsBody, Bare, body_indexes, body_sizes, capacity_beside}
use Rattle.planner_rules.proofs.Laws.{rising-take, rising-drop, split}
use Rattle.planner_rules.proofs.EndLaws.{below-le}
use Rattle.planner_rules.proofs.Places.{below_up_to, below_past_it}
use Rattle.planner_rules.proofs.Whole.{axis_division}
use Rattle.planner_rules.proofs.OneRun.{axis_covered}
use Rattle.planner_rules.proofs.Fewest.{axis_fewest_runs, kept_plain}
use Rattle.planner_rules.proofs.Cuts.{counts}
use Rattle.std.proofs.lemmas.List.Edits.{length-between}

-- ---- places of indexes

-- what is in a list stands at a place of it
place_in : (i : ℕ) (is : List ℕ) → i ∈ is → (k : ℕ) × (k < length is) × (get_or is k 0 ≡ i)
place_in i [] x' = elim x' [ ]
place_in i (x ∷ is) (inl e) = (0, omega arith, sym e)
place_in i (x ∷ is) (inr m) = let (k, h, e) = place_in i is m in (suc k, omega arith, e)

is_in_place : (is : List ℕ) (k : ℕ) → k < length is → get_or is k 0 ∈ is
is_in_place [] k h = absurd (omega arith)
is_in_place (x ∷ is) zero h = inl refl
is_in_place (x ∷ is) (suc k) h = inr (is_in_place is k (omega arith))

module _ (a : AxisInput) where
  abbrev from : ℕ
  from = below (start_of a) a.indexes

  abbrev to : ℕ
  to = below (a.last + 1) a.indexes

  -- the body has no more slots than the axis
  pub body_few : length (body_indexes a) ≤ length a.indexes
  body_few =
      let h = below-le (a.last + 1) a.indexes in
      omega (arith, length-between a.indexes from to h, h)

  module _ (even : length a.indexes ≡ length a.sizes) where
    -- the body has as many indexes as sizes
    pub body_even : length (body_indexes a) ≡ length (body_sizes a)
    body_even =
        let h = below-le (a.last + 1) a.indexes in
        length-between a.indexes from to h ∙ sym (length-between a.sizes from to (omega arith))

  module _ (rising : Rising a.indexes) where
    pub body_rising : Rising (body_indexes a)
    body_rising = rising-take (to - from) (drop from a.indexes) (rising-drop from a.indexes rising)

    -- a body row or column stands at a place of the body
    pub body_place : (i : ℕ) → IsBody a i → (j : ℕ) × (j < length (body_indexes a)) × (get_or (body_indexes a) j 0 ≡ i)
    body_place i b =
        let (k, h, e) = place_in i a.indexes b.measured in
        let low : from ≤ k = below_up_to (start_of a) a.indexes k h (omega (arith, b.from_start)) in
        let high : k < to = below_past_it (a.last + 1) a.indexes rising k h (omega (arith, b.to_last)) in
        let back : from + (k - from) ≡ k = omega arith in
        let many = length-between a.indexes from to (below-le (a.last + 1) a.indexes) in (
          k - from,
          omega arith,
          get_or-take (to - from) (drop from a.indexes) (k - from) 0 (omega arith) ∙ get_or-drop from a.indexes (k - from) 0 ∙ rw back e,
        )

    -- and what stands there is one
    place_body : (i : ℕ) → i ∈ body_indexes a → IsBody a i
    place_body i m =
        let (j, h, e) = place_in i (body_indexes a) m in
        let is : List ℕ = a.indexes in
        let most = below-le (a.last + 1) is in
        let k : ℕ = from + j in
        let many : length (body_indexes a) ≡ to - from = length-between is from to most in
        let in_to : k < to = omega arith in
        let inside : k < length is = omega arith in
        let same : get_or is k 0 ≡ i = sym (get_or-take (to - from) (drop from is) j 0 (omega arith) ∙ get_or-drop from is j 0) ∙ e in
        record {
          measured = rw same at (is_in_place is k inside);
          from_start = split (start_of a) i (λ l. l) (λ l. absurd (omega (arith, below_past_it (start_of a) is rising k inside (omega arith))));
          to_last = split i a.last (λ l. l) (λ l. absurd (omega (arith, below_up_to (a.last + 1) is k inside (omega arith))));
        }

    -- the body's indexes are those of the measured slots from its start to the range's last
    pub body_is : (i : ℕ) → IsBody a i ↔ (i ∈ body_indexes a)
    body_is i = (
      (λ b. let (j, h, e) = body_place i b in rw e at (is_in_place (body_indexes a) j h)),
      place_body i,
    )

-- ---- the runs of the pages

-- where there are runs, none is put in
some_runs : (first : ℕ) (rs : List Run) → 0 < length rs → or_empty first rs ≡ rs
some_runs first [] h = absurd (omega arith)
some_runs first (r ∷ rs) h = refl

-- a division of some slots has runs
some_of : (n : ℕ) (rs : List Run) → Division n (counts rs) → 0 < n → 0 < length rs
unfolding sum
some_of n [] d h = absurd (omega (arith, d.whole))
some_of n (r ∷ rs) d h = omega arith

module _ (side : ℤ) (a : AxisInput) (p : ℕ) (even : length a.indexes ≡ length a.sizes) where
  -- a body row or column lies in exactly one run
  pub page_runs_cover : Rising a.indexes → (i : ℕ) → IsBody a i → let rs = page_runs side a p in InOneRun (firsts rs) (lasts rs) i
  unfolding page_runs cut_runs body_of
  page_runs_cover rising i b =
      let rs : List Run = cut_runs side a p in
      let (j, h, e) = body_place a rising i b in
      let one : InOneRun (firsts rs) (lasts rs) (get_or (body_indexes a) j 0) =
      axis_covered (frame_for (space_on side a) (body_of a) p) a.merge_firsts a.merge_lasts (body_indexes a) (body_sizes a) a.breaks
      (body_even a even) (body_rising a rising) j h in
      let some : or_empty a.first rs ≡ rs = some_runs a.first rs (omega (arith, one.lies.there, length-map rs (λ (r : Run). r.first))) in
      rw some (rw e at one)

-- ---- no title and no merges

bare_fewest : (k : Frame) (fs ls is ss bs : List ℕ) → fs ≡ [] → ls ≡ [] → length is ≡ length ss → k.title ≡ Absent
    → let rs = axis_runs k fs ls is ss 0 bs in FewestRuns k.untitled (kept_breaks is 0 bs) is ss (firsts rs) (lasts rs) (sizes rs)
bare_fewest k fs ls is ss bs ef el even t = rw (ef, el, ← kept_plain k is t 0 bs) (axis_fewest_runs k is ss bs even t)

module _ (a : AxisInput) (bare : Bare a) where
  pub bare_total : title_total (title_of a).title a.indexes a.sizes ≡ 0
  unfolding title_total
  bare_total = rw bare.no_title

  module _ (side : ℤ) (p : ℕ) (even : length a.indexes ≡ length a.sizes) where
    -- the runs are the fewest
    pub page_runs_fewest : 0 < length (body_indexes a)
        → let rs = page_runs side a p in
        FewestRuns (capacity_beside side a p) (kept_breaks (body_indexes a) 0 a.breaks) (body_indexes a) (body_sizes a) (firsts rs) (lasts rs) (sizes rs)
    unfolding page_runs cut_runs body_of space_on
    page_runs_fewest h =
        let rs : List Run = cut_runs side a p in
        let best : FewestRuns (capacity_beside side a p) (kept_breaks (body_indexes a) 0 a.breaks) (body_indexes a) (body_sizes a) (firsts rs) (lasts rs)
        (sizes rs) =
        bare_fewest (frame_for (space_on side a) (body_of a) p) a.merge_firsts a.merge_lasts (body_indexes a) (body_sizes a) a.breaks
        bare.no_merge_firsts bare.no_merge_lasts (body_even a even) bare.no_title in
        let many : 0 < length rs =
        some_of (length (body_sizes a)) rs (axis_division (frame_for (space_on side a) (body_of a) p) a.merge_firsts a.merge_lasts (body_indexes a)
        (body_sizes a) a.breaks (body_even a even)) (omega (arith, body_even a even)) in
        let some : or_empty a.first rs ≡ rs = some_runs a.first rs many in
        rw some best
