-- "program `plan` counts all pages first, then plans area by area in the same lists and still meets no 11": what was counted is written area by
-- area, at the permilles that were found, as one plan writes it. Assumes nothing.
use mathlib.Core.Path.{◌≡◌, refl, sym, ap, subst, ◌∙◌}
use mathlib.Core.Bool.{Bool, true, false, ◌&&◌}
use mathlib.Core.List.{List, [], ◌∷◌, map, map-map}
use Prim.Native.Nat.{ℕ, zero, suc, ◌+◌, ◌-◌, ◌≤◌, ◌<◌}
use native.Mathlib.Nat.{mul-le-mul}
use native.Mathlib.Omega.{arith}
use lib.Dec.{leb}
use lib.ListN.{length, get_or, take, drop, length-map}
use lib.IntN.{ℤ}
use lib.Seq.{take_at, drop-append-add}
use borrow.Author.Tests.{leb-true}
use Rattle.units.specs.Outcome.{Outcome, given}
use Rattle.std.specs.Prelude.{Option}
use Rattle.planner_rules.specs.declared.pages.AreaPlan.{AreaPlan}
use Rattle.planner_rules.specs.declared.pages.Plan.{Plan}
use Rattle.planner_rules.specs.declared.planning.PrintRange.{PrintRange}
use Rattle.planner_rules.specs.declared.planning.Settings.{Settings}
use Rattle.planner_rules.specs.Questions.{ask}
use Rattle.planner_rules.specs.Runs.{Run}
use Rattle.planner_rules.specs.Lent.{room_in}
use Rattle.planner_rules.specs.Areas.{no_range, plans_in, no_plan, over_areas}
use Rattle.planner_rules.specs.Scale.{Scale, middle, halve, fixed_scale, fit_scale}
use Rattle.planner_rules.specs.Pages.{joined, or_empty, pages_in, row_runs, column_runs}
use Rattle.planner_rules.specs.Plan.{AxisInput, Sheet, Sides, rows_in, columns_in, chosen_scale, cut_runs, page_runs}
use Rattle.planner_rules.specs.Plan.{AreaLayout, counted_at, area_at, area_layout}
use Rattle.planner_rules.specs.Plan.{layouts_of, Layout, plan_in, plan_of, row_runs_of, column_runs_of, layout, within_limit, counted, scale_at, area_room}
use Rattle.planner_rules.specs.Plan.{numbered_area, area_written}
use Rattle.planner_rules.specs.Steps.{asked}
use Rattle.planner_rules.proofs.Laws.{either, split}
use Rattle.planner_rules.proofs.Halving.{by_test, halve_stop, halve_up, halve_down}
use Rattle.planner_rules.proofs.PlanLaws.{questions_first, numbered_is, asks_number}
use Rattle.planner_rules.proofs.RunCount.{area_never_eleven}
use Rattle.planner_rules.proofs.Demand.{ask_yes, then_yes, all_yes}
use Rattle.std.proofs.lemmas.List.{get_or-map}
use Rattle.planner_rules.proofs.AreaLists.{held_are, over_map}
use Rattle.std.proofs.lemmas.Bool.{and_parts}

-- ---- no permille is 0

halve_from : (t : ℕ → Bool) (turns low high : ℕ) → low ≤ halve t turns low high
unfolding halve middle
halve_from t zero low high = omega arith
halve_from t (suc turns) low high =
    split (suc low) high
    (λ h.
    by_test (t (middle low high))
    (λ y. rw (halve_up t turns low high h y) (omega (arith, halve_from t turns (middle low high) high)))
    (λ n. rw (halve_down t turns low high h n) (halve_from t turns low (middle low high - 1))))
    (λ h. rw (halve_stop t (suc turns) low high (omega arith)) (omega arith))

fit_some : (t : ℕ → Bool) → 1 ≤ (fit_scale t).permille
unfolding fit_scale
fit_some t = either (λ (z : Scale). 1 ≤ z.permille) (t 100) (omega (arith, halve_from t 10 100 1000)) (omega arith)

fixed_some : (percent : Option ℕ) → 1 ≤ (fixed_scale percent).permille
unfolding fixed_scale
fixed_some percent = omega arith

scale_some : (s : Settings) (c : Sides) (a b : AxisInput) → 1 ≤ (chosen_scale s c a b).permille
unfolding chosen_scale
scale_some s c a b = either (λ (z : Scale). 1 ≤ z.permille) s.fit (fit_some _) (fixed_some s.percent)

-- ---- a part of joined lists

module _ (f : PrintRange → List Run) (p : PrintRange → AreaPlan) (n : AreaPlan → ℕ) (h : (g : PrintRange) → n (p g) ≡ length (f g)) where
  part : (gs : List PrintRange) (k : ℕ) → k < length gs
      → take (n (p (get_or gs k no_range))) (drop (over_areas n (take k (map p gs))) (joined (map f gs))) ≡ f (get_or gs k no_range)
  unfolding over_areas joined
  part [] k l = absurd (omega arith)
  part (g ∷ gs) zero l = take_at (f g) (joined (map f gs)) (n (p g)) (sym (h g))
  part (g ∷ gs) (suc k) l =
      rw (h g, drop-append-add (f g) (joined (map f gs)) (over_areas n (take k (map p gs)))) (part gs k (omega arith))

-- ---- the areas of a plan

-- an axis has a run
some_run : (side : ℤ) (a : AxisInput) (p : ℕ) → 1 ≤ length (page_runs side a p)
unfolding page_runs
some_run side a p = go (cut_runs side a p)
  where
    go : (rs : List Run) → 1 ≤ length (or_empty a.first rs)
    go [] = omega arith
    go (r ∷ rs) = omega arith

module _ (c : Sides) (s : Sheet) (gs : List PrintRange) where
  -- what an area came to
  abbrev came : PrintRange → AreaPlan
  came g = plan_in (area_layout c s g)

  abbrev plans : List AreaPlan
  plans = map plan_in (layouts_of c s gs)

  plans_are : plans ≡ map came gs
  plans_are = map-map plan_in (area_layout c s) gs

  -- a plan holds them all
  pub plans_held : length gs ≤ 8 → plans_in (plan_of c s (layouts_of c s gs)).areas ≡ plans
  unfolding plan_of
  plans_held few = held_are no_plan plans (omega (arith, few, ap length plans_are, length-map gs came))

  -- the pages of a plan are those of its areas, and each area has one
  pub pages_are : (plan_of c s (layouts_of c s gs)).pages ≡ over_areas pages_in plans
  unfolding plan_of
  pages_are = sym (over_map pages_in plan_in (layouts_of c s gs))

  pub some_page : (k : ℕ) → k < length plans → 1 ≤ pages_in (get_or plans k no_plan)
  unfolding area_layout area_at counted_at
  some_page k h =
      let l : k < length gs = omega (arith, ap length plans_are, length-map gs came) in
      rw (plans_are, get_or-map came gs k no_range no_plan l) (has_page (get_or gs k no_range))
    where
      has_page : (g : PrintRange) → 1 ≤ pages_in (came g)
      has_page g =
          mul-le-mul (some_run c.height (rows_in s g) (chosen_scale s.settings c (rows_in s g) (columns_in s g)).permille)
          (some_run c.width (columns_in s g) (chosen_scale s.settings c (rows_in s g) (columns_in s g)).permille)

  -- the runs of an area are a part of all
  module _ (k : ℕ) (h : k < length gs) {areas : List AreaPlan} (e : areas ≡ map came gs) {a : AreaPlan} (f : a ≡ came (get_or gs k no_range)) where
    pub rows_part : take a.row_runs (drop (row_runs (take k areas)) (row_runs_of (layouts_of c s gs))) ≡ (area_layout c s (get_or gs k no_range)).rows
    unfolding area_layout area_at counted_at
    rows_part =
        rw (e, f, map-map (λ (l : AreaLayout). l.rows) (area_layout c s) gs)
        (part (λ (g : PrintRange). (area_layout c s g).rows) came (λ (p : AreaPlan). p.row_runs) (λ g. refl) gs k h)

    pub columns_part : take a.column_runs (drop (column_runs (take k areas)) (column_runs_of (layouts_of c s gs)))
        ≡ (area_layout c s (get_or gs k no_range)).columns
    unfolding area_layout area_at counted_at
    columns_part =
        rw (e, f, map-map (λ (l : AreaLayout). l.columns) (area_layout c s) gs)
        (part (λ (g : PrintRange). (area_layout c s g).columns) came (λ (p : AreaPlan). p.column_runs) (λ g. refl) gs k h)

-- ---- a plan that was counted

-- the questions were answered yes, with these sides, and the plan is this one
pub record CountedAs (s : Sheet) (areas : List PrintRange) (l : Layout) : Type 0 where
  pub sides : Sides
  pub asked_is : asked s areas ≡ given sides
  pub is : layout sides s areas ≡ l

pub counted_as : (s : Sheet) (areas : List PrintRange) (l : Layout) → counted s areas ≡ given l → CountedAs s areas l
unfolding counted within_limit
counted_as s areas l e =
    let rest : Sides → Outcome Layout = λ c. within_limit s (layout c s areas) in
    let (c, i, j) = then_yes (asked s areas) rest l (sym (questions_first s areas rest) ∙ e) in
    let whole = layout c s areas in
    let y = ask_yes 12 (leb whole.plan.pages s.settings.page_limit) (given whole) l j in
    let same : whole ≡ l = let e : given whole ≡ given l = y.1 in cc in
    record { sides = c; asked_is = i; is = same }

-- they are no more than eight
few_areas : (s : Sheet) (areas : List PrintRange) (c : Sides) → asked s areas ≡ given c → length areas ≤ 8
few_areas s areas c e =
    let y = all_yes s areas (λ (x : Sides). given x) c e in
    let count = and_parts (leb 1 (length areas)) (leb (length areas) 8) y.four in
    leb-true (length areas) 8 count.1

-- ---- one area of it, written

-- the runs of the area with the number k, from 0, where one plan has them
abbrev pub rows_own : Layout → ℕ → List Run
rows_own l k =
    let areas = plans_in l.plan.areas in
    take (get_or areas k no_plan).row_runs (drop (row_runs (take k areas)) l.rows)

abbrev pub columns_own : Layout → ℕ → List Run
columns_own l k =
    let areas = plans_in l.plan.areas in
    take (get_or areas k no_plan).column_runs (drop (column_runs (take k areas)) l.columns)

-- the area is written at the permille that was found for it, and its runs are those
pub record Writes (o : ℕ → Outcome AreaLayout) (l : Layout) (k : ℕ) : Type 0 where
  pub area : AreaLayout
  pub is : o (get_or (plans_in l.plan.areas) k no_plan).permille ≡ given area
  pub rows_are : area.rows ≡ rows_own l k
  pub columns_are : area.columns ≡ columns_own l k

module _ (s : Sheet) (areas : List PrintRange) (c : Sides) (asked_is : asked s areas ≡ given c) where
  abbrev gs : List PrintRange
  gs = areas

  abbrev l : Layout
  l = layout c s gs

  abbrev to : PrintRange → AreaPlan
  to = came c s gs

  plan_areas : plans_in l.plan.areas ≡ map to gs
  unfolding layout
  plan_areas = plans_held c s gs (few_areas s areas c asked_is) ∙ plans_are c s gs

  module _ (k : ℕ) (h : k < length (plans_in l.plan.areas)) where
    abbrev g : PrintRange
    g = get_or gs k no_range

    abbrev p : ℕ
    p = (get_or (plans_in l.plan.areas) k no_plan).permille

    inside : k < length gs
    inside = omega (arith, ap length plan_areas, length-map gs to)

    at : get_or (plans_in l.plan.areas) k no_plan ≡ to g
    at = rw plan_areas (get_or-map to gs k no_range no_plan inside)

    permille_is : p ≡ (chosen_scale s.settings c (rows_in s g) (columns_in s g)).permille
    unfolding area_layout area_at counted_at
    permille_is = ap (λ (a : AreaPlan). a.permille) at

    some : 1 ≤ p
    some = omega (arith, permille_is, scale_some s.settings c (rows_in s g) (columns_in s g))

    abbrev area : AreaLayout
    area = area_at c (rows_in s g) (columns_in s g) (scale_at p)

    own_rows : area.rows ≡ rows_own l k
    unfolding area_at area_layout layout
    own_rows = ap (λ (q : ℕ). page_runs c.height (rows_in s g) q) permille_is ∙ sym (rows_part c s gs k inside plan_areas at)

    own_columns : area.columns ≡ columns_own l k
    unfolding area_at area_layout layout
    own_columns = ap (λ (q : ℕ). page_runs c.width (columns_in s g) q) permille_is ∙ sym (columns_part c s gs k inside plan_areas at)

    module _ (rows columns : List ℕ) (room : length s.row_indexes ≤ room_in rows) (one : 1 ≤ room_in rows)
        (column_room : length s.column_indexes ≤ room_in columns) (column_one : 1 ≤ room_in columns) where
      asks_room : area_written s areas (k + 1) p rows columns ≡ area_room area (room_in rows) (room_in columns)
      unfolding area_written
      asks_room =
          let number : k + 1 ≡ suc k = omega arith in
          questions_first s areas (λ (x : Sides). numbered_area x s areas (k + 1) p rows columns)
          ∙ rw asked_is (asks_number c s areas (k + 1) p rows columns some ∙ rw (number, numbered_is gs k no_range inside))

      is_given : (b : Bool) → area_written s areas (k + 1) p rows columns ≡ ask 11 b (given area) → area_written s areas (k + 1) p rows columns ≡ given area
      is_given true e = e
      is_given false e = absurd (area_never_eleven s areas rows columns (k + 1) p some room one column_room column_one e)

      area_writes : Writes (λ (q : ℕ). area_written s areas (k + 1) q rows columns) l k
      area_writes =
          record {
            area = area;
            is = is_given (leb (length area.rows) (room_in rows) && leb (length area.columns) (room_in columns)) asks_room;
            rows_are = own_rows;
            columns_are = own_columns;
          }

-- an area of what was counted, in lists with room for as many runs as there are slots, and for one
pub counted_writes : (s : Sheet) (areas : List PrintRange) (l : Layout) → counted s areas ≡ given l → (k : ℕ) → k < length (plans_in l.plan.areas)
    → (rows columns : List ℕ) → length s.row_indexes ≤ room_in rows → 1 ≤ room_in rows → length s.column_indexes ≤ room_in columns
    → 1 ≤ room_in columns → Writes (λ (q : ℕ). area_written s areas (k + 1) q rows columns) l k
counted_writes s areas l e k h rows columns room one column_room column_one =
    let w = counted_as s areas l e in
    rw w.is at (area_writes s areas w.sides w.asked_is k (rw w.is h) rows columns room one column_room column_one)

-- the pages of a plan are those of its areas, and each area has one
abbrev pub Adds : Plan → Type 0
Adds p =
    (p.pages ≡ over_areas pages_in (plans_in p.areas))
    × ((k : ℕ) → k < length (plans_in p.areas) → 1 ≤ pages_in (get_or (plans_in p.areas) k no_plan))

-- so of what was counted
pub counted_pages : (s : Sheet) (areas : List PrintRange) (l : Layout) → counted s areas ≡ given l → Adds l.plan
unfolding layout
counted_pages s areas l e =
    let w = counted_as s areas l e in
    let held = plans_held w.sides s areas (few_areas s areas w.sides w.asked_is) in
    let whole : Adds (layout w.sides s areas).plan = rw held (pages_are w.sides s areas, some_page w.sides s areas) in
    subst (λ (x : Layout). Adds x.plan) w.is whole
