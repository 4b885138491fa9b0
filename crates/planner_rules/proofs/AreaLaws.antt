-- Laws of one area that is ready, counted and written. Assumes nothing.
use mathlib.Core.Path.{◌≡◌, refl, sym, ap, ap₂, subst, ◌∙◌}
use mathlib.Core.Bool.{Bool, true, cond, ◌&&◌}
use mathlib.Core.List.{List}
use Prim.Native.Nat.{ℕ, ◌-◌, ◌*◌, ◌^◌, ◌≤◌}
use native.Mathlib.Omega.{arith}
use lib.Dec.{eqb}
use lib.IntN.{ℤ}
use lib.ListN.{length}
use borrow.Rule.Slice.PartMut.{put_mid}
use Rattle.units.specs.declared.Fixed.{Fixed}
use Rattle.planner_rules.specs.declared.titles.Title.{Title}
use Rattle.planner_rules.specs.declared.titles.Widened.{Widened}
use Rattle.planner_rules.specs.declared.pages.AreaPlan.{AreaPlan}
use Rattle.planner_rules.specs.declared.planning.Settings.{Settings}
use Rattle.planner_rules.specs.declared.planning.PrintRange.{PrintRange}
use Rattle.planner_rules.specs.declared.planning.ReadyTitle.{ReadyTitle}
use Rattle.planner_rules.specs.declared.planning.Ready.{Ready}
use Rattle.planner_rules.specs.declared.planning.ReadyArea.{ReadyArea}
use Rattle.planner_rules.specs.declared.planning.FinalCut.{FinalCut}
use Rattle.planner_rules.specs.declared.planning.CountedArea.{CountedArea}
use Rattle.planner_rules.specs.declared.planning.Shared.{Shared}
use Rattle.planner_rules.specs.Slots.{Slots, written}
use Rattle.planner_rules.specs.Questions.{all_within}
use Rattle.planner_rules.specs.Titles.{limit_of, widened, title_total}
use Rattle.planner_rules.specs.declared.runs.Frame.{Frame}
use Rattle.planner_rules.specs.Runs.{Run, axis_runs}
use Rattle.planner_rules.specs.Lent.{run_numbers, flat, Room, WrittenAt}
use Rattle.planner_rules.specs.Scale.{Scale, or_else, default_percent, clamped, fixed_scale, fit_scale, fit_passes}
use Rattle.planner_rules.specs.Pages.{none, or_empty}
use Rattle.planner_rules.specs.Plan.{AxisInput, Sheet, sheet_of, rows_in, columns_in, Sides, title_of, space_on, looked_at, passes_both, chosen_scale, cut_runs}
use Rattle.planner_rules.specs.Plan.{page_runs, body_is_empty, AreaLayout, plan_in, counted_at, area_at, area_layout, ReadyFor, Cuttable, within, ready_frame}
use Rattle.planner_rules.specs.Steps.{TitleReady, Settled, FineArea, Startable, sides_in, ready_from, ready_in, ready_cut, area_from, FewCut, Few}
use Rattle.planner_rules.specs.Steps.{rows_at, columns_at, Writable}
use Rattle.planner_rules.proofs.Laws.{either, part}
use Rattle.planner_rules.proofs.TitleLaws.{widened_pair, body_start_le, title_total_le}
use Rattle.planner_rules.proofs.Lent.{flat-length, put_rest}
use Rattle.planner_rules.proofs.CutLaws.{cuttable, passes_of, runs_of, cut_of_lem, as_many}

-- ---- a title that is ready

module _ (limit : ℕ) (asked : Title) (is ss fs ls : List ℕ) (slots : Slots is ss) (inside : all_within limit ls ≡ true) where
  pub title_ready : (w : Widened) → w ≡ widened limit asked fs ls → (n : ℕ) → n ≡ title_total w.title is ss
      → TitleReady (record { asked = asked; widened = w; total = n }) limit is ss fs ls
  title_ready w e n total = record {
    widened_is = e;
    total_is = total;
    total_low = rw total (title_total_le w.title is ss slots);
    starts_low = λ first h. body_start_le limit w.title first h
        (λ f l q. (widened_pair limit fs ls inside asked f l (ap (λ (v : Widened). v.title) (sym e) ∙ q)).1);
  }

-- ---- an area that is ready

-- an axis with its title, ready to be cut
pub ready_for : (side : Fixed) (t : ReadyTitle) (a : AxisInput) → t.widened.title ≡ (title_of a).title
    → t.total ≡ title_total t.widened.title a.indexes a.sizes
    → t.total ≤ 2 ^ 50 → a.headings ≤ 2 ^ 50 → ReadyFor (ready_from side t a) side.0 a
unfolding space_on
ready_for side t a e total low headings =
    record {
      space_is = rw (total, e);
      title_is = e;
      lo_is = rw e;
      hi_is = refl;
      target_is = refl;
      from_is = rw e;
      to_is = refl;
      low = record { headings_low = headings; titles_low = low };
    }

-- a sheet with what all areas share in place of its own
abbrev pub onto : Shared → Sheet → Sheet
onto x s =
    sheet_of x.settings x.rows.asked x.columns.asked s.row_indexes s.row_sizes s.column_indexes s.column_sizes
    s.merge_first_rows s.merge_first_columns s.merge_last_rows s.merge_last_columns s.row_breaks s.column_breaks

-- what was made ready is so of its own range
module _ (x : Shared) (g : PrintRange) (is js : List ℕ) (r : ReadyArea) (e : r ≡ ready_in x g is js) where
  pub range_is : r.range ≡ g
  range_is = ap (λ (q : ReadyArea). q.range) e

  pub ready_is : r ≡ ready_in x r.range is js
  ready_is = e ∙ ap (λ (h : PrintRange). ready_in x h is js) (sym range_is)

module _ (x : Shared) (s : Sheet) (y : Settled x s) (g : PrintRange) where
  abbrev rows : AxisInput
  rows = rows_in (onto x s) g

  abbrev columns : AxisInput
  columns = columns_in (onto x s) g

  pub row_startable : FineArea g → Startable s.row_indexes x.rows g.first_row
  unfolding limit_of
  row_startable f = record { rising = y.row_slots.rising; start_low = y.rows_ready.starts_low g.first_row (omega (arith, f)) }

  pub column_startable : FineArea g → Startable s.column_indexes x.columns g.first_column
  unfolding limit_of
  column_startable f = record {
    rising = y.column_slots.rising;
    start_low = omega (arith, y.columns_ready.starts_low g.first_column (omega (arith, f)));
  }

  module _ (r : ReadyArea) (e : r ≡ ready_in x g s.row_indexes s.column_indexes) where
    pub rows_are : ReadyFor r.rows (sides_in x).height rows
    rows_are =
        let t = y.rows_ready in
        rw e (ready_for x.sides.height x.rows rows (ap (λ (w : Widened). w.title) t.widened_is) t.total_is t.total_low
        (either (λ (n : ℕ). n ≤ 2 ^ 50) x.settings.headings (omega arith) (omega arith)))

    pub columns_are : ReadyFor r.columns (sides_in x).width columns
    columns_are =
        let t = y.columns_ready in
        rw e (ready_for x.sides.width x.columns columns (ap (λ (w : Widened). w.title) t.widened_is) t.total_is t.total_low
        (either (λ (n : ℕ). n ≤ 2 ^ 50) x.settings.headings (omega arith) (omega arith)))

    pub row_cuttable : Cuttable r.rows s.row_indexes s.row_sizes
    row_cuttable = cuttable r.rows (sides_in x).height rows y.row_slots rows_are

    pub column_cuttable : Cuttable r.columns s.column_indexes s.column_sizes
    column_cuttable = cuttable r.columns (sides_in x).width columns y.column_slots columns_are

    -- the scale that was chosen is the area's
    pub scale_is : (z : Scale) → z ≡ cond x.settings.fit (fit_scale
        (λ p. fit_passes r.rows.fit s.merge_first_rows s.merge_last_rows (within r.rows s.row_indexes) (within r.rows s.row_sizes) p
        && fit_passes r.columns.fit s.merge_first_columns s.merge_last_columns (within r.columns s.column_indexes)
        (within r.columns s.column_sizes) p)) (fixed_scale x.settings.percent)
        → z ≡ chosen_scale x.settings (sides_in x) rows columns
    unfolding chosen_scale
    scale_is z q =
        q ∙ ap (λ (t : ℕ → Bool). cond x.settings.fit (fit_scale t) (fixed_scale x.settings.percent))
        (λ i. λ p. passes_of r.rows (sides_in x).height rows rows_are p i && passes_of r.columns (sides_in x).width columns columns_are p i)

    -- what was counted is what the area comes to
    pub counted_is : (z : Scale) →
        area_from (ready_cut r.rows z.permille s.row_indexes s.row_sizes s.merge_first_rows s.merge_last_rows
        (looked_at x.settings.fit s.row_breaks))
        (ready_cut r.columns z.permille s.column_indexes s.column_sizes s.merge_first_columns s.merge_last_columns
        (looked_at x.settings.fit s.column_breaks)) z
        ≡ counted_at (sides_in x) rows columns z
    unfolding counted_at page_runs
    counted_is z =
        let h = (sides_in x).height in
        let w = (sides_in x).width in
        let p = z.permille in
        ap₂ (λ (a b : FinalCut). area_from a b z) (cut_of_lem r.rows h rows rows_are p _ refl) (cut_of_lem r.columns w columns columns_are p _ refl)
        ∙ rw (as_many rows.first (cut_runs h rows p), as_many columns.first (cut_runs w columns p))

-- ---- the notes of a scale

pub scale_few : (s : Settings) (c : Sides) (a b : AxisInput) → ((chosen_scale s c a b).clamp ≤ 1) × ((chosen_scale s c a b).unreachable ≤ 1)
unfolding chosen_scale fixed_scale fit_scale
scale_few s c a b =
    let p = or_else s.percent default_percent in
    either (λ (z : Scale). (z.clamp ≤ 1) × (z.unreachable ≤ 1)) s.fit
    (either (λ (z : Scale). (z.clamp ≤ 1) × (z.unreachable ≤ 1)) (passes_both c a b 100) (omega arith, omega arith) (omega arith, omega arith))
    (either (λ (n : ℕ). n ≤ 1) (eqb p (clamped p)) (omega arith) (omega arith), omega arith)

pub area_few : (c : Sides) (s : Sheet) (g : PrintRange) (a : CountedArea) → a ≡ (area_layout c s g).counted → FewCut a → Few a
unfolding area_layout area_at counted_at
area_few c s g a e cut =
    let few = scale_few s.settings c (rows_in s g) (columns_in s g) in
    record { cut = cut; clamped_few = rw e few.0; unreachable_few = rw e few.1 }

-- an area that was counted at the scale that was chosen for it
pub chosen_counted : (x : Shared) (s : Sheet) → Settled x s → (g : PrintRange) (r : ReadyArea) → r ≡ ready_in x g s.row_indexes s.column_indexes
    → (z : Scale) → z ≡ cond x.settings.fit (fit_scale
    (λ p. fit_passes r.rows.fit s.merge_first_rows s.merge_last_rows (within r.rows s.row_indexes) (within r.rows s.row_sizes) p
    && fit_passes r.columns.fit s.merge_first_columns s.merge_last_columns (within r.columns s.column_indexes)
    (within r.columns s.column_sizes) p)) (fixed_scale x.settings.percent)
    → (a : CountedArea) → a ≡ area_from
    (ready_cut r.rows z.permille s.row_indexes s.row_sizes s.merge_first_rows s.merge_last_rows (looked_at x.settings.fit s.row_breaks))
    (ready_cut r.columns z.permille s.column_indexes s.column_sizes s.merge_first_columns s.merge_last_columns
    (looked_at x.settings.fit s.column_breaks)) z
    → FewCut a → (a ≡ (area_layout (sides_in x) (onto x s) g).counted) × Few a
unfolding area_layout area_at
chosen_counted x s y g r e z q a w few =
    let made = w ∙ counted_is x s y g r e z
    ∙ ap (counted_at (sides_in x) (rows_in (onto x s) g) (columns_in (onto x s) g)) (scale_is x s y g r e z q) in
    (made, area_few (sides_in x) (onto x s) g a made few)

-- ---- runs that are written

-- an axis whose breaks are these, and whose runs go by this
module _ (r : Ready) (side : ℤ) (a : AxisInput) (y : ReadyFor r side a) (p : ℕ) (kept : List ℕ) (e : kept ≡ a.breaks) (k : Frame)
    (f : k ≡ ready_frame r.fit p) where
  abbrev runs : List Run
  runs = axis_runs k a.merge_firsts a.merge_lasts (within r a.indexes) (within r a.sizes) 0 kept

  same_runs : runs ≡ cut_runs side a p
  same_runs = rw (f, e) (runs_of r side a y p)

  pub empty_is : (b : Bool) → b ≡ body_is_empty side a p → b ≡ none runs
  empty_is b q = q ∙ ap none (sym same_runs)

  pub has_room : (old : List ℕ) → Room (page_runs side a p) old → Room (or_empty a.first runs) old
  unfolding page_runs
  has_room old h = rw same_runs h

  pub are_written : (old new : List ℕ) → new ≡ written (flat (or_empty a.first runs)) old → new ≡ written (flat (page_runs side a p)) old
  unfolding page_runs
  are_written old new w = rw same_runs at w

-- an area that came to this at a scale
module _ (x : Shared) (s : Sheet) (g : PrintRange) (z : Scale) (a : AreaPlan) where
  abbrev laid : AreaLayout
  laid = area_at (sides_in x) (rows_in s g) (columns_in s g) z

  module _ (e : a ≡ plan_in laid) where
    pub as_long : (length laid.rows ≡ a.row_runs) × (length laid.columns ≡ a.column_runs)
    unfolding area_at counted_at
    as_long = rw e (refl, refl)

    pub writable : (rows columns : List ℕ) → Room laid.rows rows → Room laid.columns columns → Writable x s g a rows columns
    unfolding area_at counted_at
    writable rows columns hr hc =
        subst (λ (b : AreaPlan). Writable x s g b rows columns) (sym e)
        (record { rows_empty = refl; columns_empty = refl; row_room = hr; column_room = hc })

    pub rows_filled : (old new : List ℕ) → new ≡ written (flat (rows_at x s g a.permille)) old → new ≡ written (flat laid.rows) old
    unfolding area_at counted_at
    rows_filled old new h = h ∙ ap (λ (b : AreaPlan). written (flat (rows_at x s g b.permille)) old) e

    pub columns_filled : (old new : List ℕ) → new ≡ written (flat (columns_at x s g a.permille)) old → new ≡ written (flat laid.columns) old
    unfolding area_at counted_at
    columns_filled old new h = h ∙ ap (λ (b : AreaPlan). written (flat (columns_at x s g b.permille)) old) e

    -- a part of each list was lent, and came back with the runs at its front
    module _ (at : ℕ) (old new : List ℕ) where
      pub rows_put : new ≡ written (flat (rows_at x s g a.permille)) (part at old)
          → WrittenAt laid.rows at (a.row_runs * run_numbers) old (put_mid at (length old - at) old new)
      rows_put h = record {
        count = omega (arith, as_long.0, flat-length laid.rows);
        list_is = put_rest at (flat laid.rows) old new (rows_filled (part at old) new h);
      }

      pub columns_put : new ≡ written (flat (columns_at x s g a.permille)) (part at old)
          → WrittenAt laid.columns at (a.column_runs * run_numbers) old (put_mid at (length old - at) old new)
      columns_put h = record {
        count = omega (arith, as_long.1, flat-length laid.columns);
        list_is = put_rest at (flat laid.columns) old new (columns_filled (part at old) new h);
      }
