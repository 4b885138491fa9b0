-- Demand 3 from the promise of the plan call, area by area: every pair on one page, the fewest runs, the largest permille. Assumes nothing.
use mathlib.Core.Path.{◌≡◌, refl, sym, ap, ◌∙◌, subst}
use mathlib.Core.Bool.{Bool, true, false, ◌&&◌}
use mathlib.Core.List.{List, ◌++◌, map}
use Prim.Native.Nat.{ℕ, suc, ◌+◌, ◌-◌, ◌*◌, ◌≤◌, ◌<◌, ◌^◌}
use native.Mathlib.Omega.{arith}
use lib.Dec.{leb}
use lib.IntN.{ℤ}
use lib.Signed.{mag}
use lib.ListN.{length, get_or, take, drop, length-map, length-append}
use lib.Seq.{drop_at}
use borrow.Author.Tests.{le-leb, leb-true}
use Rattle.units.specs.Grid.{last_row, last_column}
use Rattle.units.specs.Outcome.{Outcome, given, refused, and_then}
use Rattle.planner_rules.specs.declared.pages.Page.{Page}
use Rattle.planner_rules.specs.declared.pages.PageRun.{PageRun}
use Rattle.planner_rules.specs.declared.pages.AreaPlan.{AreaPlan}
use Rattle.planner_rules.specs.declared.pages.Plan.{Plan}
use Rattle.planner_rules.specs.declared.planning.Settings.{Settings}
use Rattle.planner_rules.specs.declared.planning.PrintRange.{PrintRange}
use Rattle.planner_rules.specs.declared.titles.Axis.TheVariants.{Rows, Columns}
use Rattle.planner_rules.specs.Questions.{ask, all_within, rising_within}
use Rattle.planner_rules.specs.Titles.{limit_of}
use Rattle.planner_rules.specs.Runs.{Run}
use Rattle.planner_rules.specs.Areas.{one_to_eight, every_area, inside_grid, plans_in, no_plan, over_areas}
use Rattle.planner_rules.specs.Union.{cells_hold}
use Rattle.planner_rules.specs.Lent.{flat, room_in, number_at, runs_in, firsts, lasts, sizes}
use Rattle.planner_rules.specs.Pages.{run_at, page_at, pages_in, after_runs, area_pages, areas_pages, pages_of, row_runs}
use Rattle.planner_rules.specs.Pages.{column_runs, runs_held, holds_runs, numbered}
use Rattle.planner_rules.specs.Pages.{page_numbered}
use Rattle.planner_rules.specs.Plan.{AxisInput, Sheet, Sides, AreaLayout, Layout, Planned, content_sides, chosen_scale, page_runs, rows_in, columns_in}
use Rattle.planner_rules.specs.Plan.{counted_at, area_at, area_layout, layouts_of, plan_in, plan_of, row_runs_of, column_runs_of}
use Rattle.planner_rules.specs.Plan.{layout, formed, in_grid, rises, small}
use Rattle.planner_rules.specs.Plan.{questioned, within_limit, room_for, planned, body_of, space_on}
use Rattle.planner_rules.specs.Slots.{Rising, written}
use Rattle.planner_rules.specs.Division.{LiesIn, InOneRun}
use Rattle.planner_rules.specs.Fitting.{Chosen}
use Rattle.planner_rules.specs.Demand.{Finished, IsArea, areas_before, pages_before, rows_from, columns_from, IsOwn, OnPage, OnOnePage, CoversPairs}
use Rattle.planner_rules.specs.Demand.{Bare, FewestPlan, Exceeds, EachReaches, LargestPlan}
use Rattle.planner_rules.proofs.QuestionLaws.{rising_of}
use Rattle.planner_rules.proofs.Lent.{stands, runs_length, field_at, flat-length}
use Rattle.planner_rules.proofs.PageLaws.{vertical_of, horizontal_of, before_of, numbered_take, page_after}
use Rattle.planner_rules.proofs.PageLaws.{vertical_below, horizontal_below, before_of_place, before_below, vertical_is, horizontal_is}
use Rattle.planner_rules.proofs.AreaLists.{held_are, numbered-map, every_one, before_and_it, over_map}
use Rattle.planner_rules.proofs.AreaLists.{over_same, how_many, together_length, from_area}
use Rattle.planner_rules.proofs.AreaPages.{own_page}
use Rattle.planner_rules.proofs.PlanLaws.{formed_of}
use Rattle.planner_rules.proofs.BodyLaws.{body_even, page_runs_cover, bare_total, page_runs_fewest}
use Rattle.planner_rules.proofs.Largest.{Plain, scale_chosen}
use Rattle.planner_rules.proofs.NoTen.{sides_given}
use Rattle.std.proofs.lemmas.Bool.{and_parts}
use Rattle.std.proofs.lemmas.List.{take-map}

-- ---- what a plan that was given says of the questions

pub ask_yes : {A : Type 0} (n : ℕ) (b : Bool) (o : Outcome A) (x : A) → ask n b o ≡ given x → (b ≡ true) × (o ≡ given x)
ask_yes n true o x e = (refl, e)
ask_yes n false o x e = absurd cc

pub then_yes : {A B : Type 0} (o : Outcome A) (f : A → Outcome B) (y : B) → and_then o f ≡ given y → (x : A) × (o ≡ given x) × (f x ≡ given y)
then_yes (given x) f y e = (x, refl, e)
then_yes (refused n) f y e = absurd cc

same_sides : {o : Outcome Sides} {x c : Sides} → o ≡ given x → o ≡ given c → x ≡ c
same_sides e f = cc

-- the questions were answered with yes, and there are sides
pub record Questioned {A : Type 0} (s : Sheet) (areas : List PrintRange) (rest : Sides → Outcome A) (y : A) : Type 0 where
  pub four : one_to_eight (length areas) ≡ true
  pub six : formed s areas ≡ true
  pub seven : in_grid s areas ≡ true
  pub eight : rises s ≡ true
  pub sides : Sides
  pub sides_are : content_sides s.settings ≡ given sides
  pub then_given : rest sides ≡ given y

pub all_yes : {A : Type 0} (s : Sheet) (areas : List PrintRange) (rest : Sides → Outcome A) (y : A) → questioned s areas rest ≡ given y
    → Questioned s areas rest y
unfolding questioned
all_yes s areas rest y e =
    let gs = areas in
    let o = and_then (content_sides s.settings) rest in
    let nine = ask 9 (small s) o in
    let eight = ask 8 (rises s) nine in
    let fifteen = ask 15 (cells_hold s.settings.cell_limit gs) eight in
    let seven = ask 7 (in_grid s gs) fifteen in
    let (q4, e4) = ask_yes 4 (one_to_eight (length areas)) (ask 6 (formed s gs) seven) y e in
    let (q6, e6) = ask_yes 6 (formed s gs) seven y e4 in
    let (q7, e7) = ask_yes 7 (in_grid s gs) fifteen y e6 in
    let (q15, e15) = ask_yes 15 (cells_hold s.settings.cell_limit gs) eight y e7 in
    let (q8, e8) = ask_yes 8 (rises s) nine y e15 in
    let (q9, e9) = ask_yes 9 (small s) o y e8 in
    let (c, is, then) = then_yes (content_sides s.settings) rest y e9 in
    record { four = q4; six = q6; seven = q7; eight = q8; sides = c; sides_are = is; then_given = then }

-- ---- the list of an axis from an area's runs on

-- the runs rs, n of them, are what stands first in the list
pub record Shows (a : AxisInput) (rs : List Run) (n : ℕ) (l : List ℕ) : Type 0 where
  pub even : length a.indexes ≡ length a.sizes
  pub inside : a.last ≤ a.limit
  pub rising : Rising a.indexes
  pub room : n ≤ room_in l
  pub firsts_are : firsts (runs_in n l) ≡ firsts rs
  pub lasts_are : lasts (runs_in n l) ≡ lasts rs
  pub sizes_are : sizes (runs_in n l) ≡ sizes rs

shows : (a : AxisInput) (rs : List Run) (l others : List ℕ) → length a.indexes ≡ length a.sizes → a.last ≤ a.limit → Rising a.indexes
    → l ≡ flat rs ++ others → Shows a rs (length rs) l
shows a rs l others even inside rising e =
    let w : l ≡ written (flat rs) (flat rs ++ others) = e ∙ ap (λ (t : List ℕ). flat rs ++ t) (sym (drop_at (flat rs) others (length (flat rs)) refl)) in
    let here = stands rs (flat rs ++ others) l w in
    record {
      even = even;
      inside = inside;
      rising = rising;
      room = omega (arith, ap length e, length-append (flat rs) others, flat-length rs);
      firsts_are = here.firsts_are;
      lasts_are = here.lasts_are;
      sizes_are = here.sizes_are;
    }

-- ---- a finished plan

-- what 6, 7 and 8 say of the slots and of an area
pub record Sound (s : Sheet) (areas : List PrintRange) : Type 0 where
  pub rows_even : length s.row_indexes ≡ length s.row_sizes
  pub columns_even : length s.column_indexes ≡ length s.column_sizes
  pub rows_rise : Rising s.row_indexes
  pub columns_rise : Rising s.column_indexes
  pub inside : every_area inside_grid areas ≡ true

sound : (s : Sheet) (areas : List PrintRange) → formed s areas ≡ true → in_grid s areas ≡ true → rises s ≡ true → Sound s areas
unfolding in_grid
sound s areas six seven eight =
    let even = formed_of s areas six in
    let rise = and_parts (rising_within (limit_of Rows) s.row_indexes) (rising_within (limit_of Columns) s.column_indexes) eight in
    let merges = all_within (limit_of Rows) s.merge_last_rows && all_within (limit_of Columns) s.merge_last_columns in
    record {
      rows_even = even.rows_even;
      columns_even = even.columns_even;
      rows_rise = rising_of (limit_of Rows) s.row_indexes rise.0;
      columns_rise = rising_of (limit_of Columns) s.column_indexes rise.1;
      inside = (and_parts merges (every_area inside_grid areas) seven).1;
    }

pub record Done (s : Sheet) (areas : List PrintRange) (plan : Plan) (rows columns : List ℕ) : Type 0 where
  pub sides : Sides
  pub sides_are : content_sides s.settings ≡ given sides
  pub few : length areas ≤ 8
  pub is_sound : Sound s areas
  pub plan_is : plan_of sides s (layouts_of sides s areas) ≡ plan
  pub row_tail : List ℕ
  pub rows_are : rows ≡ flat (row_runs_of (layouts_of sides s areas)) ++ row_tail
  pub column_tail : List ℕ
  pub columns_are : columns ≡ flat (column_runs_of (layouts_of sides s areas)) ++ column_tail

module _ (s : Sheet) (areas : List PrintRange) (rows₀ columns₀ rows columns : List ℕ) (r : Outcome Plan)
    (p : Planned (planned s areas rows₀ columns₀) r rows₀ columns₀ rows columns) where
  laid : (l : Layout) → planned s areas rows₀ columns₀ ≡ given l → Done s areas l.plan rows columns
  unfolding planned room_for within_limit layout
  laid l e =
      let gs = areas in
      let room : Sides → Outcome Layout = λ (c : Sides). room_for s (layout c s gs) (room_in rows₀) (room_in columns₀) in
      let y = all_yes s areas room l e in
      let c : Sides = y.sides in
      let k : Layout = layout c s gs in
      let enough = leb (length k.rows) (room_in rows₀) && leb (length k.columns) (room_in columns₀) in
      let pages = leb k.plan.pages s.settings.page_limit in
      let (eleven, f) = ask_yes 11 enough (ask 12 pages (given k)) l y.then_given in
      let (twelve, last) = ask_yes 12 pages (given k) l f in
      let same : k ≡ l = cc in
      let q : Planned (given k) r rows₀ columns₀ rows columns =
      subst (λ (o : Outcome Layout). Planned o r rows₀ columns₀ rows columns) (e ∙ sym last) p in
      let count = and_parts (leb 1 (length areas)) (leb (length areas) 8) y.four in
      subst (λ (l : Layout). Done s areas l.plan rows columns) same (record {
        sides = c;
        sides_are = y.sides_are;
        few = leb-true (length areas) 8 count.1;
        is_sound = sound s areas y.six y.seven y.eight;
        plan_is = refl;
        row_tail = drop (length (flat k.rows)) rows₀;
        rows_are = q.rows_are;
        column_tail = drop (length (flat k.columns)) columns₀;
        columns_are = q.columns_are;
      })

  pub done : (plan : Plan) → Finished r plan → Done s areas plan rows columns
  done plan f =
      let (l, e, g) = then_yes (planned s areas rows₀ columns₀) (λ (l : Layout). given l.plan) plan (sym p.answer ∙ f) in
      let same : l.plan ≡ plan = cc in
      subst (λ (x : Plan). Done s areas x rows columns) same (laid l e)

-- ---- an area of a finished plan

module _ (s : Sheet) (areas : List PrintRange) (plan : Plan) (rows columns : List ℕ) (d : Done s areas plan rows columns) where
  abbrev c : Sides
  c = d.sides

  abbrev gs : List PrintRange
  gs = areas

  -- what a range comes to
  abbrev came : PrintRange → AreaPlan
  came g = plan_in (area_layout c s g)

  plans_are : plans_in plan.areas ≡ map plan_in (layouts_of c s gs)
  unfolding plan_of
  plans_are =
      ap (λ (x : Plan). plans_in x.areas) (sym d.plan_is)
      ∙ held_are no_plan (map plan_in (layouts_of c s gs)) (omega (arith, d.few, length-map (layouts_of c s gs) plan_in, length-map gs (area_layout c s)))

  pub pages_are : plan.pages ≡ over_areas pages_in (plans_in plan.areas)
  unfolding plan_of
  pages_are =
      ap (λ (x : Plan). x.pages) (sym d.plan_is) ∙ sym (over_map pages_in plan_in (layouts_of c s gs))
      ∙ ap (λ (l : List AreaPlan). over_areas pages_in l) (sym plans_are)

  -- an area's runs are as many as the plan says
  row_count : (g : PrintRange) → (came g).row_runs ≡ length (area_layout c s g).rows
  unfolding area_layout area_at counted_at
  row_count g = refl

  column_count : (g : PrintRange) → (came g).column_runs ≡ length (area_layout c s g).columns
  unfolding area_layout area_at counted_at
  column_count g = refl

  -- the runs of some of the areas
  rows_of : (fs : List PrintRange) → row_runs (map plan_in (layouts_of c s fs)) ≡ over_areas (how_many (λ (l : AreaLayout). l.rows)) (layouts_of c s fs)
  rows_of fs =
      over_map (λ (a : AreaPlan). a.row_runs) plan_in (layouts_of c s fs)
      ∙ over_map (λ (l : AreaLayout). (plan_in l).row_runs) (area_layout c s) fs
      ∙ over_same (λ (g : PrintRange). (came g).row_runs) (λ (g : PrintRange). length (area_layout c s g).rows) row_count fs
      ∙ sym (over_map (how_many (λ (l : AreaLayout). l.rows)) (area_layout c s) fs)

  columns_of : (fs : List PrintRange) → column_runs (map plan_in (layouts_of c s fs))
      ≡ over_areas (how_many (λ (l : AreaLayout). l.columns)) (layouts_of c s fs)
  columns_of fs =
      over_map (λ (a : AreaPlan). a.column_runs) plan_in (layouts_of c s fs)
      ∙ over_map (λ (l : AreaLayout). (plan_in l).column_runs) (area_layout c s) fs
      ∙ over_same (λ (g : PrintRange). (came g).column_runs) (λ (g : PrintRange). length (area_layout c s g).columns) column_count fs
      ∙ sym (over_map (how_many (λ (l : AreaLayout). l.columns)) (area_layout c s) fs)

  pub held : holds_runs plan rows columns ≡ true
  unfolding runs_held
  held =
      let row_sum = ap row_runs plans_are ∙ rows_of gs ∙ sym (together_length (λ (l : AreaLayout). l.rows) (layouts_of c s gs)) in
      let column_sum = ap column_runs plans_are ∙ columns_of gs ∙ sym (together_length (λ (l : AreaLayout). l.columns) (layouts_of c s gs)) in
      let rs = row_runs_of (layouts_of c s gs) in
      let cs = column_runs_of (layouts_of c s gs) in
      let in_rows : row_runs (plans_in plan.areas) ≤ room_in rows =
      omega (arith, row_sum, ap length d.rows_are, length-append (flat rs) d.row_tail, flat-length rs) in
      let in_columns : column_runs (plans_in plan.areas) ≤ room_in columns =
      omega (arith, column_sum, ap length d.columns_are, length-append (flat cs) d.column_tail, flat-length cs) in
      rw (le-leb _ _ in_rows, le-leb _ _ in_columns)

  module _ (n : ℕ) (g : PrintRange) (e : IsArea areas n g) where
    pub came_to : numbered (plans_in plan.areas) n ≡ given (came g)
    came_to =
        ap (λ (l : List AreaPlan). numbered l n) plans_are
        ∙ numbered-map plan_in (layouts_of c s gs) n (area_layout c s g) (numbered-map (area_layout c s) gs n g e)

    range_in_grid : inside_grid g ≡ true
    range_in_grid = every_one inside_grid gs n g d.is_sound.inside e

    before_are : areas_before plan n ≡ map plan_in (layouts_of c s (take (n - 1) gs))
    before_are =
        ap (take (n - 1)) plans_are ∙ take-map plan_in (n - 1) (layouts_of c s gs)
        ∙ ap (map plan_in) (take-map (area_layout c s) (n - 1) gs)

    pub on_rows : Shows (rows_in s g) (area_layout c s g).rows (came g).row_runs (rows_from plan n rows)
    unfolding limit_of
    on_rows =
        let ls = layouts_of c s gs in
        let f = from_area (λ (l : AreaLayout). l.rows) ls n (area_layout c s g) d.row_tail (numbered-map (area_layout c s) gs n g e) in
        let so_many : ℕ = over_areas (how_many (λ (l : AreaLayout). l.rows)) (take (n - 1) ls) in
        let many : row_runs (areas_before plan n) ≡ so_many = ap row_runs before_are ∙ rows_of (take (n - 1) gs)
        ∙ ap (over_areas (how_many (λ (l : AreaLayout). l.rows))) (sym (take-map (area_layout c s) (n - 1) gs)) in
        let two = and_parts (leb g.last_row last_row) (leb g.last_column last_column) range_in_grid in
        rw (row_count g) (shows (rows_in s g) (area_layout c s g).rows (rows_from plan n rows) f.others d.is_sound.rows_even
        (leb-true _ _ two.0) d.is_sound.rows_rise (ap (λ (k : ℕ). after_runs k rows) many ∙ ap (after_runs so_many) d.rows_are ∙ f.from_it))

    pub on_columns : Shows (columns_in s g) (area_layout c s g).columns (came g).column_runs (columns_from plan n columns)
    unfolding limit_of
    on_columns =
        let ls = layouts_of c s gs in
        let f = from_area (λ (l : AreaLayout). l.columns) ls n (area_layout c s g) d.column_tail (numbered-map (area_layout c s) gs n g e) in
        let so_many : ℕ = over_areas (how_many (λ (l : AreaLayout). l.columns)) (take (n - 1) ls) in
        let many : column_runs (areas_before plan n) ≡ so_many = ap column_runs before_are ∙ columns_of (take (n - 1) gs)
        ∙ ap (over_areas (how_many (λ (l : AreaLayout). l.columns))) (sym (take-map (area_layout c s) (n - 1) gs)) in
        let two = and_parts (leb g.last_row last_row) (leb g.last_column last_column) range_in_grid in
        rw (column_count g) (shows (columns_in s g) (area_layout c s g).columns (columns_from plan n columns) f.others d.is_sound.columns_even
        (leb-true _ _ two.1) d.is_sound.columns_rise (ap (λ (k : ℕ). after_runs k columns) many ∙ ap (after_runs so_many) d.columns_are ∙ f.from_it))

-- ---- covered

module _ (plan : Plan) (rows columns : List ℕ) (held : holds_runs plan rows columns ≡ true)
    (pages_are : plan.pages ≡ over_areas pages_in (plans_in plan.areas)) (n : ℕ) (a : AreaPlan)
    (is_it : numbered (plans_in plan.areas) n ≡ given a) where
  abbrev down : ℕ
  down = a.row_runs

  abbrev over : ℕ
  over = a.column_runs

  abbrev start : ℕ
  start = pages_before plan n

  abbrev own_rows : List ℕ
  own_rows = rows_from plan n rows

  abbrev own_columns : List ℕ
  own_columns = columns_from plan n columns

  -- the page of two runs, and the area's page after so many of its own
  abbrev at : ℕ → ℕ → Page
  at = page_at own_rows own_columns a

  abbrev after : ℕ → Page
  after before = at (vertical_of plan.order down over before) (horizontal_of plan.order down over before)

  to_last : start + down * over ≤ plan.pages
  to_last = omega (arith, pages_are, before_and_it pages_in (plans_in plan.areas) n a is_it)

  page_is : (before : ℕ) → before < down * over → page_numbered plan rows columns (start + suc before) ≡ given (after before)
  unfolding page_numbered pages_of area_pages
  page_is before h =
      rw held
      (numbered_take plan.pages (areas_pages plan.order (plans_in plan.areas) rows columns) (start + suc before) (omega (arith, to_last))
      ∙ own_page plan.order (plans_in plan.areas) rows columns n a is_it (suc before) (omega arith) (omega arith)
      ∙ page_after down over at plan.order before h)

  -- a page of the area's own is one of these
  is_page : (m : ℕ) (page : Page) → IsOwn plan n a m → page_numbered plan rows columns m ≡ given page
      → (before : ℕ) × (before < down * over) × (m ≡ start + suc before) × (page ≡ after before)
  is_page m page own e =
      let i : ℕ = m - start - 1 in
      let h : i < down * over = omega (arith, own.past_those_before, own.to_its_last) in
      let is : m ≡ start + suc i = omega (arith, own.past_those_before) in
      let same : given page ≡ given (after i) = sym e ∙ ap (page_numbered plan rows columns) is ∙ page_is i h in
      (i, h, is, cc)

  -- an index of the grid that lies from first to last of a page's run lies in that run of the list, and the other way round
  module _ (k : ℕ) (l : List ℕ) (index i : ℕ) (small : index < 4294967295) (below : i < k) where
    abbrev run : PageRun
    run = run_at l true i

    first_is : get_or (firsts (runs_in k l)) i 0 ≡ number_at l i 0
    first_is = field_at (λ (r : Run). r.first) 0 (λ l. refl) k l i below

    last_is : get_or (lasts (runs_in k l)) i 0 ≡ number_at l i 1
    last_is = field_at (λ (r : Run). r.last) 1 (λ l. refl) k l i below

    lies : run.first ≤ index → index ≤ run.last → LiesIn (firsts (runs_in k l)) (lasts (runs_in k l)) index i
    lies low high = record {
      there = omega (arith, length-map (runs_in k l) (λ (r : Run). r.first), runs_length k l);
      not_before = omega (arith, first_is);
      not_after = omega (arith, last_is);
    }

    from_first : get_or (firsts (runs_in k l)) i 0 ≤ index → run.first ≤ index
    from_first h = omega (arith, first_is)

    to_its_last : index ≤ get_or (lasts (runs_in k l)) i 0 → index ≤ run.last
    to_its_last h = omega (arith, last_is)

  pub on_one_page : (row column : ℕ) → row < 4294967295 → column < 4294967295
      → InOneRun (firsts (runs_in down own_rows)) (lasts (runs_in down own_rows)) row
      → InOneRun (firsts (runs_in over own_columns)) (lasts (runs_in over own_columns)) column → OnOnePage plan n rows columns row column a
  on_one_page row column low_row low_column i j =
      let v : ℕ = i.run in
      let h : ℕ = j.run in
      let v_below : v < down = omega (arith, i.lies.there, length-map (runs_in down own_rows) (λ (r : Run). r.first), runs_length down own_rows) in
      let h_below : h < over =
      omega (arith, j.lies.there, length-map (runs_in over own_columns) (λ (r : Run). r.first), runs_length over own_columns) in
      let before : ℕ = before_of plan.order down over v h in
      let inside : before < down * over = before_below down over v h v_below h_below plan.order in
      record {
        number = start + suc before;
        page = at v h;
        own = record { past_those_before = omega arith; to_its_last = omega arith };
        to_count = omega (arith, to_last);
        has_number = rw (vertical_is down over v h v_below h_below plan.order, horizontal_is down over v h v_below h_below plan.order)
            at (page_is before inside);
        on_it = record {
          row_from_first = from_first down own_rows row v low_row v_below i.lies.not_before;
          row_to_last = to_its_last down own_rows row v low_row v_below i.lies.not_after;
          column_from_first = from_first over own_columns column h low_column h_below j.lies.not_before;
          column_to_last = to_its_last over own_columns column h low_column h_below j.lies.not_after;
        };
        on_no_other = λ m other own e o.
            let (b, l, number, page) = is_page m other own e in
            let on : OnPage (after b) row column = rw page at o in
            let v' : ℕ = vertical_of plan.order down over b in
            let h' : ℕ = horizontal_of plan.order down over b in
            let v'_below = vertical_below down over b l plan.order in
            let h'_below = horizontal_below down over b l plan.order in
            let ev : v' ≡ v = i.only v' (lies down own_rows row v' low_row v'_below on.row_from_first on.row_to_last) in
            let eh : h' ≡ h = j.only h' (lies over own_columns column h' low_column h'_below on.column_from_first on.column_to_last) in
            let same : before_of plan.order down over v' h' ≡ before = rw (ev, eh) refl in
            number ∙ ap (λ (x : ℕ). start + suc x) (sym (before_of_place down over b l plan.order) ∙ same);
      }

-- an area's rows and columns are those at its permille
area_rows : (c : Sides) (s : Sheet) (g : PrintRange) → (area_layout c s g).rows ≡ page_runs c.height (rows_in s g) (plan_in (area_layout c s g)).permille
unfolding area_layout area_at counted_at
area_rows c s g = refl

area_columns : (c : Sides) (s : Sheet) (g : PrintRange)
    → (area_layout c s g).columns ≡ page_runs c.width (columns_in s g) (plan_in (area_layout c s g)).permille
unfolding area_layout area_at counted_at
area_columns c s g = refl

module _ (s : Sheet) (areas : List PrintRange) (rows₀ columns₀ rows columns : List ℕ) (r : Outcome Plan)
    (p : Planned (planned s areas rows₀ columns₀) r rows₀ columns₀ rows columns) where
  pub covers : CoversPairs r s areas rows columns
  unfolding limit_of
  covers = record {
    covered = λ plan f n g e row column i j.
        let d = done s areas rows₀ columns₀ rows columns r p plan f in
        let c = d.sides in
        let a : AreaPlan = plan_in (area_layout c s g) in
        let is = came_to s areas plan rows columns d n g e in
        let u = on_rows s areas plan rows columns d n g e in
        let w = on_columns s areas plan rows columns d n g e in
        record {
          area = a;
          is_it = is;
          so = on_one_page plan rows columns (held s areas plan rows columns d) (pages_are s areas plan rows columns d) n a is row column
              (omega (arith, i.to_last, u.inside)) (omega (arith, j.to_last, w.inside))
              (rw (u.firsts_are, u.lasts_are, area_rows c s g)
              (page_runs_cover c.height (rows_in s g) a.permille u.even u.rising row i))
              (rw (w.firsts_are, w.lasts_are, area_columns c s g)
              (page_runs_cover c.width (columns_in s g) a.permille w.even w.rising column j));
        };
  }

  -- ---- fewest

  pub fewest_plan : FewestPlan r s areas rows columns
  fewest_plan = record {
    on_rows = λ plan f c e n g x bare.
        let d = done s areas rows₀ columns₀ rows columns r p plan f in
        let u = on_rows s areas plan rows columns d n g x in
        let same = same_sides d.sides_are e in
        let a : AreaPlan = plan_in (area_layout d.sides s g) in
        record {
          area = a;
          is_it = came_to s areas plan rows columns d n g x;
          so = λ h. rw (← same, u.firsts_are, u.lasts_are, u.sizes_are, area_rows d.sides s g)
              (page_runs_fewest (rows_in s g) bare d.sides.height a.permille u.even h);
        };
    on_columns = λ plan f c e n g x bare.
        let d = done s areas rows₀ columns₀ rows columns r p plan f in
        let w = on_columns s areas plan rows columns d n g x in
        let same = same_sides d.sides_are e in
        let a : AreaPlan = plan_in (area_layout d.sides s g) in
        record {
          area = a;
          is_it = came_to s areas plan rows columns d n g x;
          so = λ h. rw (← same, w.firsts_are, w.lasts_are, w.sizes_are, area_columns d.sides s g)
              (page_runs_fewest (columns_in s g) bare d.sides.width a.permille w.even h);
        };
  }

-- ---- largest

plain : (side : ℤ) (a : AxisInput) (n : ℕ) → Bare a → Exceeds side a n → mag side < 2 ^ 53 → length a.indexes ≡ length a.sizes
    → Plain (space_on side a) (body_of a) n
unfolding space_on body_of
plain side a n bare x moderate even = record {
  side_is = x.side_is;
  moderate = rw x.side_is at moderate;
  room = x.above;
  no_titles = bare_total a bare;
  no_title = bare.no_title;
  no_firsts = bare.no_merge_firsts;
  no_lasts = bare.no_merge_lasts;
  even = body_even a even;
}

scale_is : (s : Settings) (c : Sides) (a b : AxisInput) (height width : ℕ) → s.fit ≡ true → Plain (space_on c.height a) (body_of a) height
    → Plain (space_on c.width b) (body_of b) width
    → let scale = chosen_scale s c a b in Chosen (EachReaches a b height width) scale.permille scale.unreachable
unfolding chosen_scale space_on body_of
scale_is s c a b height width fit x y =
    rw fit (scale_chosen (space_on c.height a) (space_on c.width b) (body_of a) (body_of b) height width a.target b.target x y)

-- the area's permille and mark are those of the scale that was chosen for it
area_chosen : (c : Sides) (s : Sheet) (g : PrintRange) (P : ℕ → Type 0)
    → (let scale = chosen_scale s.settings c (rows_in s g) (columns_in s g) in Chosen P scale.permille scale.unreachable)
    → (let a = plan_in (area_layout c s g) in Chosen P a.permille a.unreachable)
unfolding area_layout area_at counted_at
area_chosen c s g P h = h

-- the mark of an area is its note
mark_noted : (c : Sides) (s : Sheet) (g : PrintRange) → (area_layout c s g).counted.notes.unreachable ≡ (plan_in (area_layout c s g)).unreachable
unfolding area_layout area_at counted_at
mark_noted c s g = refl

module _ (s : Sheet) (content : (c : Sides) × (content_sides s.settings ≡ given c) × (mag c.width < 2 ^ 53) × (mag c.height < 2 ^ 53))
    (areas : List PrintRange) (rows₀ columns₀ rows columns : List ℕ) (r : Outcome Plan)
    (p : Planned (planned s areas rows₀ columns₀) r rows₀ columns₀ rows columns) where
  pub largest_plan : LargestPlan r s areas
  unfolding plan_of
  largest_plan = record {
    largest = λ plan f c e n g x bare_a bare_b fit height width exceeds_a exceeds_b.
        let d = done s areas rows₀ columns₀ rows columns r p plan f in
        let u = on_rows s areas plan rows columns d n g x in
        let w = on_columns s areas plan rows columns d n g x in
        let (k, given_k, width_low, height_low) = content in
        let low = same_sides given_k e in
        let same = same_sides d.sides_are e in
        let area : AreaPlan = plan_in (area_layout c s g) in
        record {
          area = area;
          is_it = subst (λ (x : Sides). numbered (plans_in plan.areas) n ≡ given (plan_in (area_layout x s g))) same
              (came_to s areas plan rows columns d n g x);
          so = area_chosen c s g (EachReaches (rows_in s g) (columns_in s g) height width)
              (scale_is s.settings c (rows_in s g) (columns_in s g) height width fit
              (plain c.height (rows_in s g) height bare_a exceeds_a (rw low at height_low) u.even)
              (plain c.width (columns_in s g) width bare_b exceeds_b (rw low at width_low) w.even));
        };
    noted = λ plan f.
        let d = done s areas rows₀ columns₀ rows columns r p plan f in
        let c = d.sides in
        let gs = areas in
        ap (λ (x : Plan). x.notes.fit_unreachable) (sym d.plan_is)
        ∙ over_map (λ (l : AreaLayout). l.counted.notes.unreachable) (area_layout c s) gs
        ∙ over_same (λ (g : PrintRange). (area_layout c s g).counted.notes.unreachable) (λ (g : PrintRange). (plan_in (area_layout c s g)).unreachable)
        (mark_noted c s) gs
        ∙ sym (over_map (λ (l : AreaLayout). (plan_in l).unreachable) (area_layout c s) gs)
        ∙ sym (over_map (λ (a : AreaPlan). a.unreachable) plan_in (layouts_of c s gs))
        ∙ ap (λ (l : List AreaPlan). over_areas (λ (a : AreaPlan). a.unreachable) l) (sym (plans_are s areas plan rows columns d));
  }

-- ---- the clauses of the call, in their order
pub clauses : (s : Sheet) (areas : List PrintRange) (rows₀ columns₀ rows columns : List ℕ) (r : Outcome Plan)
    → Planned (planned s areas rows₀ columns₀) r rows₀ columns₀ rows columns
    → Planned (planned s areas rows₀ columns₀) r rows₀ columns₀ rows columns
    × (CoversPairs r s areas rows columns × (FewestPlan r s areas rows columns × LargestPlan r s areas))
clauses s areas rows₀ columns₀ rows columns r p = (
  p,
  (
    covers s areas rows₀ columns₀ rows columns r p,
    (fewest_plan s areas rows₀ columns₀ rows columns r p, largest_plan s (sides_given s.settings) areas rows₀ columns₀ rows columns r p),
  ),
)
