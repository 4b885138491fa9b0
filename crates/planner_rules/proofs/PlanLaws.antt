-- Laws of the plan calls (`specs/Plan.antt`): what the questions come to, what all areas share, and the answers with the lent lists. Assumes nothing.
use mathlib.Core.Path.{◌≡◌, refl, sym, ap, subst, ◌∙◌}
use mathlib.Core.Bool.{Bool, true, false, ◌&&◌}
use mathlib.Core.List.{List, [], ◌∷◌, map}
use Prim.Native.Nat.{ℕ, zero, suc, ◌+◌, ◌^◌, ◌≤◌, ◌<◌}
use native.Mathlib.Omega.{arith}
use lib.Dec.{leb}
use lib.ListN.{length, get_or}
use borrow.Author.Tests.{leb-true, eqb-true, le-leb, lt-leb}
use Rattle.units.specs.Outcome.{Outcome, given, refused, and_then}
use Rattle.planner_rules.specs.declared.titles.Widened.{Widened}
use Rattle.planner_rules.specs.declared.titles.Axis.TheVariants.{Rows, Columns}
use Rattle.planner_rules.specs.declared.pages.Plan.{Plan}
use Rattle.planner_rules.specs.declared.planning.PrintRange.{PrintRange}
use Rattle.planner_rules.specs.declared.planning.CountedAreas.{CountedAreas}
use Rattle.planner_rules.specs.declared.planning.RunCounts.{RunCounts}
use Rattle.planner_rules.specs.declared.planning.Shared.{Shared}
use Rattle.planner_rules.specs.Slots.{Slots, written}
use Rattle.planner_rules.specs.Questions.{ask, no_or, equally_long, all_ordered, all_within, rising_within, all_small}
use Rattle.planner_rules.specs.Areas.{no_range, one_to_eight, every_area, upright, inside_grid, over_areas}
use Rattle.planner_rules.specs.Union.{cells_hold}
use Rattle.planner_rules.specs.Titles.{limit_of}
use Rattle.planner_rules.specs.Runs.{Run}
use Rattle.planner_rules.specs.Lent.{flat, room_in}
use Rattle.planner_rules.specs.Pages.{joined, numbered}
use Rattle.planner_rules.specs.Plan.{Sheet, Sides, rows_in, columns_in, content_sides, AreaLayout, counted_at, area_at}
use Rattle.planner_rules.specs.Plan.{area_layout, layouts_of, Layout, plan_in}
use Rattle.planner_rules.specs.Plan.{plan_of, row_runs_of, column_runs_of, layout, formed, in_grid, rises, small, questioned, within_limit, room_for, planned}
use Rattle.planner_rules.specs.Plan.{counted, scale_at, area_room, numbered_area, area_written, Planned, Counted, counts_of, AreaWrote, room_no, first_no}
use Rattle.planner_rules.specs.Steps.{asked, sides_in, TitleReady, TitlesFew, Settled, FineAreas, SharedBy, counted_of, plan_from}
use Rattle.planner_rules.proofs.QuestionLaws.{asked_no, asked_yes, no_number, slots_of}
use Rattle.planner_rules.proofs.TitleLaws.{ignored_le, expanded_le}
use Rattle.planner_rules.proofs.PageLaws.{numbered_zero, numbered_past}
use Rattle.planner_rules.proofs.AreaLaws.{onto}
use Rattle.std.proofs.lemmas.Bool.{and_parts}
use Rattle.std.proofs.lemmas.List.Recursion.{and_at}
use Rattle.planner_rules.proofs.AreaLists.{how_many, together_length, over_map, over_same}

-- ---- the questions

-- what comes after a question, then what comes after that
ask_then : {A B : Type 0} (n : ℕ) (b : Bool) (o : Outcome A) (f : A → Outcome B) → ask n b (and_then o f) ≡ and_then (ask n b o) f
ask_then n true o f = refl
ask_then n false o f = refl

given_then : {A B : Type 0} (o : Outcome A) (f : A → Outcome B) → and_then o f ≡ and_then (and_then o (λ (a : A). given a)) f
given_then (given a) f = refl
given_then (refused n) f = refl

-- the questions come first, whatever is made of the sides
pub questions_first : {A : Type 0} (s : Sheet) (areas : List PrintRange) (rest : Sides → Outcome A) → questioned s areas rest ≡ and_then (asked s areas) rest
unfolding questioned
questions_first {A} s areas rest =
    let gs = areas in
    let q4 = one_to_eight (length areas) in
    let q6 = formed s gs in
    let q7 = in_grid s gs in
    let q15 = cells_hold s.settings.cell_limit gs in
    let nine : Outcome Sides = ask 9 (small s) (and_then (content_sides s.settings) (λ (c : Sides). given c)) in
    let eight : Outcome Sides = ask 8 (rises s) nine in
    let fifteen : Outcome Sides = ask 15 q15 eight in
    let seven : Outcome Sides = ask 7 q7 fifteen in
    ap (λ (o : Outcome A). ask 4 q4 (ask 6 q6 (ask 7 q7 (ask 15 q15 (ask 8 (rises s) (ask 9 (small s) o)))))) (given_then (content_sides s.settings) rest)
    ∙ ap (λ (o : Outcome A). ask 4 q4 (ask 6 q6 (ask 7 q7 (ask 15 q15 (ask 8 (rises s) o))))) (ask_then 9 (small s) _ rest)
    ∙ ap (λ (o : Outcome A). ask 4 q4 (ask 6 q6 (ask 7 q7 (ask 15 q15 o)))) (ask_then 8 (rises s) nine rest)
    ∙ ap (λ (o : Outcome A). ask 4 q4 (ask 6 q6 (ask 7 q7 o))) (ask_then 15 q15 eight rest)
    ∙ ap (λ (o : Outcome A). ask 4 q4 (ask 6 q6 o)) (ask_then 7 q7 fifteen rest)
    ∙ ap (λ (o : Outcome A). ask 4 q4 o) (ask_then 6 q6 seven rest)
    ∙ ask_then 4 q4 (ask 6 q6 seven) rest

-- six yeses
pub record Yes (s : Sheet) (areas : List PrintRange) : Type 0 where
  pub four : one_to_eight (length areas) ≡ true
  pub six : formed s areas ≡ true
  pub seven : in_grid s areas ≡ true
  pub fifteen : cells_hold s.settings.cell_limit areas ≡ true
  pub eight : rises s ≡ true
  pub nine : small s ≡ true

module _ (s : Sheet) (areas : List PrintRange) (n : ℕ) (e : n ≡ first_no s areas) where
  abbrev sides : Outcome Sides
  sides = and_then (content_sides s.settings) (λ (c : Sides). given c)

  pub is_refused : 0 < n → asked s areas ≡ refused n
  unfolding questioned first_no
  is_refused h =
      let gs = areas in
      rw e (asked_no 4 (one_to_eight (length areas)) _ _ (asked_no 6 (formed s gs) _ _ (asked_no 7 (in_grid s gs) _ _
      (asked_no 15 (cells_hold s.settings.cell_limit gs) _ _ (asked_no 8 (rises s) _ _ (asked_no 9 (small s) 0 sides (no_number sides)))))) (rw e at h))

  pub all_yes : n ≤ 0 → Yes s areas
  unfolding first_no
  all_yes h =
      let z : 0 ≡ n = omega arith in
      let four = asked_yes 4 (one_to_eight (length areas)) _ (omega arith) (z ∙ e) in
      let six = asked_yes 6 (formed s areas) _ (omega arith) four.1 in
      let seven = asked_yes 7 (in_grid s areas) _ (omega arith) six.1 in
      let fifteen = asked_yes 15 (cells_hold s.settings.cell_limit areas) _ (omega arith) seven.1 in
      let eight = asked_yes 8 (rises s) _ (omega arith) fifteen.1 in
      let nine = asked_yes 9 (small s) _ (omega arith) eight.1 in
      record { four = four.0; six = six.0; seven = seven.0; fifteen = fifteen.0; eight = eight.0; nine = nine.0 }

pub goes_on : (s : Sheet) (areas : List PrintRange) → Yes s areas → asked s areas ≡ and_then (content_sides s.settings) (λ (c : Sides). given c)
unfolding questioned
goes_on s areas y = rw (y.four, y.six, y.seven, y.fifteen, y.eight, y.nine)

-- ---- what the private functions rely on

every_at : (p : PrintRange → Bool) (gs : List PrintRange) → every_area p gs ≡ true → (k : ℕ) → k < length gs → p (get_or gs k no_range) ≡ true
unfolding every_area
every_at p gs h k l = and_at (every_area p) p refl (λ _ _. refl) gs k no_range l h

-- what 6 says, one by one
pub record Formed (s : Sheet) (gs : List PrintRange) : Type 0 where
  pub rows_even : length s.row_indexes ≡ length s.row_sizes
  pub columns_even : length s.column_indexes ≡ length s.column_sizes
  pub all_upright : every_area upright gs ≡ true

pub formed_of : (s : Sheet) (gs : List PrintRange) → formed s gs ≡ true → Formed s gs
unfolding formed
formed_of s gs h =
    let rows = equally_long s.row_indexes s.row_sizes in
    let row_merges = equally_long s.merge_first_rows s.merge_last_rows in
    let columns = equally_long s.column_indexes s.column_sizes in
    let column_merges = equally_long s.merge_first_columns s.merge_last_columns in
    let of_rows = rows && row_merges && all_ordered s.merge_first_rows s.merge_last_rows in
    let of_columns = columns && column_merges && all_ordered s.merge_first_columns s.merge_last_columns in
    let merges = equally_long s.merge_first_rows s.merge_first_columns in
    let all = and_parts (of_rows && of_columns && merges) (every_area upright gs) h in
    let axes = and_parts of_rows of_columns (and_parts (of_rows && of_columns) merges all.0).0 in
    let of = and_parts (rows && row_merges) (all_ordered s.merge_first_rows s.merge_last_rows) axes.0 in
    let ofc = and_parts (columns && column_merges) (all_ordered s.merge_first_columns s.merge_last_columns) axes.1 in
    record {
      rows_even = eqb-true _ _ (and_parts rows row_merges of.0).0;
      columns_even = eqb-true _ _ (and_parts columns column_merges ofc.0).0;
      all_upright = all.1;
    }

module _ (s : Sheet) (areas : List PrintRange) (y : Yes s areas) where
  few_areas : length areas ≤ 8
  few_areas = leb-true _ _ (and_parts (leb 1 (length areas)) (leb (length areas) 8) y.four).1

  inside : (all_within (limit_of Rows) s.merge_last_rows ≡ true) × (all_within (limit_of Columns) s.merge_last_columns ≡ true)
      × (every_area inside_grid areas ≡ true)
  unfolding in_grid
  inside =
      let rows = all_within (limit_of Rows) s.merge_last_rows in
      let columns = all_within (limit_of Columns) s.merge_last_columns in
      let all = and_parts (rows && columns) (every_area inside_grid areas) y.seven in
      let axes = and_parts rows columns all.0 in
      (axes.0, axes.1, all.1)

  pub row_merges_inside : all_within (limit_of Rows) s.merge_last_rows ≡ true
  row_merges_inside = inside.0

  pub column_merges_inside : all_within (limit_of Columns) s.merge_last_columns ≡ true
  column_merges_inside = inside.1

  pub row_slots : Slots s.row_indexes s.row_sizes
  unfolding limit_of
  row_slots =
      slots_of (limit_of Rows) s.row_indexes s.row_sizes (omega arith) (formed_of s areas y.six).rows_even
      (and_parts (rising_within (limit_of Rows) s.row_indexes) (rising_within (limit_of Columns) s.column_indexes) y.eight).0
      (and_parts (all_small s.row_sizes) (all_small s.column_sizes) y.nine).0

  pub column_slots : Slots s.column_indexes s.column_sizes
  unfolding limit_of
  column_slots =
      slots_of (limit_of Columns) s.column_indexes s.column_sizes (omega arith) (formed_of s areas y.six).columns_even
      (and_parts (rising_within (limit_of Rows) s.row_indexes) (rising_within (limit_of Columns) s.column_indexes) y.eight).1
      (and_parts (all_small s.row_sizes) (all_small s.column_sizes) y.nine).1

  fine_areas : FineAreas areas
  fine_areas =
      record {
        few = few_areas;
        each = λ k h.
            let g = get_or areas k no_range in
            let up : upright g ≡ true = every_at upright areas (formed_of s areas y.six).all_upright k h in
            let inn : inside_grid g ≡ true = every_at inside_grid areas inside.2 k h in
            let ups = and_parts (leb g.first_row g.last_row) (leb g.first_column g.last_column) up in
            let ins = and_parts (leb g.last_row 1048575) (leb g.last_column 16383) inn in
            record {
              rows_upright = leb-true _ _ ups.0;
              columns_upright = leb-true _ _ ups.1;
              rows_inside = leb-true _ _ ins.0;
              columns_inside = leb-true _ _ ins.1;
            };
      }

  -- all of it together
  module _ (x : Shared) (rows : TitleReady x.rows (limit_of Rows) s.row_indexes s.row_sizes s.merge_first_rows s.merge_last_rows)
      (columns : TitleReady x.columns (limit_of Columns) s.column_indexes s.column_sizes s.merge_first_columns s.merge_last_columns)
      (few : length s.merge_first_rows + length s.merge_first_columns < 2 ^ 64) where
    titles_few : TitlesFew x
    titles_few = record {
      ignored = omega (
        arith,
        ap (λ (w : Widened). w.ignored) rows.widened_is,
        ap (λ (w : Widened). w.ignored) columns.widened_is,
        ignored_le s.merge_first_rows s.merge_last_rows (limit_of Rows) x.rows.asked,
        ignored_le s.merge_first_columns s.merge_last_columns (limit_of Columns) x.columns.asked,
      );
      expanded = omega (
        arith,
        ap (λ (w : Widened). w.expanded) rows.widened_is,
        ap (λ (w : Widened). w.expanded) columns.widened_is,
        few,
        expanded_le s.merge_first_rows s.merge_last_rows (limit_of Rows) x.rows.asked,
        expanded_le s.merge_first_columns s.merge_last_columns (limit_of Columns) x.columns.asked,
      );
    }

    pub shared_by : content_sides s.settings ≡ given (sides_in x) → x.settings ≡ s.settings → x.rows.asked ≡ s.row_title
        → x.columns.asked ≡ s.column_title → SharedBy x s areas
    shared_by c es er ec = record {
      goes_on = goes_on s areas y ∙ rw c;
      settings_are = es;
      row_title_is = er;
      column_title_is = ec;
      settled = record {
        row_slots = row_slots;
        column_slots = column_slots;
        rows_ready = rows;
        columns_ready = columns;
        titles_few = titles_few;
      };
      fine = fine_areas;
    }

-- ---- the answers and the lent lists

pub refuses_plan : (o : Outcome Layout) (n : ℕ) (rows columns : List ℕ) → o ≡ refused n → Planned o (refused n) rows columns rows columns
refuses_plan o n rows columns e = rw e (record { answer = refl; rows_are = refl; columns_are = refl })

module _ (o : Outcome Layout) (l : Layout) (p : Plan) (e : o ≡ given l) (q : p ≡ l.plan) where
  pub answers_plan : (rows₀ columns₀ rows columns : List ℕ) → rows ≡ written (flat l.rows) rows₀ → columns ≡ written (flat l.columns) columns₀
      → Planned o (given p) rows₀ columns₀ rows columns
  answers_plan rows₀ columns₀ rows columns v w = rw e (record { answer = ap (λ (x : Plan). given x) q; rows_are = v; columns_are = w })

  pub answers_count : Counted o (given p)
  answers_count = rw e (ap (λ (x : Plan). given x) q)

pub refuses_count : (o : Outcome Layout) (n : ℕ) → o ≡ refused n → Counted o (refused n)
refuses_count o n e = rw e

pub refuses_area : (o : Outcome AreaLayout) (n : ℕ) (rows columns : List ℕ) → o ≡ refused n → AreaWrote o (refused n) rows columns rows columns
refuses_area o n rows columns e = rw e (record { answer = refl; rows_are = refl; columns_are = refl })

pub answers_area : (o : Outcome AreaLayout) (l : AreaLayout) (k : RunCounts) → o ≡ given l → k ≡ counts_of l → (rows₀ columns₀ rows columns : List ℕ)
    → rows ≡ written (flat l.rows) rows₀ → columns ≡ written (flat l.columns) columns₀ → AreaWrote o (given k) rows₀ columns₀ rows columns
answers_area o l k e q rows₀ columns₀ rows columns v w = rw e (record { answer = ap (λ (x : RunCounts). given x) q; rows_are = v; columns_are = w })

-- what is answered of an outcome is answered of the same
pub relay_plan : (o q : Outcome Layout) (r : Outcome Plan) (rows₀ columns₀ rows columns : List ℕ) → o ≡ q → Planned o r rows₀ columns₀ rows columns
    → Planned q r rows₀ columns₀ rows columns
relay_plan o q r rows₀ columns₀ rows columns e w = subst (λ (x : Outcome Layout). Planned x r rows₀ columns₀ rows columns) e w

pub relay_area : (o q : Outcome AreaLayout) (r : Outcome RunCounts) (rows₀ columns₀ rows columns : List ℕ) → o ≡ q → AreaWrote o r rows₀ columns₀ rows columns
    → AreaWrote q r rows₀ columns₀ rows columns
relay_area o q r rows₀ columns₀ rows columns e w = subst (λ (x : Outcome AreaLayout). AreaWrote x r rows₀ columns₀ rows columns) e w

-- ---- counted areas

-- all runs of areas, as many as the areas say
runs_long : (f : AreaLayout → List Run) (n : AreaLayout → ℕ) (c : Sides) (s : Sheet)
    → ((g : PrintRange) → n (area_layout c s g) ≡ length (f (area_layout c s g)))
    → (gs : List PrintRange) → length (joined (map f (layouts_of c s gs))) ≡ over_areas n (layouts_of c s gs)
runs_long f n c s h gs =
    together_length f (layouts_of c s gs) ∙ over_map (how_many f) (area_layout c s) gs
    ∙ over_same (λ (g : PrintRange). how_many f (area_layout c s g)) (λ (g : PrintRange). n (area_layout c s g)) (λ g. sym (h g)) gs
    ∙ sym (over_map n (area_layout c s) gs)

module _ (c : Sides) (s : Sheet) (gs : List PrintRange) where
  rows_long : length (row_runs_of (layouts_of c s gs)) ≡ (counted_of (layouts_of c s gs)).rows
  unfolding area_layout area_at counted_at
  rows_long = runs_long (λ (l : AreaLayout). l.rows) (λ (l : AreaLayout). (plan_in l).row_runs) c s (λ g. refl) gs

  columns_long : length (column_runs_of (layouts_of c s gs)) ≡ (counted_of (layouts_of c s gs)).columns
  unfolding area_layout area_at counted_at
  columns_long = runs_long (λ (l : AreaLayout). l.columns) (λ (l : AreaLayout). (plan_in l).column_runs) c s (λ g. refl) gs

  -- 11 and 12 by the number r of the first that is answered no
  module _ (all : CountedAreas) (e : all ≡ counted_of (layouts_of c s gs)) (row_room column_room r : ℕ)
      (q : r ≡ room_no all.rows all.columns all.pages row_room column_room s.settings.page_limit) where
    abbrev whole : Layout
    whole = layout c s gs

    abbrev fits : Bool
    fits = leb (length (row_runs_of (layouts_of c s gs))) row_room && leb (length (column_runs_of (layouts_of c s gs))) column_room

    abbrev few : Bool
    few = leb (counted_of (layouts_of c s gs)).pages s.settings.page_limit

    by_number : r ≡ no_or 11 fits (no_or 12 few 0)
    unfolding room_no
    by_number =
        rw (rows_long, columns_long)
        (subst (λ (a : CountedAreas). r ≡ room_no a.rows a.columns a.pages row_room column_room s.settings.page_limit) e q)

    pub room_refused : 0 < r → room_for s whole row_room column_room ≡ refused r
    unfolding room_for within_limit layout plan_of
    room_refused h = rw by_number (asked_no 11 fits _ _ (asked_no 12 few 0 (given whole) (no_number (given whole))) (rw by_number at h))

    module _ (h : r ≤ 0) where
      both_yes : (fits ≡ true) × (few ≡ true)
      both_yes =
          let z : 0 ≡ r = omega arith in
          let eleven = asked_yes 11 fits _ (omega arith) (z ∙ by_number) in
          (eleven.0, (asked_yes 12 few _ (omega arith) eleven.1).0)

      pub room_given : room_for s whole row_room column_room ≡ given whole
      unfolding room_for within_limit layout plan_of
      room_given = rw (both_yes.0, both_yes.1)

      pub runs_fit_lem : (length (row_runs_of (layouts_of c s gs)) ≤ row_room) × (length (column_runs_of (layouts_of c s gs)) ≤ column_room)
      runs_fit_lem =
          let ls = layouts_of c s gs in
          let f = and_parts (leb (length (row_runs_of ls)) row_room) (leb (length (column_runs_of ls)) column_room) both_yes.0 in
          (leb-true _ _ f.0, leb-true _ _ f.1)

  -- 12 alone
  module _ (all : CountedAreas) (e : all ≡ counted_of (layouts_of c s gs)) where
    pub limit_refused : s.settings.page_limit < all.pages → within_limit s (layout c s gs) ≡ refused 12
    unfolding within_limit layout plan_of
    limit_refused h = rw (← (ap (λ (a : CountedAreas). a.pages) e), lt-leb all.pages s.settings.page_limit h)

    pub limit_given : all.pages ≤ s.settings.page_limit → within_limit s (layout c s gs) ≡ given (layout c s gs)
    unfolding within_limit layout plan_of
    limit_given h = rw (← (ap (λ (a : CountedAreas). a.pages) e), le-leb all.pages s.settings.page_limit h)

-- the plan of counted areas
pub plan_value : (x : Shared) (s : Sheet) → Settled x s → (gs : List PrintRange) (all : CountedAreas) → all ≡ counted_of (layouts_of (sides_in x) (onto x s) gs)
    → plan_from x all ≡ (layout (sides_in x) (onto x s) gs).plan
unfolding layout plan_of
plan_value x s y gs all e =
    rw (e, y.rows_ready.widened_is, y.columns_ready.widened_is)

-- ---- one area by its number

pub numbered_is : {A : Type 0} (xs : List A) (k : ℕ) (d : A) → k < length xs → numbered xs (suc k) ≡ given (get_or xs k d)
unfolding numbered
numbered_is [] k d h = absurd (omega arith)
numbered_is (x ∷ xs) zero d h = refl
numbered_is (x ∷ xs) (suc k) d h = numbered_is xs k d (omega arith)

module _ (c : Sides) (s : Sheet) (areas : List PrintRange) (n p : ℕ) (rows columns : List ℕ) where
  abbrev then : PrintRange → Outcome AreaLayout
  then g = area_room (area_at c (rows_in s g) (columns_in s g) (scale_at p)) (room_in rows) (room_in columns)

  pub no_permille : p ≡ 0 → numbered_area c s areas n p rows columns ≡ refused 10
  unfolding numbered_area
  no_permille e = rw e

  module _ (h : 1 ≤ p) where
    pub asks_number : numbered_area c s areas n p rows columns ≡ and_then (numbered areas n) then
    unfolding numbered_area
    asks_number = rw (le-leb 1 p h)

    pub number_zero : n ≡ 0 → numbered_area c s areas n p rows columns ≡ refused 14
    number_zero e = asks_number ∙ rw (e, numbered_zero areas)

    pub number_past : length areas < n → numbered_area c s areas n p rows columns ≡ refused 14
    number_past q = asks_number ∙ rw (numbered_past areas n q)

    pub number_is : (k : ℕ) (g : PrintRange) → n ≡ suc k → k < length areas → g ≡ get_or areas k no_range
        → numbered_area c s areas n p rows columns ≡ then g
    number_is k g en q eg = asks_number ∙ rw (en, numbered_is areas k no_range q, eg)

-- 11 of one area
module _ (l : AreaLayout) (row_room column_room : ℕ) where
  pub runs_held : length l.rows ≤ row_room → length l.columns ≤ column_room → area_room l row_room column_room ≡ given l
  runs_held h k = rw (le-leb (length l.rows) row_room h, le-leb (length l.columns) column_room k)

-- ---- the calls

-- a first no
module _ (s : Sheet) (areas : List PrintRange) (n : ℕ) (e : asked s areas ≡ refused n) where
  pub no_plan : (rows columns : List ℕ) → planned s areas rows columns ≡ refused n
  unfolding planned
  no_plan rows columns = questions_first s areas _ ∙ rw e

  pub no_count : counted s areas ≡ refused n
  unfolding counted
  no_count = questions_first s areas _ ∙ rw e

  pub no_area : (k p : ℕ) (rows columns : List ℕ) → area_written s areas k p rows columns ≡ refused n
  unfolding area_written
  no_area k p rows columns = questions_first s areas _ ∙ rw e

-- none
module _ (x : Shared) (s : Sheet) (areas : List PrintRange) (y : SharedBy x s areas) where
  same_sheet : onto x s ≡ s
  same_sheet = λ i. record {
    settings = y.settings_are i;
    row_title = y.row_title_is i;
    column_title = y.column_title_is i;
    row_indexes = s.row_indexes;
    row_sizes = s.row_sizes;
    column_indexes = s.column_indexes;
    column_sizes = s.column_sizes;
    merge_first_rows = s.merge_first_rows;
    merge_first_columns = s.merge_first_columns;
    merge_last_rows = s.merge_last_rows;
    merge_last_columns = s.merge_last_columns;
    row_breaks = s.row_breaks;
    column_breaks = s.column_breaks;
  }

  after : {A : Type 0} (rest : Sides → Sheet → Outcome A) → rest (sides_in x) (onto x s) ≡ questioned s areas (λ (c : Sides). rest c s)
  after rest =
      ap (rest (sides_in x)) same_sheet
      ∙ sym (questions_first s areas (λ (c : Sides). rest c s) ∙ ap (λ (o : Outcome Sides). and_then o (λ (c : Sides). rest c s)) y.goes_on)

  pub then_plan : (rows columns : List ℕ)
      → room_for (onto x s) (layout (sides_in x) (onto x s) areas) (room_in rows) (room_in columns) ≡ planned s areas rows columns
  unfolding planned
  then_plan rows columns = after (λ (c : Sides) (t : Sheet). room_for t (layout c t areas) (room_in rows) (room_in columns))

  pub then_count : within_limit (onto x s) (layout (sides_in x) (onto x s) areas) ≡ counted s areas
  unfolding counted
  then_count = after (λ (c : Sides) (t : Sheet). within_limit t (layout c t areas))

  pub then_area : (n p : ℕ) (rows columns : List ℕ) → numbered_area (sides_in x) (onto x s) areas n p rows columns ≡ area_written s areas n p rows columns
  unfolding area_written
  then_area n p rows columns = after (λ (c : Sides) (t : Sheet). numbered_area c t areas n p rows columns)
