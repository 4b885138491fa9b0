-- Laws of the pages of several areas: how many there are, and which page has a number. Assumes nothing.
use mathlib.Core.Path.{◌≡◌, refl, sym, ap, subst, ◌∙◌}
use mathlib.Core.Bool.{true, false, and-false}
use mathlib.Core.List.{List, [], ◌∷◌, ◌++◌}
use Prim.Native.Nat.{ℕ, zero, suc, ◌+◌, ◌-◌, ◌*◌, ◌≤◌, ◌<◌}
use native.Mathlib.Numerals.{add-one}
use native.Mathlib.Omega.{arith}
use lib.Dec.{leb}
use lib.ListN.{length, get_or, take, drop, length-append, drop_of_length-le}
use lib.Seq.{drop-drop, drop-cons}
use borrow.Author.Tests.{lt-ltb, le-ltb, le-leb, lt-leb}
use Rattle.units.specs.Outcome.{given, refused}
use Rattle.planner_rules.specs.declared.pages.PageOrder.{PageOrder}
use Rattle.planner_rules.specs.declared.pages.AreaPlan.{AreaPlan}
use Rattle.planner_rules.specs.declared.pages.Spot.{Spot}
use Rattle.std.specs.Prelude.{Some, None, Result, Ok, Err}
use Rattle.planner_rules.specs.Lent.{run_numbers}
use Rattle.planner_rules.specs.Areas.{no_plan, over_areas}
use Rattle.planner_rules.specs.Pages.{page_at, numbered, pages_in, area_pages, after_runs, areas_pages, row_runs, column_runs, area_page_after}
use Rattle.planner_rules.specs.Pages.{runs_held, spot_from, walk_from, Stands, spot_page}
use Rattle.planner_rules.proofs.Laws.{split}
use Rattle.planner_rules.proofs.PageLaws.{numbered_at, numbered_first, numbered_second, numbered_past, page_count, page_after}

-- ---- the pages of an area

module _ (order : PageOrder) (a : AreaPlan) (rows columns : List ℕ) where
  pub area_length : length (area_pages order a rows columns) ≡ pages_in a
  unfolding area_pages
  area_length = page_count a.row_runs a.column_runs (page_at rows columns a) order

  pub area_page_is : (before : ℕ) → before < pages_in a
      → numbered (area_pages order a rows columns) (suc before) ≡ given (area_page_after order a rows columns before)
  unfolding area_pages area_page_after
  area_page_is before h = page_after a.row_runs a.column_runs (page_at rows columns a) order before h

  pub area_page_none : (n : ℕ) → pages_in a < n → numbered (area_pages order a rows columns) n ≡ refused 14
  area_page_none n h = numbered_past (area_pages order a rows columns) n (omega (arith, area_length))

-- ---- the pages of all areas

module _ (order : PageOrder) where
  pub areas_length : (areas : List AreaPlan) (rows columns : List ℕ) → length (areas_pages order areas rows columns) ≡ over_areas pages_in areas
  unfolding areas_pages over_areas
  areas_length [] rows columns = refl
  areas_length (a ∷ areas) rows columns =
      let rows' = after_runs a.row_runs rows in
      let columns' = after_runs a.column_runs columns in
      omega (
        arith,
        length-append (area_pages order a rows columns) (areas_pages order areas rows' columns'),
        area_length order a rows columns,
        areas_length areas rows' columns',
      )

-- after n runs, and then after m more
after_after : (m n : ℕ) (l : List ℕ) → after_runs m (after_runs n l) ≡ after_runs (n + m) l
after_after m n l =
    let e : run_numbers * n + run_numbers * m ≡ run_numbers * (n + m) = omega arith in
    drop-drop (run_numbers * m) (run_numbers * n) l ∙ ap (λ (k : ℕ). drop k l) e

module _ (order : PageOrder) where
  -- the pages of the area with the number k, from 0, stand after those of the areas before it
  pub page_in : (areas : List AreaPlan) (rows columns : List ℕ) (k m : ℕ) → k < length areas → 1 ≤ m → m ≤ pages_in (get_or areas k no_plan)
      → numbered (areas_pages order areas rows columns) (over_areas pages_in (take k areas) + m)
      ≡ numbered (area_pages order (get_or areas k no_plan) (after_runs (row_runs (take k areas)) rows) (after_runs (column_runs (take k areas)) columns)) m
  unfolding areas_pages over_areas
  page_in [] rows columns k m h low high = absurd (omega arith)
  page_in (a ∷ areas) rows columns zero m h low high =
      let e : 0 + m ≡ m = omega arith in
      rw e (numbered_first (area_pages order a rows columns) _ m (omega (arith, area_length order a rows columns)))
  page_in (a ∷ areas) rows columns (suc k) m h low high =
      let rows' = after_runs a.row_runs rows in
      let columns' = after_runs a.column_runs columns in
      let own = area_pages order a rows columns in
      let before = over_areas pages_in (take k areas) in
      let long = area_length order a rows columns in
      let here : pages_in a + before + m ≡ suc (pages_in a + before + m - 1) = omega arith in
      let there : suc (pages_in a + before + m - 1 - length own) ≡ before + m = omega (arith, long) in
      ap (numbered (own ++ areas_pages order areas rows' columns')) here
      ∙ numbered_second own (areas_pages order areas rows' columns') (pages_in a + before + m - 1) (omega (arith, long))
      ∙ ap (numbered (areas_pages order areas rows' columns')) there
      ∙ rw (after_after (row_runs (take k areas)) a.row_runs rows, after_after (column_runs (take k areas)) a.column_runs columns) at
      (page_in areas rows' columns' k m (omega arith) low high)

  -- "page numbers run on": the m-th page of the area with a number from 1
  pub own_page : (areas : List AreaPlan) (rows columns : List ℕ) (n : ℕ) (a : AreaPlan) → numbered areas n ≡ given a → (m : ℕ) → 1 ≤ m → m ≤ pages_in a
      → numbered (areas_pages order areas rows columns) (over_areas pages_in (take (n - 1) areas) + m)
      ≡ numbered (area_pages order a (after_runs (row_runs (take (n - 1) areas)) rows) (after_runs (column_runs (take (n - 1) areas)) columns)) m
  own_page areas rows columns n a e m low high =
      let there = numbered_at areas n a no_plan e in
      let same = there.2 in
      rw same at (page_in areas rows columns (n - 1) m (omega (arith, there.0, there.1)) low (rw same high))

-- ---- sums over areas

module _ (f : AreaPlan → ℕ) where
  pub over_left : (areas : List AreaPlan) (k : ℕ) → k < length areas
      → over_areas f (drop k areas) ≡ f (get_or areas k no_plan) + over_areas f (drop (k + 1) areas)
  unfolding over_areas
  over_left areas k h = rw (add-one, drop-cons areas k no_plan)

  pub over_within : (areas : List AreaPlan) (k : ℕ) → k < length areas → over_areas f (take k areas) + f (get_or areas k no_plan) ≤ over_areas f areas
  unfolding over_areas
  over_within [] k h = absurd (omega arith)
  over_within (a ∷ areas) zero h = omega arith
  over_within (a ∷ areas) (suc k) h = omega (arith, over_within areas k (omega arith))

-- ---- where the walk over the areas ends

-- at the page that has so many before it, after so many of the areas
record Found (k before : ℕ) (areas : List AreaPlan) (s : Spot) (steps : ℕ) : Type 0 where
  at_area : s.area ≡ k + steps
  among : steps < length areas
  passed : over_areas pages_in (take steps areas) + s.before ≡ before
  in_area : s.before < pages_in (get_or areas steps no_plan)
  found : spot_from k before areas ≡ Some s

-- past the last area, with n left
pub record Past (k before : ℕ) (areas : List AreaPlan) (n : ℕ) : Type 0 where
  pub passed : over_areas pages_in areas + n ≡ before
  pub missing : spot_from k before areas ≡ None

abbrev Walked : ℕ → ℕ → List AreaPlan → Result Spot ℕ → Type 0
Walked k before areas (Ok s) = (steps : ℕ) × Found k before areas s steps
Walked k before areas (Err n) = Past k before areas n

spot_on : (k before : ℕ) (a : AreaPlan) (areas : List AreaPlan) → pages_in a ≤ before
    → spot_from k before (a ∷ areas) ≡ spot_from (k + 1) (before - pages_in a) areas
unfolding spot_from
spot_on k before a areas h = rw (le-ltb before (pages_in a) h)

further : (k before : ℕ) (a : AreaPlan) (areas : List AreaPlan) → pages_in a ≤ before → (end : Result Spot ℕ)
    → Walked (k + 1) (before - pages_in a) areas end → Walked k before (a ∷ areas) end
unfolding over_areas
further k before a areas h (Ok s) (steps, w) = (
  suc steps,
  record {
    at_area = omega (arith, w.at_area);
    among = omega (arith, w.among);
    passed = omega (arith, w.passed);
    in_area = w.in_area;
    found = spot_on k before a areas h ∙ w.found;
  },
)
further k before a areas h (Err n) w = record { passed = omega (arith, w.passed); missing = spot_on k before a areas h ∙ w.missing }

walked : (k before : ℕ) (areas : List AreaPlan) → Walked k before areas (walk_from k before areas)
unfolding walk_from spot_from over_areas
walked k before [] = record { passed = omega arith; missing = refl }
walked k before (a ∷ areas) =
    split (pages_in a) before
    (λ h. rw (le-ltb before (pages_in a) h) (further k before a areas h _ (walked (k + 1) (before - pages_in a) areas)))
    (λ h.
    rw (lt-ltb before (pages_in a) h) (
      0,
      record {
        at_area = omega arith;
        among = omega arith;
        passed = omega arith;
        in_area = h;
        found = rw (lt-ltb before (pages_in a) h);
      },
    ))

-- the page where it ends, from the first area on
pub record Ends (before : ℕ) (areas : List AreaPlan) (s : Spot) : Type 0 where
  pub passed : over_areas pages_in (take s.area areas) + s.before ≡ before
  pub stands : Stands areas s
  pub found : spot_from 0 before areas ≡ Some s

module _ (before : ℕ) (areas : List AreaPlan) where
  pub walk_ends : (s : Spot) → walk_from 0 before areas ≡ Ok s → Ends before areas s
  walk_ends s q =
      let end : (steps : ℕ) × Found 0 before areas s steps = subst (Walked 0 before areas) q (walked 0 before areas) in
      let w = end.1 in
      let e : end.0 ≡ s.area = omega (arith, w.at_area) in
      record {
        passed = rw e at w.passed;
        stands = (rw e at w.among, rw e at w.in_area);
        found = w.found;
      }

  pub walk_past : (n : ℕ) → walk_from 0 before areas ≡ Err n → Past 0 before areas n
  walk_past n q = subst (Walked 0 before areas) q (walked 0 before areas)

  -- where there is no page all pages were taken off
  pub walk_all : (n : ℕ) → walk_from 0 before areas ≡ Err n → over_areas pages_in areas + n ≡ before
  walk_all n q = (walk_past n q).passed

  -- where there is one there are more pages than so many
  pub walk_more : (s : Spot) → walk_from 0 before areas ≡ Ok s → before < over_areas pages_in areas
  walk_more s q =
      let w = walk_ends s q in
      omega (arith, w.passed, w.stands.1, over_within pages_in areas s.area w.stands.0)

module _ (order : PageOrder) (areas : List AreaPlan) (rows columns : List ℕ) (before : ℕ) where
  -- the page where the walk ends has so many before it
  pub walk_page : (s : Spot) → walk_from 0 before areas ≡ Ok s
      → numbered (areas_pages order areas rows columns) (suc before) ≡ given (spot_page order areas rows columns s)
  walk_page s q =
      let w = walk_ends before areas s q in
      let inside = w.stands.1 in
      let e : suc before ≡ over_areas pages_in (take s.area areas) + suc s.before = omega (arith, w.passed) in
      ap (numbered (areas_pages order areas rows columns)) e
      ∙ page_in order areas rows columns s.area (suc s.before) w.stands.0 (omega arith) (omega (arith, inside))
      ∙ area_page_is order (get_or areas s.area no_plan) (after_runs (row_runs (take s.area areas)) rows)
      (after_runs (column_runs (take s.area areas)) columns) s.before inside

  pub walk_none : (n : ℕ) → walk_from 0 before areas ≡ Err n → numbered (areas_pages order areas rows columns) (suc before) ≡ refused 14
  walk_none n q =
      numbered_past (areas_pages order areas rows columns) (suc before)
      (omega (arith, areas_length order areas rows columns, walk_all before areas n q))

-- ---- the walk, area by area

module _ (all : List AreaPlan) (asked k before : ℕ) (w : walk_from k before (drop k all) ≡ walk_from 0 asked all) where
  pub walk_end : length all ≤ k → Err before ≡ walk_from 0 asked all
  unfolding walk_from
  walk_end h = rw (drop_of_length-le all h) at w

  module _ (a : AreaPlan) (h : k < length all) (e : get_or all k no_plan ≡ a) where
    pub walk_here : before < pages_in a → Ok (record { area = k; before = before }) ≡ walk_from 0 asked all
    unfolding walk_from
    walk_here g = rw (drop-cons all k no_plan h, e, lt-ltb before (pages_in a) g) at w

    pub walk_on : pages_in a ≤ before → walk_from (k + 1) (before - pages_in a) (drop (k + 1) all) ≡ walk_from 0 asked all
    unfolding walk_from
    walk_on g = rw (add-one k) (rw (drop-cons all k no_plan h, e, le-ltb before (pages_in a) g, add-one k) at w)

-- ---- 11, area by area

-- what is left of a room
room_left : (a s r : ℕ) → a ≤ r → leb s (r - a) ≡ leb (a + s) r
room_left a s r h =
    split s (r - a) (λ l. le-leb s (r - a) l ∙ sym (le-leb (a + s) r (omega arith))) (λ l. lt-leb s (r - a) l ∙ sym (lt-leb (a + s) r (omega arith)))

module _ (all : List AreaPlan) (k rows columns : ℕ) where
  pub held_end : length all ≤ k → runs_held (drop k all) rows columns ≡ true
  unfolding runs_held over_areas
  held_end h = rw (drop_of_length-le all h, le-leb 0 rows (omega arith), le-leb 0 columns (omega arith))

  module _ (a : AreaPlan) (h : k < length all) (e : get_or all k no_plan ≡ a) where
    abbrev row_rest : ℕ
    row_rest = row_runs (drop (k + 1) all)

    abbrev column_rest : ℕ
    column_rest = column_runs (drop (k + 1) all)

    next_rows : row_runs (drop k all) ≡ a.row_runs + row_rest
    next_rows = rw e at (over_left (λ (a : AreaPlan). a.row_runs) all k h)

    next_columns : column_runs (drop k all) ≡ a.column_runs + column_rest
    next_columns = rw e at (over_left (λ (a : AreaPlan). a.column_runs) all k h)

    pub held_on : a.row_runs ≤ rows → a.column_runs ≤ columns
        → runs_held (drop (k + 1) all) (rows - a.row_runs) (columns - a.column_runs) ≡ runs_held (drop k all) rows columns
    unfolding runs_held
    held_on r c =
        rw (next_rows, next_columns, room_left a.row_runs row_rest rows r, room_left a.column_runs column_rest columns c)

    pub held_few_rows : rows < a.row_runs → false ≡ runs_held (drop k all) rows columns
    unfolding runs_held
    held_few_rows r = let l : rows < row_runs (drop k all) = omega (arith, next_rows) in rw (lt-leb (row_runs (drop k all)) rows l)

    pub held_few_columns : columns < a.column_runs → false ≡ runs_held (drop k all) rows columns
    unfolding runs_held
    held_few_columns c =
        let l : columns < column_runs (drop k all) = omega (arith, next_columns) in
        rw (lt-leb (column_runs (drop k all)) columns l) (sym (and-false (leb (row_runs (drop k all)) rows)))
