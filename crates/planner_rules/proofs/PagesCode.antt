-- Laws of `specs/Pages.antt`'s definitions, for the functions of crate `planner_pages`. Assumes nothing.
use mathlib.Core.Path.{◌≡◌, refl, sym, ap, subst, ◌∙◌}
use mathlib.Core.Bool.{Bool, true, false, and-false}
use mathlib.Core.List.{List}
use Prim.Native.Nat.{ℕ, suc, ◌+◌, ◌-◌, ◌*◌, ◌/◌, ◌≤◌, ◌<◌}
use native.Mathlib.Nat.{div-lt_iff_lt-mul}
use native.Mathlib.Omega.{arith}
use lib.Dec.{leb, ltb}
use lib.ListN.{get_or}
use lib.Seq.{get_or-drop}
use borrow.Author.Tests.{lt-ltb, le-ltb, le-leb, lt-leb, leb-true}
use Rattle.units.specs.Outcome.{given, refused}
use Rattle.planner_rules.specs.declared.pages.AreaPlan.{AreaPlan}
use Rattle.std.specs.Prelude.{Option, Some, None, Result, Ok, Err}
use Rattle.planner_rules.specs.declared.pages.PageOrder.{PageOrder}
use Rattle.planner_rules.specs.declared.pages.PageRun.{PageRun}
use Rattle.planner_rules.specs.declared.pages.Place.{Place}
use Rattle.planner_rules.specs.declared.pages.Plan.{Plan}
use Rattle.planner_rules.specs.declared.pages.Spot.{Spot}
use Rattle.planner_rules.specs.Areas.{plans_in}
use Rattle.planner_rules.specs.Lent.{run_numbers, room_in, number_at}
use Rattle.planner_rules.specs.Pages.{run_at, page_at, pages_in, area_pages, after_runs, areas_pages, pages_of, row_runs, column_runs}
use Rattle.planner_rules.specs.Pages.{runs_held, holds_runs, numbered, page_numbered, spot_from, spot_of, area_numbered, place_of}
use Rattle.planner_rules.specs.Pages.{area_page_after, walk_from, Stands, spot_page}
use Rattle.planner_rules.proofs.PageLaws.{numbered_zero, numbered_take, numbered_take_past}
use Rattle.planner_rules.proofs.AreaPages.{area_page_is, area_page_none, walk_ends, walk_past, walk_page, walk_none}
use Rattle.planner_rules.proofs.Laws.{split}
use Rattle.std.proofs.lemmas.Bool.{and_parts}

-- ---- the place of a page

module _ (rows columns before : ℕ) where
  pub by_division : 0 < rows → ltb (before / rows) columns ≡ ltb before (rows * columns)
  by_division k =
      split (rows * columns) before
      (λ g.
      le-ltb (before / rows) columns (split columns (before / rows) (λ l. l) (λ l. absurd (omega (arith, (div-lt_iff_lt-mul k).0 l))))
      ∙ sym (le-ltb before (rows * columns) g))
      (λ g.
      let l : before < columns * rows = omega arith in
      lt-ltb (before / rows) columns ((div-lt_iff_lt-mul k).1 l) ∙ sym (lt-ltb before (rows * columns) g))

-- a run by its number among those after the first n
run_after : (n k : ℕ) (l : List ℕ) (empty : Bool) → run_at l empty (n + k) ≡ run_at (after_runs n l) empty k
run_after n k l empty =
    rw (number 0, number 1, number 2, number 3)
  where
    number : (at : ℕ) → number_at l (n + k) at ≡ number_at (after_runs n l) k at
    number at =
        let e : run_numbers * (n + k) + at ≡ run_numbers * n + (run_numbers * k + at) = omega arith in
        ap (λ (i : ℕ). get_or l i 0) e ∙ sym (get_or-drop (run_numbers * n) l (run_numbers * k + at) 0)

-- two runs at a place are its page
pub page_there : (order : PageOrder) (a : AreaPlan) (rows columns : List ℕ) (above left before : ℕ) (k : Place) (r c : PageRun)
    → k ≡ place_of order a.row_runs a.column_runs before
    → r ≡ run_at rows a.rows_empty (above + k.vertical) → c ≡ run_at columns a.columns_empty (left + k.horizontal)
    → record { vertical = k.vertical; horizontal = k.horizontal; rows = r; columns = c }
    ≡ area_page_after order a (after_runs above rows) (after_runs left columns) before
unfolding area_page_after
page_there order a rows columns above left before k r c e er ec =
    rw (er, ec, run_after above k.vertical rows a.rows_empty, run_after left k.horizontal columns a.columns_empty)
    (ap (λ (q : Place). page_at (after_runs above rows) (after_runs left columns) a q.vertical q.horizontal) e)

-- ---- an area's own page by its number, way by way

module _ (order : PageOrder) (a : AreaPlan) (rows columns : List ℕ) (n : ℕ) where
  module _ (r : a.row_runs ≤ room_in rows) (c : a.column_runs ≤ room_in columns) where
    held : numbered (area_pages order a rows columns) n ≡ area_numbered order a rows columns n
    unfolding area_numbered
    held = rw (le-leb a.row_runs (room_in rows) r, le-leb a.column_runs (room_in columns) c)

    pub area_zero : n ≡ 0 → refused 14 ≡ area_numbered order a rows columns n
    area_zero e = sym (numbered_zero (area_pages order a rows columns)) ∙ ap (numbered (area_pages order a rows columns)) (sym e) ∙ held

    module _ (low : 1 ≤ n) where
      pub area_past : pages_in a ≤ n - 1 → refused 14 ≡ area_numbered order a rows columns n
      area_past h = sym (area_page_none order a rows columns n (omega arith)) ∙ held

      pub area_found : n - 1 < pages_in a → given (area_page_after order a rows columns (n - 1)) ≡ area_numbered order a rows columns n
      area_found h =
          let e : suc (n - 1) ≡ n = omega arith in
          sym (area_page_is order a rows columns (n - 1) h) ∙ ap (numbered (area_pages order a rows columns)) e ∙ held

-- ---- the spot of a page

module _ (p : Plan) (n : ℕ) where
  abbrev areas : List AreaPlan
  areas = plans_in p.areas

  abbrev end : Result Spot ℕ
  end = walk_from 0 (n - 1) areas

  pub spot_zero : n ≡ 0 → None ≡ spot_of p n
  unfolding spot_of
  spot_zero e = let l : n < 1 = omega arith in rw (lt-leb 1 n l)

  pub spot_past : p.pages < n → None ≡ spot_of p n
  unfolding spot_of
  spot_past h = rw (lt-leb n p.pages h, and-false (leb 1 n))

  module _ (low : 1 ≤ n) (high : n ≤ p.pages) where
    spot_in_lem : spot_from 0 (n - 1) areas ≡ spot_of p n
    unfolding spot_of
    spot_in_lem = rw (le-leb 1 n low, le-leb n p.pages high)

    pub spot_found : (s : Spot) → end ≡ Ok s → Some s ≡ spot_of p n
    spot_found s q = sym (walk_ends (n - 1) areas s q).found ∙ spot_in_lem

    pub spot_missing : (m : ℕ) → end ≡ Err m → None ≡ spot_of p n
    spot_missing m q = sym (walk_past (n - 1) areas m q).missing ∙ spot_in_lem

-- ---- one page of a plan by its number

-- 11 says that the lists have room
pub rooms_of : (p : Plan) (rows columns : List ℕ) → holds_runs p rows columns ≡ true
    → (row_runs (plans_in p.areas) ≤ room_in rows) × (column_runs (plans_in p.areas) ≤ room_in columns)
unfolding runs_held
rooms_of p rows columns h =
    let rows_wanted = row_runs (plans_in p.areas) in
    let columns_wanted = column_runs (plans_in p.areas) in
    let rooms = and_parts (leb rows_wanted (room_in rows)) (leb columns_wanted (room_in columns)) h in
    (leb-true rows_wanted (room_in rows) rooms.0, leb-true columns_wanted (room_in columns) rooms.1)

-- the page that is asked for stands at a spot
abbrev Answered : Plan → List ℕ → List ℕ → ℕ → Spot → Type 0
Answered p rows columns n s =
    let areas = (plans_in p.areas) in
    Stands areas s × (numbered (pages_of p rows columns) n ≡ given (spot_page p.order areas rows columns s))

-- what a spot, or that there is none, says of that page
record Answers (p : Plan) (rows columns : List ℕ) (n : ℕ) (f : Option Spot) : Type 0 where
  found : (s : Spot) → f ≡ Some s → Answered p rows columns n s
  missing : f ≡ None → numbered (pages_of p rows columns) n ≡ refused 14

module _ (p : Plan) (rows columns : List ℕ) (n : ℕ) where
  abbrev there : Option Spot → Type 0
  there = Answers p rows columns n

  none : numbered (pages_of p rows columns) n ≡ refused 14 → there None
  none e = record { found = λ s q. absurd (cc); missing = λ q. e }

  one : (s : Spot) → Answered p rows columns n s → there (Some s)
  one s h = record { found = λ t q. subst (Answered p rows columns n) (cc) h; missing = λ q. absurd (cc) }

  module _ (low : 1 ≤ n) (high : n ≤ p.pages) where
    same : numbered (pages_of p rows columns) n ≡ numbered (areas_pages p.order (areas p n) rows columns) (suc (n - 1))
    unfolding pages_of
    same =
        let all = areas_pages p.order (areas p n) rows columns in
        let e : suc (n - 1) ≡ n = omega arith in
        numbered_take p.pages all n high ∙ ap (numbered all) (sym e)

    ended : (r : Result Spot ℕ) → end p n ≡ r → there (spot_of p n)
    ended (Ok s) q =
        subst there (spot_found p n low high s q)
        (one s ((walk_ends (n - 1) (areas p n) s q).stands, same ∙ walk_page p.order (areas p n) rows columns (n - 1) s q))
    ended (Err m) q = subst there (spot_missing p n low high m q) (none (same ∙ walk_none p.order (areas p n) rows columns (n - 1) m q))

  answers : there (spot_of p n)
  unfolding pages_of
  answers =
      split 1 n
      (λ low.
      split n p.pages (λ high. ended low high (end p n) refl)
      (λ high.
      subst there (spot_past p n high)
      (none (numbered_take_past p.pages (areas_pages p.order (areas p n) rows columns) n high))))
      (λ low. let e : n ≡ 0 = omega arith in subst there (spot_zero p n e) (none (rw e (numbered_zero (pages_of p rows columns)))))

  pub page_few : holds_runs p rows columns ≡ false → refused 11 ≡ page_numbered p rows columns n
  unfolding page_numbered
  page_few h = rw h

  module _ (h : holds_runs p rows columns ≡ true) (f : Option Spot) (e : f ≡ spot_of p n) where
    asked : numbered (pages_of p rows columns) n ≡ page_numbered p rows columns n
    unfolding page_numbered
    asked = rw h

    pub page_missing : f ≡ None → refused 14 ≡ page_numbered p rows columns n
    page_missing q = sym (answers.missing (sym e ∙ q)) ∙ asked

    module _ (s : Spot) (q : f ≡ Some s) where
      pub page_stands : Stands (plans_in p.areas) s
      page_stands = (answers.found s (sym e ∙ q)).0

      pub page_found : given (spot_page p.order (plans_in p.areas) rows columns s) ≡ page_numbered p rows columns n
      page_found = sym (answers.found s (sym e ∙ q)).1 ∙ asked
