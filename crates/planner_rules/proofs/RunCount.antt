-- An axis has no more runs than slots, and lent lists as long as the slots hold them: question 11. Assumes nothing.
use mathlib.Core.Path.{◌≡◌, refl, sym, ◌∙◌}
use mathlib.Core.Logic.{inl, inr}
use mathlib.Core.List.{List, [], ◌∷◌, map}
use Prim.Native.Nat.{ℕ, zero, suc, ◌*◌, ◌≤◌}
use native.Mathlib.Omega.{arith}
use lib.Dec.{leb}
use lib.IntN.{ℤ}
use lib.ListN.{length, length-map, length-append}
use borrow.Author.Tests.{le-leb}
use Rattle.units.specs.Outcome.{given, refused, and_then}
use Rattle.planner_rules.specs.declared.planning.PrintRange.{PrintRange}
use Rattle.planner_rules.specs.Slots.{sum}
use Rattle.planner_rules.specs.Runs.{Run}
use Rattle.planner_rules.specs.Scale.{frame_for}
use Rattle.planner_rules.specs.Lent.{room_in}
use Rattle.planner_rules.specs.Pages.{joined, numbered}
use Rattle.planner_rules.specs.Plan.{AxisInput, Sheet, Sides, rows_in, columns_in, body_of, space_on, cut_runs, page_runs, AreaLayout, area_at, area_layout}
use Rattle.planner_rules.specs.Plan.{layouts_of, row_runs_of, column_runs_of, layout, within_limit, room_for, planned, scale_at, area_room, area_written}
use Rattle.planner_rules.specs.Division.{◌∈◌, Division}
use Rattle.planner_rules.specs.Demand.{body_indexes, body_sizes}
use Rattle.planner_rules.proofs.CutLaws.{few_runs}
use Rattle.planner_rules.proofs.PlanLaws.{formed_of, asks_number}
use Rattle.planner_rules.proofs.Whole.{axis_division}
use Rattle.planner_rules.proofs.BodyLaws.{body_even, body_few}
use Rattle.planner_rules.proofs.NoTen.{among, asked, not_given, past_nine}

-- each run has a slot
sum_most : (ns : List ℕ) → ((m : ℕ) → m ∈ ns → 1 ≤ m) → length ns ≤ sum ns
unfolding sum
sum_most [] h = omega arith
sum_most (n ∷ ns) h =
    let a = h n (inl refl) in
    let b = sum_most ns (λ m i. h m (inr i)) in
    omega arith

division_few : (n : ℕ) (ns : List ℕ) → Division n ns → length ns ≤ n
division_few n ns d = let a = sum_most ns d.nonempty in let b = d.whole in omega arith

module _ (a : AxisInput) (even : length a.indexes ≡ length a.sizes) (side : ℤ) (p : ℕ) where
  cut_few : length (cut_runs side a p) ≤ length a.indexes
  unfolding cut_runs body_of
  cut_few =
      let d = division_few _ _
      (axis_division (frame_for (space_on side a) (body_of a) p) a.merge_firsts a.merge_lasts (body_indexes a) (body_sizes a) a.breaks
      (body_even a even)) in
      omega (arith, length-map (cut_runs side a p) (λ (r : Run). r.slots), body_even a even, body_few a, d)

  -- no more runs than slots, and one where there are no slots
  pub page_runs_few : (n : ℕ) → length a.indexes ≤ n → 1 ≤ n → length (page_runs side a p) ≤ n
  unfolding page_runs
  page_runs_few n h k = few_runs a.first (cut_runs side a p) n (omega (arith, cut_few)) k

-- ---- the plan call

-- as many runs an area
runs_few : (f : AreaLayout → List Run) (c : Sides) (s : Sheet) (m : ℕ) → ((g : PrintRange) → length (f (area_layout c s g)) ≤ m) → (gs : List PrintRange)
    → length (joined (map f (layouts_of c s gs))) ≤ length gs * m
unfolding joined
runs_few f c s m h [] = omega arith
runs_few f c s m h (g ∷ gs) =
    omega (arith, length-append (f (area_layout c s g)) (joined (map f (layouts_of c s gs))), h g, runs_few f c s m h gs)

-- 11 of runs that have room
room_not_eleven : (l : AreaLayout) (row_room column_room : ℕ) → length l.rows ≤ row_room → length l.columns ≤ column_room
    → area_room l row_room column_room ≡ refused 11 → ⊥
room_not_eleven l row_room column_room hr hc e =
    not_given l 11 (rw (le-leb (length l.rows) row_room hr, le-leb (length l.columns) column_room hc) at e)

module _ (s : Sheet) (areas : List PrintRange) (rows columns : List ℕ) where
  -- lists with room for as many runs as slots, for each area, never meet 11
  pub never_eleven : (m n : ℕ) → length s.row_indexes ≤ m → 1 ≤ m → length areas * m ≤ room_in rows
      → length s.column_indexes ≤ n → 1 ≤ n → length areas * n ≤ room_in columns → planned s areas rows columns ≡ refused 11 → ⊥
  unfolding planned room_for within_limit layout area_layout area_at among
  never_eleven m n ra oa ha rb ob hb e =
      let w = past_nine s areas _ 11 refl e in
      let gs = areas in
      let even = formed_of s gs w.yes.six in
      let c = w.sides in
      let ls = layouts_of c s gs in
      let fr : length (row_runs_of ls) ≤ room_in rows =
      omega (arith, runs_few (λ (l : AreaLayout). l.rows) c s m (λ g. page_runs_few (rows_in s g) even.rows_even c.height _ m ra oa) gs) in
      let fc : length (column_runs_of ls) ≤ room_in columns =
      omega (arith, runs_few (λ (l : AreaLayout). l.columns) c s n (λ g. page_runs_few (columns_in s g) even.columns_even c.width _ n rb ob) gs) in
      let l = layout c s gs in
      let few = leb l.plan.pages s.settings.page_limit in
      not_given l 11 (asked 12 11 few (given l) (λ i. omega arith)
      (rw (le-leb (length (row_runs_of ls)) (room_in rows) fr, le-leb (length (column_runs_of ls)) (room_in columns) fc) at w.after)).1

  -- one area's lists as long as the slots, with room for one run, never meet 11
  pub area_never_eleven : (n p : ℕ) → 1 ≤ p → length s.row_indexes ≤ room_in rows → 1 ≤ room_in rows → length s.column_indexes ≤ room_in columns
      → 1 ≤ room_in columns → area_written s areas n p rows columns ≡ refused 11 → ⊥
  unfolding area_written numbered area_at among
  area_never_eleven n p h ra oa rb ob e =
      let w = past_nine s areas _ 11 refl e in
      let even = formed_of s areas w.yes.six in
      let c = w.sides in
      go areas n (λ (g : PrintRange). area_at c (rows_in s g) (columns_in s g) (scale_at p))
      (λ g. page_runs_few (rows_in s g) even.rows_even c.height p (room_in rows) ra oa)
      (λ g. page_runs_few (columns_in s g) even.columns_even c.width p (room_in columns) rb ob)
      (sym (asks_number c s areas n p rows columns h) ∙ w.after)
    where
      go : (xs : List PrintRange) (k : ℕ) (f : PrintRange → AreaLayout) → ((g : PrintRange) → length (f g).rows ≤ room_in rows)
          → ((g : PrintRange) → length (f g).columns ≤ room_in columns)
          → and_then (numbered xs k) (λ (g : PrintRange). area_room (f g) (room_in rows) (room_in columns)) ≡ refused 11 → ⊥
      go [] k f hr hc q = let z : ◌≡◌ {A = ℕ} 14 11 = cc in omega arith
      go (x ∷ xs) zero f hr hc q = let z : ◌≡◌ {A = ℕ} 14 11 = cc in omega arith
      go (x ∷ xs) (suc zero) f hr hc q = room_not_eleven (f x) (room_in rows) (room_in columns) (hr x) (hc x) q
      go (x ∷ xs) (suc (suc k)) f hr hc q = go xs (suc k) f hr hc q
