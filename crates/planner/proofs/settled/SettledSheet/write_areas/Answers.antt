-- A turn writes the runs of the first of the areas that are left.
use borrow.Rule.Slice.PartMut.{put_mid}
use Rattle.std.proofs.Common.{◌≡◌, ℕ, suc, ◌+◌, ◌-◌, ◌*◌, ◌≤◌, List, [], ◌∷◌, ◌++◌, ◌⊎◌, inl, inr, map, length, refl, sym, ◌∙◌, arith, rules}
use Rattle.std.specs.Iterator.Adapters.{zip_first, zip_second}
use Rattle.std.specs.Slice.Iter.{iter_rest}
use Rattle.std.proofs.lemmas.Slice.Zip.{either_empty_from_Zip}
use Rattle.planner_rules.specs.declared.pages.AreaPlan.{AreaPlan}
use Rattle.planner_rules.specs.declared.planning.PrintRange.{PrintRange}
use Rattle.planner_rules.specs.declared.planning.Shared.{Shared}
use Rattle.planner_rules.specs.Runs.{Run}
use Rattle.planner_rules.specs.Slots.{written}
use Rattle.planner_rules.specs.Lent.{flat, Room, RoomAt, WrittenAt, run_numbers}
use Rattle.planner_rules.specs.Pages.{joined}
use Rattle.planner_rules.specs.Asked.{sheet_by}
use Rattle.planner_rules.specs.Plan.{Sheet, rows_in, columns_in, chosen_scale, AreaLayout, plan_in, area_layout, layouts_of, row_runs_of, column_runs_of}
use Rattle.planner_rules.specs.Steps.{sides_in, FineAreas, Writable, rows_at, columns_at}
use Rattle.planner_rules.proofs.Laws.{part, length_part}
use Rattle.planner_rules.proofs.Lent.{flat-length, Writing, writing_start, writing_more, writing_room, writing_done}
use Rattle.planner_rules.proofs.AreaLaws.{as_long, writable, rows_put, columns_put}
use Rattle.planner.proofs.settled.SettledSheet.write_areas.Goals as goal

-- of an axis: the runs of the first area, of which there are n, are written before those of the others
module _ (f : AreaLayout → List Run) (l : AreaLayout) (ls : List AreaLayout) (n : ℕ) (long : length (f l) ≡ n) (all : List Run) (old : List ℕ) (at : ℕ)
    (new : List ℕ) (room : Room all old) (w : Writing all old at (joined (map f (l ∷ ls))) new) where
  first : Writing all old at (f l ++ joined (map f ls)) new
  unfolding joined
  first = w

  has_room : RoomAt (f l) at new
  has_room = writing_room _ _ at _ _ _ room first

  fits : at + n * 4 ≤ length new
  fits = omega (arith, flat-length (f l), has_room, long)

  next : (new' : List ℕ) → WrittenAt (f l) at (n * run_numbers) new new' → Writing all old (at + n * 4) (joined (map f ls)) new'
  next new' e = writing_more _ _ at _ _ new _ new' has_room e first

-- the first of the areas that are left, and what it came to
module _ (x : Shared) (s : Sheet) {left gs : List PrintRange} {g : PrintRange} {came as' : List AreaPlan} {a : AreaPlan}
    (eg : left ≡ g ∷ gs) (ea : came ≡ a ∷ as') (e : came ≡ map plan_in (layouts_of (sides_in x) s left)) where
  abbrev laid : AreaLayout
  laid = area_layout (sides_in x) s g

  abbrev others : List AreaLayout
  others = layouts_of (sides_in x) s gs

  both : a ∷ as' ≡ plan_in laid ∷ map plan_in others
  both = rw (eg, ea) at e

  came_to : a ≡ plan_in laid
  came_to = let h = both in cc

  others_came : as' ≡ map plan_in others
  others_came = let h = both in cc

  lengths : (length laid.rows ≡ a.row_runs) × (length laid.columns ≡ a.column_runs)
  unfolding area_layout
  lengths = as_long x s g (chosen_scale s.settings (sides_in x) (rows_in s g) (columns_in s g)) a came_to

  module _ (all : List Run) (old : List ℕ) (at : ℕ) (new : List ℕ) (room : Room all old) where
    row_room : Writing all old at (row_runs_of (layouts_of (sides_in x) s left)) new → (RoomAt laid.rows at new) × (at + a.row_runs * 4 ≤ length new)
    row_room w =
        let v = rw eg at w in (
          has_room (λ l. l.rows) laid others a.row_runs lengths.0 all old at new room v,
          fits (λ l. l.rows) laid others a.row_runs lengths.0 all old at
              new room v,
        )

    column_room : Writing all old at (column_runs_of (layouts_of (sides_in x) s left)) new
        → (RoomAt laid.columns at new) × (at + a.column_runs * 4 ≤ length new)
    column_room w =
        let v = rw eg at w in (
          has_room (λ l. l.columns) laid others a.column_runs lengths.1 all old at new room v,
          fits (λ l. l.columns) laid others a.column_runs lengths.1 all old at new room v,
        )

    rows_next : Writing all old at (row_runs_of (layouts_of (sides_in x) s left)) new → (new' : List ℕ)
        → new' ≡ written (flat (rows_at x s g a.permille)) (part at new)
        → Writing all old (at + a.row_runs * 4) (row_runs_of others) (put_mid at (length new - at) new new')
    unfolding area_layout
    rows_next w new' h =
        next (λ l. l.rows) laid others a.row_runs lengths.0 all old at new room (rw eg at w) _
        (rows_put x s g (chosen_scale s.settings (sides_in x) (rows_in s g) (columns_in s g)) a came_to at new new' h)

    columns_next : Writing all old at (column_runs_of (layouts_of (sides_in x) s left)) new → (new' : List ℕ)
        → new' ≡ written (flat (columns_at x s g a.permille)) (part at new)
        → Writing all old (at + a.column_runs * 4) (column_runs_of others) (put_mid at (length new - at) new new')
    unfolding area_layout
    columns_next w new' h =
        next (λ l. l.columns) laid others a.column_runs lengths.1 all old at new room (rw eg at w) _
        (columns_put x s g (chosen_scale s.settings (sides_in x) (rows_in s g) (columns_in s g)) a came_to at new new' h)

  can_write : (row_at column_at : ℕ) (rows columns : List ℕ) → RoomAt laid.rows row_at rows → RoomAt laid.columns column_at columns
      → Writable x s g a (part row_at rows) (part column_at columns)
  unfolding area_layout
  can_write row_at column_at rows columns hr hc =
      writable x s g (chosen_scale s.settings (sides_in x) (rows_in s g) (columns_in s g)) a came_to _ _
      (omega (arith, hr, length_part row_at rows)) (omega (arith, hc, length_part column_at columns))

-- the others are fine too
others_fine : (g : PrintRange) (gs : List PrintRange) → FineAreas (g ∷ gs) → FineAreas gs
others_fine g gs fine = record { few = omega (arith, fine.few); each = λ k h. fine.each (suc k) (omega (arith, h)) }

-- past the last, nothing is left to be written
none_came : (x : Shared) (s : Sheet) (left : List PrintRange) (came : List AreaPlan) → came ≡ map plan_in (layouts_of (sides_in x) s left)
    → (left ≡ []) ⊎ (came ≡ []) → layouts_of (sides_in x) s left ≡ []
none_came x s [] came e h = refl
none_came x s (g ∷ left) came e (inl h) = cc
none_came x s (g ∷ left) came e (inr h) = let i : [] ≡ map plan_in (layouts_of (sides_in x) s (g ∷ left)) = sym h ∙ e in cc

module _ (all : List Run) (old : List ℕ) (at : ℕ) (new : List ℕ) where
  all_written : (f : AreaLayout → List Run) (ls : List AreaLayout) → ls ≡ [] → Writing all old at (joined (map f ls)) new → new ≡ written (flat all) old
  unfolding joined
  all_written f ls e w = (writing_done all old at new (rw e at w)).list_is

pub loop-range-init : goal.loop-range-init
loop-range-init c =
    let all : iter_rest (zip_first c.into_iter-range-iterator.result) ≡ c.args.self.now.areas.now = search rules in
    let came : iter_rest (zip_second c.into_iter-range-iterator.result) ≡ c.args.plans.now = search rules in
    rw (all, came) (record {
      fine = c.args.self.now.fine;
      plans_are = c.requires.counted.0;
      rows = writing_start _ _;
      columns = writing_start _ _;
    })

pub ready-requires : goal.ready-requires
ready-requires c = record { fine_area = (rw c.in-Some.ensures.steps.0 at c.loop-range.invariant.fine).each 0 (omega arith) }

pub write-requires : goal.write-requires
write-requires c =
    let x = c.args.self.now.shared.now in
    let s = sheet_by x c.args.self.now.lists.now in
    let l = c.loop-range in
    let by = c.in-Some.ensures.steps in
    let q = c.requires.counted.1 in
    let of = c.ready.ensures in
    let rows = row_room x s by.0 by.1 l.invariant.plans_are _ _ l.row_at _ q.row_room l.invariant.rows in
    let columns = column_room x s by.0 by.1 l.invariant.plans_are _ _ l.column_at _ q.column_room l.invariant.columns in
    record { writable = rw (of.sheet_is, of.range_is) (can_write x s by.0 by.1 l.invariant.plans_are l.row_at l.column_at _ _ rows.0 columns.0) }

pub overflow_mul-row_at : goal.overflow_mul-row_at
overflow_mul-row_at c =
    let x = c.args.self.now.shared.now in
    let by = c.in-Some.ensures.steps in
    let l = c.loop-range in
    let rows = row_room x (sheet_by x c.args.self.now.lists.now) by.0 by.1 l.invariant.plans_are _ _ l.row_at _ c.requires.counted.1.row_room
    l.invariant.rows in
    omega (arith, rows.1)

pub overflow_add-row_at : goal.overflow_add-row_at
overflow_add-row_at c =
    let x = c.args.self.now.shared.now in
    let by = c.in-Some.ensures.steps in
    let l = c.loop-range in
    let rows = row_room x (sheet_by x c.args.self.now.lists.now) by.0 by.1 l.invariant.plans_are _ _ l.row_at _ c.requires.counted.1.row_room
    l.invariant.rows in
    omega (arith, rows.1)

pub overflow_mul-column_at : goal.overflow_mul-column_at
overflow_mul-column_at c =
    let x = c.args.self.now.shared.now in
    let by = c.in-Some.ensures.steps in
    let l = c.loop-range in
    let columns = column_room x (sheet_by x c.args.self.now.lists.now) by.0 by.1 l.invariant.plans_are _ _ l.column_at _
    c.requires.counted.1.column_room l.invariant.columns in
    omega (arith, columns.1)

pub overflow_add-column_at : goal.overflow_add-column_at
overflow_add-column_at c =
    let x = c.args.self.now.shared.now in
    let by = c.in-Some.ensures.steps in
    let l = c.loop-range in
    let columns = column_room x (sheet_by x c.args.self.now.lists.now) by.0 by.1 l.invariant.plans_are _ _ l.column_at _
    c.requires.counted.1.column_room l.invariant.columns in
    omega (arith, columns.1)

pub loop-range-preserved : goal.loop-range-preserved
loop-range-preserved c =
    let x = c.args.self.now.shared.now in
    let s = sheet_by x c.args.self.now.lists.now in
    let l = c.loop-range in
    let by = c.in-Some.ensures.steps in
    let q = c.requires.counted.1 in
    let of = c.ready.ensures in
    let put = rw (of.sheet_is, of.range_is) at c.write.ensures in
    record {
      fine = others_fine _ _ (rw by.0 at l.invariant.fine);
      plans_are = others_came x s by.0 by.1 l.invariant.plans_are;
      rows = rows_next x s by.0 by.1 l.invariant.plans_are _ _ l.row_at _ q.row_room l.invariant.rows _ put.0;
      columns = columns_next x s by.0 by.1 l.invariant.plans_are _ _ l.column_at _ q.column_room l.invariant.columns _ put.1;
    }

pub returns : goal.returns
returns c =
    let x = c.args.self.now.shared.now in
    let l = c.loop-range in
    let ended = either_empty_from_Zip _ c.next.new.self _ c.in-None.is c.next.ensures.steps in
    let none = none_came x (sheet_by x c.args.self.now.lists.now) _ _ l.invariant.plans_are ended in
    (all_written _ _ l.row_at _ (λ k. k.rows) _ none l.invariant.rows, all_written _ _ l.column_at _ (λ k. k.columns) _ none l.invariant.columns)
