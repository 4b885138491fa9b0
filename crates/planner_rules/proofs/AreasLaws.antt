-- Laws of the loops over all areas: one that counts them, and one that writes their runs. Assumes nothing.
use mathlib.Core.Path.{◌≡◌, sym, ap, ◌∙◌}
use mathlib.Core.List.{List, [], ◌∷◌, ◌++◌, map}
use Prim.Native.Nat.{ℕ, ◌+◌, ◌<◌}
use native.Mathlib.Numerals.{add-one}
use native.Mathlib.Omega.{arith}
use lib.ListN.{length, get_or, take, length-append}
use lib.Seq.{take-suc}
use Rattle.planner_rules.specs.declared.pages.AreaPlan.{AreaPlan}
use Rattle.planner_rules.specs.declared.planning.PrintRange.{PrintRange}
use Rattle.planner_rules.specs.declared.planning.AreaNotes.{AreaNotes}
use Rattle.planner_rules.specs.declared.planning.CountedArea.{CountedArea}
use Rattle.planner_rules.specs.declared.planning.CountedAreas.{CountedAreas}
use Rattle.planner_rules.specs.Areas.{no_range, no_plan, held_plans, pushed, over_areas}
use Rattle.planner_rules.specs.Pages.{pages_in}
use Rattle.planner_rules.specs.Plan.{Sheet, Sides, AreaLayout, plan_in, noted, as_count, area_layout, layouts_of}
use Rattle.planner_rules.specs.Steps.{counted_of, Added, FewAll}
use Rattle.planner_rules.proofs.AreaLists.{held_more}
use Rattle.std.proofs.lemmas.List.{map_push}

-- ---- lists with one more

over_more : {A : Type 0} (f : A → ℕ) (xs : List A) (x : A) → over_areas f (xs ++ x ∷ []) ≡ over_areas f xs + f x
unfolding over_areas
over_more f [] x = omega arith
over_more f (y ∷ xs) x = omega (arith, over_more f xs x)

-- ---- counted areas

pub few_none : FewAll (counted_of [])
unfolding over_areas
few_none = record {
  rows_few = omega arith;
  columns_few = omega arith;
  pages_few = omega arith;
  clamped_few = omega arith;
  unreachable_few = omega arith;
  expansions_few = omega arith;
  overflows_few = omega arith;
}

-- areas as a plan holds them, and one more
plans_more : (xs : List AreaPlan) (x : AreaPlan) → pushed (held_plans xs) x ≡ held_plans (xs ++ x ∷ [])
plans_more xs x =
    let count : length xs + 1 ≡ length (xs ++ x ∷ []) = omega (arith, length-append xs (x ∷ [])) in
    let plans = held_more no_plan xs x in
    λ i. record { count = count i; plans = plans i }

-- one more
counted_more : (ls : List AreaLayout) (l : AreaLayout) (r : CountedAreas) → Added r (counted_of ls) l.counted → r ≡ counted_of (ls ++ l ∷ [])
counted_more ls l r w =
    let areas : r.areas ≡ held_plans (map plan_in (ls ++ l ∷ [])) =
    w.plans_are ∙ plans_more (map plan_in ls) (plan_in l) ∙ ap held_plans (sym (map_push plan_in ls l)) in
    let sums : (f : AreaLayout → ℕ) (n : ℕ) → n ≡ over_areas f ls + f l → n ≡ over_areas f (ls ++ l ∷ []) = λ f n e. e ∙ sym (over_more f ls l) in
    let note : (f : AreaNotes → ℕ) (n : ℕ) → n ≡ noted f ls + f l.counted.notes → n ≡ noted f (ls ++ l ∷ []) =
    λ f n e. sums (λ (k : AreaLayout). f k.counted.notes) n e in
    let rows = sums (λ (k : AreaLayout). (plan_in k).row_runs) r.rows w.rows_are in
    let columns = sums (λ (k : AreaLayout). (plan_in k).column_runs) r.columns w.columns_are in
    let pages = sums (λ (k : AreaLayout). pages_in (plan_in k)) r.pages w.pages_are in
    let clamped = note (λ (n : AreaNotes). n.clamped) r.notes.clamped w.clamped_is in
    let unreachable = note (λ (n : AreaNotes). n.unreachable) r.notes.unreachable w.unreachable_is in
    let expansions = note (λ (n : AreaNotes). n.expansions) r.notes.expansions w.expansions_are in
    let all = over_more (λ (k : AreaLayout). k.counted.notes.shifts) ls l in
    let shifts : r.notes.shifts ≡ as_count (noted (λ (n : AreaNotes). n.shifts) (ls ++ l ∷ [])) = w.shifts_are ∙ rw all (omega arith) in
    let overflows = note (λ (n : AreaNotes). n.overflows) r.notes.overflows w.overflows_are in
    λ i. record {
      areas = areas i;
      rows = rows i;
      columns = columns i;
      pages = pages i;
      notes = record {
        clamped = clamped i;
        unreachable = unreachable i;
        expansions = expansions i;
        shifts = shifts i;
        overflows = overflows i;
      };
    }

module _ (c : Sides) (s : Sheet) (gs : List PrintRange) (k : ℕ) (g : PrintRange) (h : k < length gs) (e : g ≡ get_or gs k no_range) where
  -- the area after the first k is counted
  pub counted_next : (all r : CountedAreas) (a : CountedArea) → all ≡ counted_of (layouts_of c s (take k gs)) → a ≡ (area_layout c s g).counted
      → Added r all a → r ≡ counted_of (layouts_of c s (take (k + 1) gs))
  counted_next all r a ea eg w =
      let ls = layouts_of c s (take k gs) in
      let next : layouts_of c s (take (k + 1) gs) ≡ ls ++ area_layout c s g ∷ [] =
      rw (add-one, take-suc gs k no_range h, ← e) (map_push (area_layout c s) (take k gs) g) in
      let added : Added r (counted_of ls) (area_layout c s g).counted = rw (← ea, ← eg) w in
      counted_more ls (area_layout c s g) r added ∙ ap counted_of (sym next)
