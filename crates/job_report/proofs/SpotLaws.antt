-- Where a page stands in a plan: which area, and which of the area's own pages. Assumes nothing.
use mathlib.Core.Path.{◌≡◌, refl}
use mathlib.Core.Bool.{Bool, true, false, cond, ◌&&◌}
use mathlib.Core.List.{List, [], ◌∷◌}
use Prim.Native.Nat.{ℕ, suc, ◌+◌, ◌-◌, ◌≤◌, ◌<◌}
use native.Mathlib.Omega.{arith}
use lib.Dec.{leb}
use lib.ListN.{length, get_or}
use borrow.Author.Tests.{leb-true, lt-ltb, le-ltb}
use Rattle.planner_rules.specs.declared.pages.AreaPlan.{AreaPlan}
use Rattle.planner_rules.specs.declared.pages.Plan.{Plan}
use Rattle.planner_rules.specs.declared.pages.Spot.{Spot}
use Rattle.std.specs.Prelude.{Some, None}
use Rattle.planner_rules.specs.Areas.{plans_in, no_plan}
use Rattle.planner_rules.specs.Pages.{pages_in, spot_from, spot_of}
use Rattle.planner_rules.proofs.Laws.{split}
use Rattle.job_report.specs.Blocks.{area_of}
use Rattle.std.proofs.lemmas.Bool.{and_parts}

-- a spot among the areas from the k-th on, of a page that has so many pages before it
pub record Within (areas : List AreaPlan) (k before : ℕ) (s : Spot) : Type 0 where
  pub from_first : k ≤ s.area
  pub to_last : s.area < k + length areas
  pub not_later : s.before ≤ before
  pub own : s.before < pages_in (get_or areas (s.area - k) no_plan)

pub spot_within : (areas : List AreaPlan) (k before : ℕ) (s : Spot) → spot_from k before areas ≡ Some s → Within areas k before s
unfolding spot_from
spot_within [] k before s e = absurd cc
spot_within (a ∷ areas) k before s e =
    split (suc before) (pages_in a)
    (λ h.
    let is : Some (record { area = k; before = before }) ≡ Some s = rw (lt-ltb before (pages_in a) h) at e in
    let same : record { area = k; before = before } ≡ s = cc in
    let none : k - k ≡ 0 = omega arith in
    rw (← same) (record { from_first = omega arith; to_last = omega arith; not_later = omega arith; own = rw none h }))
    (λ h.
    let later = rw (le-ltb before (pages_in a) (omega arith)) at e in
    let w = spot_within areas (k + 1) (before - pages_in a) s later in
    let low = w.from_first in
    let one : s.area - k ≡ suc (s.area - (k + 1)) = omega arith in
    record { from_first = omega arith; to_last = omega (arith, w.to_last); not_later = omega (arith, w.not_later); own = rw one w.own })

-- a page of a plan that is there: its number, and its spot
pub record Placed (p : Plan) (n : ℕ) (s : Spot) : Type 0 where
  pub from_one : 1 ≤ n
  pub to_count : n ≤ p.pages
  pub is : spot_from 0 (n - 1) (plans_in p.areas) ≡ Some s
  pub within : Within (plans_in p.areas) 0 (n - 1) s

pub placed : (p : Plan) (n : ℕ) (s : Spot) → spot_of p n ≡ Some s → Placed p n s
unfolding spot_of
placed p n s e = go (leb 1 n && leb n p.pages) refl e
  where
    go : (b : Bool) → (leb 1 n && leb n p.pages) ≡ b → cond b (spot_from 0 (n - 1) (plans_in p.areas)) None ≡ Some s → Placed p n s
    go false i j = absurd cc
    go true i j =
        let asked = and_parts (leb 1 n) (leb n p.pages) i in
        let w = spot_within (plans_in p.areas) 0 (n - 1) s j in
        record {
          from_one = leb-true 1 n asked.0;
          to_count = leb-true n p.pages asked.1;
          is = j;
          within = w;
        }

-- an area's own page
pub own_page : (p : Plan) (n : ℕ) (s : Spot) → spot_of p n ≡ Some s → s.before < pages_in (area_of p s)
own_page p n s e = let none : s.area - 0 ≡ s.area = omega arith in rw none at (placed p n s e).within.own

-- one of the plan's
pub spot_within_plan : (p : Plan) (n : ℕ) (s : Spot) → spot_of p n ≡ Some s → s.area < length (plans_in p.areas)
spot_within_plan p n s e = omega (arith, (placed p n s e).within.to_last)
