-- The pages of a finished plan: the list and the page by its number give the same, as many as the plan counts. Assumes nothing.
use mathlib.Core.Path.{◌≡◌, refl, ◌∙◌}
use mathlib.Core.Logic.{◌⊎◌, ⊎_elim}
use mathlib.Core.Bool.{true}
use mathlib.Core.List.{List, [], ◌∷◌, ◌++◌}
use Prim.Native.Nat.{ℕ, zero, suc, ◌≤◌, ◌<◌}
use native.Mathlib.Omega.{arith}
use lib.ListN.{length, drop, length-take}
use borrow.Author.Tests.{le-leb}
use Rattle.units.specs.Outcome.{Outcome, given, refused}
use Rattle.planner_rules.specs.declared.pages.Page.{Page}
use Rattle.planner_rules.specs.declared.pages.Plan.{Plan}
use Rattle.planner_rules.specs.declared.planning.PrintRange.{PrintRange}
use Rattle.planner_rules.specs.Areas.{plans_in, over_areas}
use Rattle.planner_rules.specs.Pages.{pages_in, areas_pages, pages_of, holds_runs, numbered, page_numbered, list_pages, pages_lent}
use Rattle.planner_rules.specs.Plan.{Sheet, Planned, planned}
use Rattle.planner_rules.specs.Demand.{Finished}
use Rattle.planner_rules.proofs.PageLaws.{numbered_zero, numbered_past}
use Rattle.planner_rules.proofs.AreaPages.{areas_length}
use Rattle.planner_rules.proofs.Demand.{done, held, pages_are}

-- a page that the page by number n is, and the n-th of the list
pub record SamePage (plan : Plan) (rows columns : List ℕ) (n : ℕ) : Type 0 where
  pub page : Page
  pub by_number : page_numbered plan rows columns n ≡ given page
  pub in_list : numbered (pages_of plan rows columns) n ≡ given page

-- "The whole list can be written to a lent list, and one page can be had by its number, from 1. For a plan left as it was answered, both give
-- the same pages, numbers 1 to its count." `old` is the lent list of page records as it was.
pub record SamePages (plan : Plan) (rows columns : List ℕ) : Type 0 where
  -- the list has the plan's count of pages
  pub as_many : length (pages_of plan rows columns) ≡ plan.pages
  -- with room for them, the list call answers that count
  pub listed : (old : List Page) → plan.pages ≤ length old → list_pages plan rows columns (length old) ≡ given plan.pages
  -- and writes exactly these pages
  pub written : (old : List Page) → plan.pages ≤ length old
      → pages_lent (list_pages plan rows columns (length old)) (pages_of plan rows columns) old ≡ pages_of plan rows columns ++ drop plan.pages old
  -- each number from 1 to the count has the page that stands there in the list
  pub same : (n : ℕ) → 1 ≤ n → n ≤ plan.pages → SamePage plan rows columns n
  -- and no other number has one: "Page number from 1 to the count?" is 14
  pub no_other : (n : ℕ) → (n ≡ 0) ⊎ (plan.pages < n) → page_numbered plan rows columns n ≡ refused 14

-- a number up to the length has one of the list
numbered_some : {A : Type 0} (xs : List A) (n : ℕ) → 1 ≤ n → n ≤ length xs → (x : A) × (numbered xs n ≡ given x)
unfolding numbered
numbered_some [] n low high = absurd (omega arith)
numbered_some (x ∷ xs) zero low high = absurd (omega arith)
numbered_some (x ∷ xs) (suc zero) low high = (x, refl)
numbered_some (x ∷ xs) (suc (suc n)) low high = numbered_some xs (suc n) (omega arith) (omega arith)

module _ (plan : Plan) (rows columns : List ℕ) (held : holds_runs plan rows columns ≡ true)
    (pages_are : plan.pages ≡ over_areas pages_in (plans_in plan.areas)) where
  abbrev all : List Page
  all = pages_of plan rows columns

  many : length all ≡ plan.pages
  unfolding pages_of
  many =
      let joint : List Page = areas_pages plan.order (plans_in plan.areas) rows columns in
      omega (arith, pages_are, length-take plan.pages joint, areas_length plan.order (plans_in plan.areas) rows columns)

  asked : (n : ℕ) → page_numbered plan rows columns n ≡ numbered all n
  unfolding page_numbered
  asked n = rw held

  answered : (old : List Page) → plan.pages ≤ length old → list_pages plan rows columns (length old) ≡ given plan.pages
  unfolding list_pages
  answered old h = rw (held, many, le-leb plan.pages (length old) h)

  same_pages : SamePages plan rows columns
  same_pages = record {
    as_many = many;
    listed = answered;
    written = λ old h. rw (answered old h, many);
    same = λ n low high.
        let (x, e) = numbered_some all n low (omega (arith, many)) in
        record { page = x; by_number = asked n ∙ e; in_list = e };
    no_other = λ n. ⊎_elim (λ e. rw e (asked 0 ∙ numbered_zero all)) (λ h. asked n ∙ numbered_past all n (omega (arith, many)));
  }

-- of a finished plan, with the lists of runs as the call left them
pub finished_pages : (s : Sheet) (areas : List PrintRange) (rows₀ columns₀ rows columns : List ℕ) (r : Outcome Plan)
    → Planned (planned s areas rows₀ columns₀) r rows₀ columns₀ rows columns → (plan : Plan) → Finished r plan → SamePages plan rows columns
finished_pages s areas rows₀ columns₀ rows columns r p plan f =
    let d = done s areas rows₀ columns₀ rows columns r p plan f in
    same_pages plan rows columns (held s areas plan rows columns d) (pages_are s areas plan rows columns d)
