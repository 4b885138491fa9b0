-- A block of page lines of an area: document 01, sections "Pages" and "Jobs", and document 02, T-02. Assumes nothing.
use Rattle.std.specs.Prelude.{◌≡◌, true, cond, List, [], ◌∷◌, ◌++◌, ℕ, suc, ◌+◌, ◌-◌, leb, length, get_or, take, drop, Option, Some, None, Result}
use Rattle.units.specs.Outcome.{Outcome, given, refused, and_then}
use Rattle.units.specs.Refusals.{outcome}
use Rattle.units.specs.declared.refusal.Refusal.{Refusal}
use Rattle.planner_rules.specs.declared.pages.AreaPlan.{AreaPlan}
use Rattle.planner_rules.specs.declared.pages.Page.{Page}
use Rattle.planner_rules.specs.declared.pages.Plan.{Plan}
use Rattle.planner_rules.specs.declared.pages.Spot.{Spot}
use Rattle.planner_rules.specs.Slots.{written}
use Rattle.planner_rules.specs.Questions.{ask}
use Rattle.planner_rules.specs.Areas.{plans_in, no_plan}
use Rattle.planner_rules.specs.Pages.{area_pages, holds_area, spot_of}
use Rattle.job_report.specs.declared.blocks.Block.{Block}
use Rattle.job_report.specs.Lines.{page_line}

-- ---- lines of pages

-- the lines of pages in order, by numbers from one on
unfoldable pub lines_from : ℕ → List Page → List ℕ
lines_from n [] = []
lines_from n (p ∷ pages) = page_line n p ++ lines_from (suc n) pages

-- how many of the pages from the number n on a block takes that has so many bytes already: a line is put as long as there is a page and at
-- least 256 of the block's 65,536 bytes are left
unfoldable pub held : ℕ → ℕ → List Page → ℕ
held bytes n [] = 0
held bytes n (p ∷ pages) = cond (leb (bytes + 256) 65536) (suc (held (bytes + length (page_line n p)) (suc n) pages)) 0

-- the lines of a block of pages from the number n on
unfoldable pub block_lines : ℕ → List Page → List ℕ
unfolding lines_from held
block_lines n pages = lines_from n (take (held 0 n pages) pages)

-- how many pages and bytes the block has
abbrev pub block_of : ℕ → List Page → Block
block_of n pages = record { pages = held 0 n pages; bytes = length (block_lines n pages) }

-- ---- the pages that a block may hold

-- the area that a page belongs to
abbrev pub area_of : Plan → Spot → AreaPlan
area_of p s = get_or (plans_in p.areas) s.area no_plan

-- the pages of that area from the page with the number n on, none past the plan's count; the lists hold the area's runs at the front
unfoldable pub pages_on : Plan → List ℕ → List ℕ → ℕ → Spot → List Page
unfolding area_pages
pages_on p rows columns n s = take (p.pages + 1 - n) (drop s.before (area_pages p.order (area_of p s) rows columns))

-- 14: "Page number from 1 to the count?"; then 11 of the area's runs
abbrev pub pages_at : Plan → List ℕ → List ℕ → ℕ → Option Spot → Outcome (List Page)
pages_at p rows columns n None = refused 14
pages_at p rows columns n (Some s) = ask 11 (holds_area (area_of p s) rows columns) (given (pages_on p rows columns n s))

-- of a block from the number n on
unfoldable pub block_pages : Plan → List ℕ → List ℕ → ℕ → Outcome (List Page)
unfolding pages_on spot_of
block_pages p rows columns n = pages_at p rows columns n (spot_of p n)

-- ---- the call

-- the array of a block call, which was `old`: the lines followed by what stood there before, or, where the call is refused, as it was
abbrev pub lines_lent : ℕ → Outcome (List Page) → List ℕ → List ℕ
lines_lent n (given pages) old = written (block_lines n pages) old
lines_lent n (refused k) old = old

-- the answer r of a block call from the number n on that may hold these pages, and its array, which was `old`
pub record BlockPut (o : Outcome (List Page)) (n : ℕ) (r : Result Block Refusal) (old new : List ℕ) : Type 0 where
  pub answer : outcome r ≡ and_then o (λ (pages : List Page). given (block_of n pages))
  pub array_is : new ≡ lines_lent n o old

-- ---- for the private functions

-- a page that is there, at a spot of a plan, in lists that hold the runs of its area
pub record There (p : Plan) (n : ℕ) (s : Spot) (rows columns : List ℕ) : Type 0 where
  pub found : spot_of p n ≡ Some s
  pub holds : holds_area (area_of p s) rows columns ≡ true

-- a block whose first page is there, and its array, which was `old`
pub record LinesHeld (n : ℕ) (pages : List Page) (r : Block) (old new : List ℕ) : Type 0 where
  pub block_is : r ≡ block_of n pages
  pub array_is : new ≡ written (block_lines n pages) old
