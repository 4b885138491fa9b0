-- What a block that is given holds, and that blocks one after another tell all pages of a plan. Assumes nothing.
use mathlib.Core.Path.{◌≡◌, refl, sym, ap, ◌∙◌}
use mathlib.Core.Bool.{Bool, true, false, cond}
use mathlib.Core.List.{List, [], ◌∷◌, ◌++◌, append_assoc}
use Prim.Native.Nat.{ℕ, suc, ◌+◌, ◌-◌, ◌≤◌, ◌<◌}
use native.Mathlib.Omega.{arith}
use lib.Dec.{ltb}
use lib.ListN.{length, get_or, take, drop, length-take, length-drop}
use lib.Seq.{take_all, take-take, take-append_seam, drop-drop}
use borrow.Author.Tests.{lt-ltb, le-ltb}
use Rattle.units.specs.Outcome.{given}
use Rattle.planner_rules.specs.declared.pages.AreaPlan.{AreaPlan}
use Rattle.planner_rules.specs.declared.pages.Page.{Page}
use Rattle.planner_rules.specs.declared.pages.Plan.{Plan}
use Rattle.planner_rules.specs.declared.pages.Spot.{Spot}
use Rattle.std.specs.Prelude.{Option, Some, None, Ok}
use Rattle.planner_rules.specs.Questions.{ask}
use Rattle.planner_rules.specs.Areas.{plans_in, no_plan, over_areas}
use Rattle.planner_rules.specs.Pages.{area_pages, pages_in, holds_area, spot_from, spot_of}
use Rattle.io.specs.Counts.{IsPrefixLen}
use Rattle.planner_rules.proofs.Laws.{split}
use Rattle.planner_rules.proofs.NoTen.{not_given}
use Rattle.job_report.specs.declared.blocks.Block.{Block}
use Rattle.job_report.specs.Lines.{head_lines}
use Rattle.job_report.specs.Blocks.{lines_from, held, block_lines, block_of, area_of, pages_on, pages_at, block_pages, BlockPut}
use Rattle.job_report.specs.Report.{line_before, areas_lines, report_lines}
use Rattle.job_report.proofs.TextLaws.{lines_within}
use Rattle.job_report.proofs.SpotLaws.{Placed, placed, own_page, spot_within}
use Rattle.job_report.proofs.BlockLaws.{on_count, held_within, held_some, lines_add}
use Rattle.planner_rules.proofs.AreaPages.{area_length}

-- ---- one block

-- a block that is given has at least one page, of one area, and none past the plan's count; its bytes are at the start of the array
pub record Got (p : Plan) (rows columns : List ℕ) (n : ℕ) (s : Spot) (b : Block) (new : List ℕ) : Type 0 where
  pub at : Placed p n s
  pub some : 1 ≤ b.pages
  pub to_count : n + b.pages ≤ p.pages + 1
  pub in_area : s.before + b.pages ≤ pages_in (area_of p s)
  pub counts : IsPrefixLen b.bytes new
  pub lines_are : take b.bytes new ≡ lines_from n (take b.pages (drop s.before (area_pages p.order (area_of p s) rows columns)))

module _ (p : Plan) (rows columns : List ℕ) (n : ℕ) (b : Block) (old new : List ℕ) where
  module _ (s : Spot) (found : spot_of p n ≡ Some s) where
    abbrev own : List Page
    own = area_pages p.order (area_of p s) rows columns

    abbrev pages : List Page
    pages = pages_on p rows columns n s

    on_some : 1 ≤ length (pages_on p rows columns n s)
    unfolding pages_on
    on_some =
        omega (
          arith,
          length-take (p.pages + 1 - n) (drop s.before own),
          length-drop s.before own,
          area_length p.order (area_of p s) rows columns,
          own_page p n s found,
          (placed p n s found).to_count,
        )

    on_area : length (pages_on p rows columns n s) ≤ pages_in (area_of p s) - s.before
    unfolding pages_on
    on_area =
        omega (arith, length-take (p.pages + 1 - n) (drop s.before own), length-drop s.before own, area_length p.order (area_of p s) rows columns)

    on_take : (k : ℕ) → k ≤ p.pages + 1 - n → take k (pages_on p rows columns n s) ≡ take k (drop s.before own)
    unfolding pages_on
    on_take k h = take-take k (p.pages + 1 - n) (drop s.before own) h

    pub block_got : BlockPut (block_pages p rows columns n) n (Ok b) old new → Got p rows columns n s b new
    unfolding block_pages block_lines
    block_got v = go (holds_area (area_of p s) rows columns) (rw found at v)
      where
        go : (holds : Bool) → BlockPut (ask 11 holds (given pages)) n (Ok b) old new → Got p rows columns n s b new
        go false w = absurd (not_given b 11 w.answer)
        go true w =
            let is : b ≡ block_of n pages = let e : given b ≡ given (block_of n pages) = w.answer in cc in
            let count : b.pages ≡ held 0 n pages = ap (λ (x : Block). x.pages) is in
            let bytes : b.bytes ≡ length (block_lines n pages) = ap (λ (x : Block). x.bytes) is in
            let array : new ≡ block_lines n pages ++ drop (length (block_lines n pages)) old = w.array_is in
            let most = on_count p n s rows columns in
            let few = held_within 0 n pages in
            let at = placed p n s found in
            let high = at.to_count in
            record {
              at = at;
              some = omega (arith, held_some n pages on_some);
              to_count = omega arith;
              in_area = omega (arith, on_area, own_page p n s found);
              counts = lines_within (block_lines n pages) b.bytes old new (record { count = bytes; array_is = array });
              lines_are = rw (bytes, array, count)
                  (take-append_seam (block_lines n pages) (drop (length (block_lines n pages)) old)
                  ∙ ap (lines_from n) (on_take (held 0 n pages) (omega arith)));
            }

  -- its first page has a spot
  pub block_told : BlockPut (block_pages p rows columns n) n (Ok b) old new → (s : Spot) × Got p rows columns n s b new
  unfolding block_pages
  block_told v = go (spot_of p n) refl v
    where
      go : (f : Option Spot) → spot_of p n ≡ f → BlockPut (pages_at p rows columns n f) n (Ok b) old new → (s : Spot) × Got p rows columns n s b new
      go None i w = absurd (not_given b 14 w.answer)
      go (Some s) i w = (s, block_got s i v)

-- ---- blocks up to the last page

-- a finished plan: its pages are those of its areas, and each area has one
pub record Whole (p : Plan) : Type 0 where
  pub pages_are : p.pages ≡ over_areas pages_in (plans_in p.areas)
  pub each : (k : ℕ) → k < length (plans_in p.areas) → 1 ≤ pages_in (get_or (plans_in p.areas) k no_plan)

module _ (p : Plan) (rows columns : ℕ → List ℕ) where
  -- the line that stands before a page: that of its area, before the area's first page
  abbrev pub line_at : Spot → List ℕ
  line_at s = cond (ltb 0 s.before) [] (line_before s.area (area_of p s))

  -- what is printed of the pages from a number up to the next, a block at a time, and before a later area its line; the lists of each area hold
  -- its runs at the front
  pub data Printed : ℕ → ℕ → List ℕ → Type 0 where
    none : {n : ℕ} → Printed n n []
    another : {from next : ℕ} {bytes : List ℕ} (s : Spot) (b : Block) (old new : List ℕ) → spot_of p from ≡ Some s
        → BlockPut (block_pages p (rows s.area) (columns s.area) from) from (Ok b) old new
        → Printed (from + b.pages) next bytes → Printed from next (line_at s ++ (take b.bytes new ++ bytes))

  abbrev pages_of : ℕ → AreaPlan → List Page
  pages_of k a = area_pages p.order a (rows k) (columns k)

  abbrev lines_of_areas : ℕ → ℕ → List AreaPlan → List ℕ
  lines_of_areas = areas_lines p.order rows columns

  abbrev Each : List AreaPlan → Type 0
  Each areas = (k : ℕ) → k < length areas → 1 ≤ pages_in (get_or areas k no_plan)

  later : (a : AreaPlan) (areas : List AreaPlan) → Each (a ∷ areas) → Each areas
  later a areas e k h = e (suc k) (omega arith)

  -- the lines from the page on that has so many pages before it among the areas from the k-th on
  unfoldable tail_lines : ℕ → ℕ → ℕ → List AreaPlan → List ℕ
  tail_lines k before n [] = []
  tail_lines k before n (a ∷ areas) =
      cond (ltb before (pages_in a))
      (cond (ltb 0 before) [] (line_before k a) ++ (lines_from n (drop before (pages_of k a)) ++ lines_of_areas (k + 1) (n + (pages_in a - before)) areas))
      (tail_lines (k + 1) (before - pages_in a) n areas)

  tail_own : (k before n : ℕ) (a : AreaPlan) (areas : List AreaPlan) → before < pages_in a → tail_lines k before n (a ∷ areas)
      ≡ cond (ltb 0 before) [] (line_before k a)
      ++ (lines_from n (drop before (pages_of k a)) ++ lines_of_areas (k + 1) (n + (pages_in a - before)) areas)
  unfolding tail_lines
  tail_own k before n a areas h = rw (lt-ltb before (pages_in a) h)

  tail_later : (k before n : ℕ) (a : AreaPlan) (areas : List AreaPlan) → pages_in a ≤ before
      → tail_lines k before n (a ∷ areas) ≡ tail_lines (k + 1) (before - pages_in a) n areas
  unfolding tail_lines
  tail_later k before n a areas h = rw (le-ltb before (pages_in a) h)

  -- from an area's first page on
  tail_first : (k n : ℕ) (areas : List AreaPlan) → Each areas → tail_lines k 0 n areas ≡ lines_of_areas k n areas
  unfolding tail_lines areas_lines
  tail_first k n [] e = refl
  tail_first k n (a ∷ areas) e =
      let all : pages_in a - 0 ≡ pages_in a = omega arith in
      rw (lt-ltb 0 (pages_in a) (e 0 (omega arith)), all)

  -- past the last page
  tail_none : (k before n : ℕ) (areas : List AreaPlan) → over_areas pages_in areas ≤ before → tail_lines k before n areas ≡ []
  unfolding tail_lines over_areas
  tail_none k before n [] h = refl
  tail_none k before n (a ∷ areas) h =
      tail_later k before n a areas (omega arith) ∙ tail_none (k + 1) (before - pages_in a) n areas (omega arith)

  -- so many pages more, of one area
  lines_split : (n m : ℕ) (pages : List Page) → m ≤ length pages → lines_from n pages ≡ lines_from n (take m pages) ++ lines_from (n + m) (drop m pages)
  lines_split n m pages h =
      let sum : m + (length pages - m) ≡ length pages = omega arith in
      let whole : take (length pages) pages ≡ pages = take_all (length pages) pages (omega arith) in
      let rest : take (length pages - m) (drop m pages) ≡ drop m pages = take_all (length pages - m) (drop m pages) (omega (arith, length-drop m pages)) in
      rw (sum, whole, rest) at (lines_add n m (length pages - m) pages h)

  module _ (m : ℕ) (some : 1 ≤ m) where
    tail_here : (k before n : ℕ) (a : AreaPlan) (areas : List AreaPlan) → Each (a ∷ areas) → before + m ≤ pages_in a
        → tail_lines k before n (a ∷ areas)
        ≡ cond (ltb 0 before) [] (line_before k a) ++ (lines_from n (take m (drop before (pages_of k a))) ++ tail_lines k (before + m) (n + m) (a ∷ areas))
    tail_here k before n a areas e h =
        tail_own k before n a areas (omega arith) ∙ ap (λ (l : List ℕ). cond (ltb 0 before) [] (line_before k a) ++ l) rest
      where
        own_count : length (drop before (pages_of k a)) ≡ pages_in a - before
        own_count = omega (arith, length-drop before (pages_of k a), area_length p.order a (rows k) (columns k))

        in_it : before + m < pages_in a → tail_lines k (before + m) (n + m) (a ∷ areas)
            ≡ lines_from (n + m) (drop m (drop before (pages_of k a))) ++ lines_of_areas (k + 1) (n + (pages_in a - before)) areas
        in_it l =
            let sum : n + m + (pages_in a - (before + m)) ≡ n + (pages_in a - before) = omega arith in
            rw (lt-ltb 0 (before + m) (omega arith), sum, ← drop-drop) at (tail_own k (before + m) (n + m) a areas l)

        after_it : pages_in a ≤ before + m → tail_lines k (before + m) (n + m) (a ∷ areas) ≡ lines_of_areas (k + 1) (n + (pages_in a - before)) areas
        after_it l =
            let zero_left : before + m - pages_in a ≡ 0 = omega arith in
            let sum : n + m ≡ n + (pages_in a - before) = omega arith in
            rw zero_left at (tail_later k (before + m) (n + m) a areas l) ∙ tail_first (k + 1) (n + m) areas (later a areas e)
            ∙ ap (λ (x : ℕ). lines_of_areas (k + 1) x areas) sum

        rest : lines_from n (drop before (pages_of k a)) ++ lines_of_areas (k + 1) (n + (pages_in a - before)) areas
            ≡ lines_from n (take m (drop before (pages_of k a))) ++ tail_lines k (before + m) (n + m) (a ∷ areas)
        rest =
            split (suc (before + m)) (pages_in a)
            (λ l.
            rw (in_it l, lines_split n m (drop before (pages_of k a)) (omega (arith, own_count)))
            (append_assoc (lines_from n (take m (drop before (pages_of k a)))) (lines_from (n + m) (drop m (drop before (pages_of k a)))) _))
            (λ l. rw (after_it (omega arith), take_all m (drop before (pages_of k a)) (omega (arith, own_count))))

    tail_step : (k before n : ℕ) (areas : List AreaPlan) (s : Spot) → Each areas → spot_from k before areas ≡ Some s
        → s.before + m ≤ pages_in (get_or areas (s.area - k) no_plan)
        → tail_lines k before n areas
        ≡ cond (ltb 0 s.before) [] (line_before s.area (get_or areas (s.area - k) no_plan))
        ++ (lines_from n (take m (drop s.before (pages_of s.area (get_or areas (s.area - k) no_plan)))) ++ tail_lines k (before + m) (n + m) areas)
    unfolding spot_from
    tail_step k before n [] s e f h = absurd cc
    tail_step k before n (a ∷ areas) s e f h =
        split (suc before) (pages_in a)
        (λ l.
        let is : Some (record { area = k; before = before }) ≡ Some s = rw (lt-ltb before (pages_in a) l) at f in
        let same : record { area = k; before = before } ≡ s = cc in
        let none_before : k - k ≡ 0 = omega arith in
        let few : before + m ≤ pages_in a = rw (← same, none_before) at h in
        rw (← same, none_before) (tail_here k before n a areas e few))
        (λ l.
        let g = rw (le-ltb before (pages_in a) (omega arith)) at f in
        let w = spot_within areas (k + 1) (before - pages_in a) s g in
        let one : s.area - k ≡ suc (s.area - (k + 1)) = omega (arith, w.from_first) in
        let sum : before + m - pages_in a ≡ before - pages_in a + m = omega arith in
        rw (one, tail_later k before n a areas (omega arith), tail_later k (before + m) (n + m) a areas (omega arith), sum)
        (tail_step (k + 1) (before - pages_in a) n areas s (later a areas e) g (rw one at h)))

  -- what is printed up to a number past the last page
  printed_tail : Whole p → {from next : ℕ} {bytes : List ℕ} → Printed from next bytes → 1 ≤ from → p.pages < next
      → bytes ≡ tail_lines 0 (from - 1) from (plans_in p.areas)
  printed_tail w {from} none low past = sym (tail_none 0 (from - 1) from (plans_in p.areas) (omega (arith, w.pages_are)))
  printed_tail w {from} (another {bytes = bytes} s b old new found v more) low past =
      let got = block_got p (rows s.area) (columns s.area) from b old new s found v in
      let area : s.area - 0 ≡ s.area = omega arith in
      let some = got.some in
      let number : from + b.pages - 1 ≡ from - 1 + b.pages = omega arith in
      let rest : bytes ≡ tail_lines 0 (from - 1 + b.pages) (from + b.pages) (plans_in p.areas) =
      rw number at (printed_tail w more (omega arith) past) in
      let step = rw area at (tail_step b.pages some 0 (from - 1) from (plans_in p.areas) s w.each got.at.is (rw area got.in_area)) in
      rw (got.lines_are, rest) (sym step)

  -- "program `plan` counts all pages first, then plans area by area": the first lines, then what is printed of the pages from 1 on up to a number
  -- past the last, are the plan's lines, once and in order
  pub printed_all : Whole p → (next : ℕ) (bytes : List ℕ) → Printed 1 next bytes → p.pages < next
      → head_lines (given p) ++ bytes ≡ report_lines p rows columns
  unfolding report_lines
  printed_all w next bytes b past =
      ap (λ (l : List ℕ). head_lines (given p) ++ l) (printed_tail w b (omega arith) past ∙ tail_first 0 1 (plans_in p.areas) w.each)
