-- Laws of `specs/Blocks.antt`'s definitions: which pages a block holds, and the loop that puts their lines. Assumes nothing.
use mathlib.Core.Path.{◌≡◌, refl, sym, ap, ◌∙◌}
use mathlib.Core.Bool.{Bool, true, false, ◌&&◌}
use mathlib.Core.List.{List, [], ◌∷◌, ◌++◌, append_assoc, append-nil}
use Prim.Native.Nat.{ℕ, zero, suc, ◌+◌, ◌-◌, ◌≤◌, ◌<◌}
use native.Mathlib.Omega.{arith}
use lib.Dec.{leb}
use lib.ListN.{length, take, drop, length-take, length-drop, drop_of_length-le}
use lib.Seq.{length-take-le, take-add}
use borrow.Author.Tests.{le-leb, lt-leb, leb-true}
use Rattle.units.specs.Outcome.{given, refused}
use Rattle.planner_rules.specs.declared.pages.AreaPlan.{AreaPlan}
use Rattle.planner_rules.specs.declared.pages.PageOrder.{PageOrder}
use Rattle.planner_rules.specs.declared.pages.Page.{Page}
use Rattle.planner_rules.specs.declared.pages.Plan.{Plan}
use Rattle.planner_rules.specs.declared.pages.Spot.{Spot}
use Rattle.std.specs.Prelude.{Some, None, Result, Ok, Err}
use Rattle.units.specs.Refusals.{number_of, outcome}
use Rattle.units.specs.declared.refusal.Refusal.{Refusal}
use Rattle.units.specs.declared.refusal.Refusal.TheVariants as no
use Rattle.planner_rules.specs.Questions.{ask}
use Rattle.planner_rules.specs.Pages.{area_pages, holds_area, numbered, area_numbered, spot_of}
use Rattle.planner_rules.proofs.Laws.{split}
use Rattle.planner_rules.proofs.NoTen.{not_given}
use Rattle.planner_rules.proofs.PageLaws.{numbered_take}
use Rattle.job_report.specs.declared.blocks.Block.{Block}
use Rattle.job_report.specs.Lines.{page_line, PutAt}
use Rattle.job_report.specs.Blocks.{lines_from, held, block_lines, area_of, pages_on, block_pages, BlockPut, There, LinesHeld}
use Rattle.job_report.proofs.TextLaws.{and_then_lem, put_none}
use Rattle.job_report.proofs.SpotLaws.{placed, own_page}
use Rattle.std.proofs.lemmas.Bool.{and_parts}
use Rattle.planner_rules.proofs.AreaPages.{area_length}
use Rattle.planner_rules.proofs.Demand.{ask_yes}

-- ---- pages by number

-- the page with a number stands after those before it
there_is : (pages : List Page) (n : ℕ) (p : Page) → numbered pages (suc n) ≡ given p → drop n pages ≡ p ∷ drop (suc n) pages
unfolding numbered
there_is [] n p e = absurd (not_given p 14 (sym e))
there_is (x ∷ pages) zero p e = let same : x ≡ p = cc in ap (λ (q : Page). q ∷ pages) same
there_is (x ∷ pages) (suc n) p e = there_is pages n p e

-- and past the last there is none
there_none : (pages : List Page) (n k : ℕ) → numbered pages (suc n) ≡ refused k → length pages ≤ n
unfolding numbered
there_none [] n k e = omega arith
there_none (x ∷ pages) zero k e = absurd (not_given x k e)
there_none (x ∷ pages) (suc n) k e = omega (arith, there_none pages n k e)

-- a number of the pages after b others
numbered-drop : (b : ℕ) (pages : List Page) (n : ℕ) → numbered (drop b pages) (suc n) ≡ numbered pages (suc (b + n))
unfolding numbered
numbered-drop zero pages n = let e : 0 + n ≡ n = omega arith in rw e
numbered-drop (suc b) [] n = refl
numbered-drop (suc b) (x ∷ pages) n = let e : suc b + n ≡ suc (b + n) = omega arith in rw e (numbered-drop b pages n)

-- ---- how many pages a block holds

-- no more than there are, and one where there is one
pub held_within : (bytes n : ℕ) (pages : List Page) → held bytes n pages ≤ length pages
unfolding held
held_within bytes n [] = omega arith
held_within bytes n (p ∷ pages) =
    split (bytes + 256) 65536
    (λ h. rw (le-leb (bytes + 256) 65536 h) (omega (arith, held_within (bytes + length (page_line n p)) (suc n) pages)))
    (λ h. rw (lt-leb (bytes + 256) 65536 h) (omega arith))

-- a line more, where there is room for it
held_more : (bytes n : ℕ) (p : Page) (pages : List Page) → bytes + 256 ≤ 65536
    → held bytes n (p ∷ pages) ≡ suc (held (bytes + length (page_line n p)) (suc n) pages)
unfolding held
held_more bytes n p pages h = rw (le-leb (bytes + 256) 65536 h)

pub held_some : (n : ℕ) (pages : List Page) → 1 ≤ length pages → 1 ≤ held 0 n pages
held_some n [] h = absurd (omega arith)
held_some n (p ∷ pages) h = omega (arith, held_more 0 n p pages (omega arith))

-- and none, where there is not
held_full : (bytes n : ℕ) (pages : List Page) → 65536 < bytes + 256 → held bytes n pages ≡ 0
unfolding held
held_full bytes n [] h = refl
held_full bytes n (p ∷ pages) h = rw (lt-leb (bytes + 256) 65536 h)

-- the lines of pages, then those of the pages after them, are the lines of all
lines_then : (n : ℕ) (a b : List Page) → lines_from n (a ++ b) ≡ lines_from n a ++ lines_from (n + length a) b
unfolding lines_from
lines_then n [] b = let e : n + 0 ≡ n = omega arith in rw e
lines_then n (p ∷ a) b =
    let e : n + suc (length a) ≡ suc n + length a = omega arith in
    rw (e, lines_then (suc n) a b) (sym (append_assoc (page_line n p) (lines_from (suc n) a) (lines_from (suc n + length a) b)))

-- the same of the first k pages and m more
pub lines_add : (n k m : ℕ) (pages : List Page) → k ≤ length pages
    → lines_from n (take (k + m) pages) ≡ lines_from n (take k pages) ++ lines_from (n + k) (take m (drop k pages))
lines_add n k m pages h =
    let e : length (take k pages) ≡ k = length-take-le k pages h in
    rw e at (ap (lines_from n) (take-add k m pages) ∙ lines_then n (take k pages) (take m (drop k pages)))

one_line : (n : ℕ) (p : Page) (pages : List Page) → lines_from n (take 1 (p ∷ pages)) ≡ page_line n p
unfolding lines_from
one_line n p pages = append-nil (page_line n p)

-- ---- a loop over pages

-- where it ends there is no room, or the number is past the count
pub shut_told : {X : Type 0} (bytes last pages most : ℕ) → (leb bytes last && leb pages most) ≡ false → (last < bytes → X) → (most < pages → X) → X
shut_told bytes last pages most e f g =
    split bytes last
    (λ h. split pages most
    (λ l. let yes : (leb bytes last && leb pages most) ≡ true = rw (le-leb bytes last h, le-leb pages most l) in absurd cc) g) f

module _ (from : ℕ) (rest : List Page) where
  -- k pages have their lines in so many bytes at the start of the array, which was `old`; the block holds these and what it holds after them
  pub record Holding (old new : List ℕ) (k bytes : ℕ) : Type 0 where
    pub so_far : PutAt (lines_from from (take k rest)) 0 bytes old new
    pub in_all : held 0 from rest ≡ k + held bytes (from + k) (drop k rest)
    pub there : k ≤ length rest
    pub same : length new ≡ length old

  pub holding_none : (old : List ℕ) → Holding old old 0 0
  unfolding lines_from
  holding_none old = record {
    so_far = put_none 0 old;
    in_all = let e : from + 0 ≡ from = omega arith in rw e (omega arith);
    there = omega arith;
    same = refl;
  }

  -- the lines where k pages are held
  lines_held : (k : ℕ) → held 0 from rest ≡ k → block_lines from rest ≡ lines_from from (take k rest)
  unfolding block_lines
  lines_held k e = ap (λ (n : ℕ). lines_from from (take n rest)) e

  module _ (old new : List ℕ) (k bytes : ℕ) (h : Holding old new k bytes) where
    -- nothing more is held
    abbrev Done : Type 0
    Done = LinesHeld from rest (record { pages = k; bytes = bytes }) old new

    done : held bytes (from + k) (drop k rest) ≡ 0 → Done
    done e =
        let all_held : held 0 from rest ≡ k = omega (arith, h.in_all) in
        let lines : block_lines from rest ≡ lines_from from (take k rest) = lines_held k all_held in
        let count : bytes ≡ length (lines_from from (take k rest)) = omega (arith, h.so_far.after) in
        record { block_is = rw (all_held, lines, ← count); array_is = rw lines h.so_far.array_is }

    -- there is no page left, or no room
    holding_past : length rest ≤ k → Done
    unfolding held
    holding_past l = done (ap (held bytes (from + k)) (drop_of_length-le rest {i = k} l))

    pub holding_full : 65280 < bytes → Done
    holding_full l = done (held_full bytes (from + k) (drop k rest) (omega arith))

    -- there is no such page
    pub holding_refused : (n : ℕ) → numbered rest (suc k) ≡ refused n → Done
    holding_refused n e = holding_past (there_none rest k n e)

    -- a line more
    pub holding_more : (page : Page) (newer : List ℕ) (more : ℕ) → numbered rest (suc k) ≡ given page → bytes ≤ 65280 → bytes ≤ length old
        → PutAt (page_line (from + k) page) bytes more new newer → length newer ≡ length new → Holding old newer (k + 1) more
    holding_more page newer more e room inside put s =
        let follow : suc k ≡ k + 1 = omega arith in
        let here : drop k rest ≡ page ∷ drop (k + 1) rest = rw follow at (there_is rest k page e) in
        let line : lines_from (from + k) (take 1 (drop k rest)) ≡ page_line (from + k) page = rw here (one_line (from + k) page (drop (k + 1) rest)) in
        let place : bytes + length (page_line (from + k) page) ≡ more = omega (arith, put.after) in
        let next : suc (from + k) ≡ from + (k + 1) = omega arith in
        record {
          so_far = rw (lines_add from k 1 rest h.there, line) (and_then_lem inside h.so_far put);
          in_all = h.in_all
              ∙ ap (λ (n : ℕ). k + n) (ap (held bytes (from + k)) here ∙ held_more bytes (from + k) page (drop (k + 1) rest) (omega arith))
              ∙ rw (place, next) (omega arith);
          there = omega (arith, length-drop k rest, ap length here);
          same = s ∙ h.same;
        }

-- ---- the pages of an area that a block may hold

-- those after so many, and at most so many and one
abbrev pub part : PageOrder → AreaPlan → List ℕ → List ℕ → ℕ → ℕ → List Page
part order a rows columns before most = take (most + 1) (drop before (area_pages order a rows columns))

module _ (order : PageOrder) (a : AreaPlan) (rows columns : List ℕ) (before most : ℕ) where
  -- they are no more than that
  pub part_last : (from : ℕ) (old new : List ℕ) (k bytes : ℕ) → Holding from (part order a rows columns before most) old new k bytes → most < k
      → LinesHeld from (part order a rows columns before most) (record { pages = k; bytes = bytes }) old new
  part_last from old new k bytes h l =
      holding_past from (part order a rows columns before most) old new k bytes h
      (omega (arith, length-take (most + 1) (drop before (area_pages order a rows columns))))

  -- a page of them, by `area_page`
  part_asked : holds_area a rows columns ≡ true → (k : ℕ) → k ≤ most
      → area_numbered order a rows columns (before + k + 1) ≡ numbered (part order a rows columns before most) (suc k)
  unfolding area_numbered
  part_asked holds k h =
      let number : before + k + 1 ≡ suc (before + k) = omega arith in
      rw (holds, number)
      (sym
      (numbered_take (most + 1) (drop before (area_pages order a rows columns)) (suc k) (omega arith)
      ∙ numbered-drop before (area_pages order a rows columns) k))

module _ (p : Plan) (n : ℕ) (s : Spot) (rows columns : List ℕ) where
  -- how many they are
  pub on_count : length (pages_on p rows columns n s) ≤ p.pages + 1 - n
  unfolding pages_on
  on_count = omega (arith, length-take (p.pages + 1 - n) (drop s.before (area_pages p.order (area_of p s) rows columns)))

  -- of the area as it is held
  module _ (w : There p n s rows columns) (a : AreaPlan) (e : a ≡ area_of p s) where
    area_holds : holds_area a rows columns ≡ true
    area_holds = rw e w.holds

    pub part_is : part p.order a rows columns s.before (p.pages - n) ≡ pages_on p rows columns n s
    unfolding pages_on
    part_is =
        let most : p.pages - n + 1 ≡ p.pages + 1 - n = omega (arith, (placed p n s w.found).to_count) in
        rw (e, most)

    -- a turn that goes on: there is room, the numbers of its page stay within the plan's count, and what `area_page` answers
    pub record Turn (bytes k : ℕ) : Type 0 where
      pub room : bytes ≤ 65280
      pub own : s.before + k < p.pages
      pub number : n + k ≤ p.pages
      pub asked : area_numbered p.order a rows columns (s.before + k + 1) ≡ numbered (part p.order a rows columns s.before (p.pages - n)) (suc k)

    pub turn : (bytes k : ℕ) → (leb bytes 65280 && leb k (p.pages - n)) ≡ true → Turn bytes k
    turn bytes k e =
        let t = and_parts (leb bytes 65280) (leb k (p.pages - n)) e in
        let few = leb-true k (p.pages - n) t.1 in
        let at = placed p n s w.found in
        record {
          room = leb-true bytes 65280 t.0;
          own = omega (arith, few, at.from_one, at.to_count, at.within.not_later);
          number = omega (arith, few, at.to_count);
          asked = part_asked p.order a rows columns s.before (p.pages - n) area_holds k few;
        }

    -- so the block that the loop leaves is the one that is asked for
    pub held_on : (b : Block) (old new : List ℕ) → LinesHeld n (part p.order a rows columns s.before (p.pages - n)) b old new
        → LinesHeld n (pages_on p rows columns n s) b old new
    held_on b old new l = rw part_is at l

-- ---- the answer

module _ (p : Plan) (n : ℕ) (rows columns : List ℕ) where
  -- there is no such page
  pub block_nowhere : spot_of p n ≡ None → (old : List ℕ) → BlockPut (block_pages p rows columns n) n (Err no.NoSuchNumber) old old
  unfolding block_pages
  block_nowhere e old = rw e (record { answer = refl; array_is = refl })

  module _ (s : Spot) (found : spot_of p n ≡ Some s) (a : AreaPlan) (is : a ≡ area_of p s)
      (answer : Result Page Refusal) (asked : outcome answer ≡ area_numbered p.order a rows columns 1) where
    -- the area has a page, so that only 11 refuses its first
    first_is : ask 11 (holds_area (area_of p s) rows columns) (numbered (area_pages p.order (area_of p s) rows columns) 1) ≡ outcome answer
    unfolding area_numbered
    first_is = rw (← is) (sym asked)

    -- the runs of the area are held
    pub first_there : (first : Page) → answer ≡ Ok first → There p n s rows columns
    first_there first e = record { found = found; holds = (ask_yes 11 _ _ first (first_is ∙ ap outcome e)).0 }

    pub block_given : (first : Page) → answer ≡ Ok first → (b : Block) (old new : List ℕ) → LinesHeld n (pages_on p rows columns n s) b old new
        → BlockPut (block_pages p rows columns n) n (Ok b) old new
    unfolding block_pages
    block_given first e b old new w =
        rw (found, (first_there first e).holds) (record { answer = ap given w.block_is; array_is = w.array_is })

    -- they are not
    pub block_refused : (k : Refusal) → answer ≡ Err k → (old : List ℕ) → BlockPut (block_pages p rows columns n) n (Err k) old old
    unfolding block_pages
    block_refused k e old = rw found (go (holds_area (area_of p s) rows columns) (first_is ∙ ap outcome e))
      where
        go : (b : Bool) → ask 11 b (numbered (area_pages p.order (area_of p s) rows columns) 1) ≡ refused (number_of k)
            → BlockPut (ask 11 b (given (pages_on p rows columns n s))) n (Err k) old old
        go true j =
            let own = own_page p n s found in
            let pages = area_pages p.order (area_of p s) rows columns in
            absurd (omega (arith, there_none pages 0 (number_of k) j, area_length p.order (area_of p s) rows columns, own))
        go false j = let same : 11 ≡ number_of k = cc in record { answer = ap refused (sym same); array_is = refl }
