-- Laws of the whole list of pages: how many there are, what stands in the lent list, and that the list and the page by number agree. Assumes nothing.
use mathlib.Core.Path.{◌≡◌, refl, sym, ap, ◌∙◌}
use mathlib.Core.Bool.{Bool, true, false}
use mathlib.Core.List.{List, [], ◌∷◌, ◌++◌}
use Prim.Native.Nat.{ℕ, zero, suc, ◌+◌, ◌-◌, ◌≤◌, ◌<◌, min, zero-le}
use native.Mathlib.Nat.{le_refl}
use native.Mathlib.Numerals.{add-one}
use native.Mathlib.Omega.{arith}
use lib.Dec.{leb}
use lib.ListN.{length, take, drop, set, length-take}
use lib.Seq.{take-length}
use borrow.Author.Tests.{le-leb, lt-leb, leb-true}
use Rattle.std.specs.Prelude.{Result, Ok, Err}
use Rattle.units.specs.Outcome.{Outcome, given, refused}
use Rattle.planner_rules.specs.declared.pages.AreaPlan.{AreaPlan}
use Rattle.planner_rules.specs.declared.pages.Page.{Page}
use Rattle.planner_rules.specs.declared.pages.Plan.{Plan}
use Rattle.planner_rules.specs.declared.pages.Spot.{Spot}
use Rattle.planner_rules.specs.Questions.{ask}
use Rattle.planner_rules.specs.Areas.{plans_in, over_areas}
use Rattle.planner_rules.specs.Lent.{room_in}
use Rattle.planner_rules.specs.Pages.{pages_in, areas_pages, pages_of, row_runs, column_runs, holds_runs, numbered, page_numbered, list_pages, pages_lent}
use Rattle.planner_rules.specs.Pages.{page_count, walk_from, spot_page}
use Rattle.planner_rules.proofs.PageLaws.{numbered_first, numbered_take}
use Rattle.planner_rules.proofs.AreaPages.{areas_length, walk_past, walk_all, walk_more, walk_page}
use Rattle.planner_rules.proofs.PagesCode.{rooms_of}

-- ---- how many pages a plan has

module _ (p : Plan) where
  abbrev areas : List AreaPlan
  areas = plans_in p.areas

  -- by where the walk ends that takes off as many pages as the plan says
  pub count_within : (s : Spot) → walk_from 0 p.pages areas ≡ Ok s → p.pages ≡ page_count p
  count_within s q = omega (arith, walk_more p.pages areas s q)

  pub count_left : (n : ℕ) → walk_from 0 p.pages areas ≡ Err n → (n ≤ p.pages) × (p.pages - n ≡ page_count p)
  count_left n q = let all = (walk_past p.pages areas n q).passed in (omega (arith, all), omega (arith, all))

  pub list_length : (rows columns : List ℕ) → length (pages_of p rows columns) ≡ page_count p
  unfolding pages_of
  list_length rows columns =
      length-take p.pages (areas_pages p.order areas rows columns) ∙ ap (min p.pages) (areas_length p.order areas rows columns)

-- ---- what is answered

module _ (p : Plan) (room : ℕ) (rows columns : List ℕ) where
  abbrev all : List Page
  all = pages_of p rows columns

  pub list_refused : holds_runs p rows columns ≡ false → refused 11 ≡ list_pages p rows columns room
  unfolding list_pages
  list_refused h = rw h

  module _ (h : holds_runs p rows columns ≡ true) (n : ℕ) (counted : n ≡ page_count p) where
    so_many : n ≡ length all
    so_many = counted ∙ sym (list_length p rows columns)

    pub list_long : room < n → refused 13 ≡ list_pages p rows columns room
    unfolding list_pages
    list_long l = let m : room < length all = omega (arith, so_many) in rw (h, lt-leb (length all) room m)

    pub list_fits : n ≤ room → given n ≡ list_pages p rows columns room
    unfolding list_pages
    list_fits l = let m : length all ≤ room = omega (arith, so_many) in ap given so_many ∙ rw (h, le-leb (length all) room m)

-- ---- a lent list, written from the front

module _ {A : Type 0} where
  filled_suc : (i : ℕ) (xs ys : List A) (x : A) → numbered xs (suc i) ≡ given x → i < length ys → set (take i xs ++ drop i ys) i x ≡ take (suc i) xs ++ drop
      (suc i) ys
  unfolding numbered
  filled_suc i [] ys x e h = absurd cc
  filled_suc i (z ∷ xs) [] x e h = absurd (omega arith)
  filled_suc zero (z ∷ xs) (y ∷ ys) x e h = let same : z ≡ x = cc in ap (λ (w : A). w ∷ ys) (sym same)
  filled_suc (suc i) (z ∷ xs) (y ∷ ys) x e h = ap (λ (l : List A). z ∷ l) (filled_suc i xs ys x e (omega arith))

  -- one more
  pub filled_more : (i : ℕ) (xs ys : List A) (x : A) → numbered xs (suc i) ≡ given x → i < length ys → set (take i xs ++ drop i ys) i x ≡ take
      (i + 1) xs ++ drop (i + 1) ys
  filled_more i xs ys x e h = rw add-one (filled_suc i xs ys x e h)

-- ---- what the questions say of the count

-- how many pages are written
abbrev pub count_in : Outcome ℕ → ℕ
count_in (given n) = n
count_in (refused n) = 0

abbrev two : Bool → Bool → ℕ → Outcome ℕ
two b d n = ask 11 b (ask 13 d (given n))

all_yes : (b d : Bool) (n i : ℕ) → i < count_in (two b d n) → (b ≡ true) × (d ≡ true) × (i < n)
all_yes false d n i h = absurd (omega arith)
all_yes true false n i h = absurd (omega arith)
all_yes true true n i h = (refl, refl, h)

at_most : (b d : Bool) (n m : ℕ) → (d ≡ true → n ≤ m) → count_in (two b d n) ≤ m
at_most false d n m f = zero-le
at_most true false n m f = zero-le
at_most true true n m f = f refl

all_lent : (b d : Bool) (xs ys : List Page)
    → take (count_in (two b d (length xs))) xs ++ drop (count_in (two b d (length xs))) ys ≡ pages_lent (two b d (length xs)) xs ys
all_lent false d xs ys = refl
all_lent true false xs ys = refl
all_lent true true xs ys = ap (λ (l : List Page). l ++ drop (length xs) ys) (take-length xs)

module _ (p : Plan) (rows columns : List ℕ) (room : ℕ) where
  abbrev pages : List Page
  pages = pages_of p rows columns

  abbrev fit : Bool
  fit = leb (length pages) room

  abbrev count : ℕ
  count = count_in (list_pages p rows columns room)

  pub count_room : count ≤ room
  unfolding list_pages
  count_room = at_most (holds_runs p rows columns) fit (length pages) room (leb-true (length pages) room)

  pub count_pages_of : count ≤ length pages
  unfolding list_pages
  count_pages_of = at_most (holds_runs p rows columns) fit (length pages) (length pages) (λ _. le_refl (length pages))

  -- what `page_after` of `planner_pages` relies on for the page that has i pages before it
  pub page_asked : (i : ℕ) → i < count
      → (row_runs (plans_in p.areas) ≤ room_in rows) × ((column_runs (plans_in p.areas) ≤ room_in columns) × (i < over_areas pages_in (plans_in p.areas)))
  unfolding list_pages
  page_asked i h =
      let y = all_yes (holds_runs p rows columns) fit (length pages) i h in
      let rooms = rooms_of p rows columns y.0 in
      let low = y.2 in
      (rooms.0, (rooms.1, omega (arith, low, list_length p rows columns)))

  -- that page is the next of the list
  pub page_next : (i : ℕ) → i < count → numbered pages (suc i) ≡ numbered (areas_pages p.order (plans_in p.areas) rows columns) (suc i)
  unfolding pages_of
  page_next i h =
      let within : suc i ≤ p.pages = omega (arith, count_pages_of, list_length p rows columns) in
      numbered_take p.pages (areas_pages p.order (plans_in p.areas) rows columns) (suc i) within

  -- and stands where the walk ends
  pub page_next_is : (i : ℕ) → i < count
      → (s : Spot) × (walk_from 0 i (plans_in p.areas) ≡ Ok s) × (numbered pages (suc i) ≡ given (spot_page p.order (plans_in p.areas) rows columns s))
  page_next_is i h = ended (walk_from 0 i (plans_in p.areas)) refl
    where
      ended : (r : Result Spot ℕ) → walk_from 0 i (plans_in p.areas) ≡ r
          → (s : Spot) × (walk_from 0 i (plans_in p.areas) ≡ Ok s) × (numbered pages (suc i) ≡ given (spot_page p.order (plans_in p.areas) rows columns s))
      ended (Ok s) q = (s, q, page_next i h ∙ walk_page p.order (plans_in p.areas) rows columns i s q)
      ended (Err n) q = absurd (omega (arith, walk_all i (plans_in p.areas) n q, (page_asked i h).1.1))

-- when all are written
pub pages_lent_lem : (p : Plan) (rows columns : List ℕ) (ys : List Page)
    → let outcome = list_pages p rows columns (length ys) in
    take (count_in outcome) (pages_of p rows columns) ++ drop (count_in outcome) ys ≡ pages_lent outcome (pages_of p rows columns) ys
unfolding list_pages
pages_lent_lem p rows columns ys = all_lent (holds_runs p rows columns) (leb (length (pages_of p rows columns)) (length ys)) (pages_of p rows columns) ys

-- ---- the list and the page by number

-- where every question up to 13 is answered yes, a page by number is one of the list
by_number : (b d : Bool) (xs ys : List Page) (n k : ℕ) → two b d (length xs) ≡ given n → k ≤ n
    → numbered (pages_lent (two b d (length xs)) xs ys) k ≡ ask 11 b (numbered xs k)
by_number false d xs ys n k e h = absurd cc
by_number true false xs ys n k e h = absurd cc
by_number true true xs ys n k e h = let z : length xs ≡ n = ap count_in e in numbered_first xs (drop (length xs) ys) k (omega arith)

-- "For a plan left as it was answered, both give the same pages, numbers 1 to its count.": of any plan whose list was written, the k-th of
-- the lent list is what the page by its number k is, up to as many as were written
pub list_agrees : (p : Plan) (rows columns : List ℕ) (old : List Page) (n k : ℕ) → list_pages p rows columns (length old) ≡ given n → k ≤ n
    → numbered (pages_lent (list_pages p rows columns (length old)) (pages_of p rows columns) old) k ≡ page_numbered p rows columns k
unfolding list_pages page_numbered
list_agrees p rows columns old n k e h =
    by_number (holds_runs p rows columns) (leb (length (pages_of p rows columns)) (length old)) (pages_of p rows columns) old n k e h
