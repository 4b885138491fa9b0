-- Laws of `specs/Pages.antt`'s definitions: which page has a number, and which number has a page. Assumes nothing.
use mathlib.Core.Path.{◌≡◌, refl, sym, ap, ◌∙◌}
use mathlib.Core.List.{List, [], ◌∷◌, ◌++◌, map}
use Prim.Native.Nat.{ℕ, zero, suc, ◌+◌, ◌-◌, ◌*◌, ◌/◌, ◌%◌, ◌≤◌, ◌<◌}
use native.Mathlib.Nat.{mod-eq_of_lt, mod-eq-sub-mod, div-eq_of_lt, div-eq-sub-div, div-add-mod', add-zero}
use lib.Arith.{digits_lt, digits_div, digits_mod}
use native.Mathlib.Omega.{arith}
use lib.ListN.{length, get_or, take, length-take, length-append}
use Rattle.units.specs.Outcome.{given, refused}
use Rattle.planner_rules.specs.declared.pages.PageOrder.{PageOrder}
use Rattle.planner_rules.specs.declared.pages.PageOrder.TheVariants.{DownThenOver, OverThenDown}
use Rattle.planner_rules.specs.Pages.{up_from, joined, in_order, numbered, place_of}
use Rattle.planner_rules.proofs.Laws.{split}
use Rattle.std.proofs.lemmas.Nat.{div_below, mod_below}

-- ---- one of a list by its number

module _ {A : Type 0} where
  pub numbered_zero : (xs : List A) → numbered xs 0 ≡ refused 14
  unfolding numbered
  numbered_zero [] = refl
  numbered_zero (x ∷ xs) = refl

  -- past the list's end there is none
  pub numbered_past : (xs : List A) (n : ℕ) → length xs < n → numbered xs n ≡ refused 14
  unfolding numbered
  numbered_past [] n h = refl
  numbered_past (x ∷ xs) zero h = absurd (omega arith)
  numbered_past (x ∷ xs) (suc zero) h = absurd (omega arith)
  numbered_past (x ∷ xs) (suc (suc n)) h = numbered_past xs (suc n) (omega arith)

  -- what has a number stands in the list
  pub numbered_at : (xs : List A) (n : ℕ) (x d : A) → numbered xs n ≡ given x → (1 ≤ n) × (n ≤ length xs) × (get_or xs (n - 1) d ≡ x)
  unfolding numbered
  numbered_at [] n x d e = absurd cc
  numbered_at (y ∷ xs) zero x d e = absurd cc
  numbered_at (y ∷ xs) (suc zero) x d e = (omega arith, omega arith, cc)
  numbered_at (y ∷ xs) (suc (suc n)) x d e =
      let rest = numbered_at xs (suc n) x d e in
      let one : suc n - 1 ≡ n = omega arith in
      let two : suc (suc n) - 1 ≡ suc n = omega arith in
      (omega arith, omega (arith, rest.1), rw two (rw one at rest.2))

  -- of two lists, in the first
  pub numbered_first : (xs ys : List A) (n : ℕ) → n ≤ length xs → numbered (xs ++ ys) n ≡ numbered xs n
  unfolding numbered
  numbered_first [] ys n h = let e : n ≡ 0 = omega arith in rw e (numbered_zero ys)
  numbered_first (x ∷ xs) ys zero h = refl
  numbered_first (x ∷ xs) ys (suc zero) h = refl
  numbered_first (x ∷ xs) ys (suc (suc n)) h = numbered_first xs ys (suc n) (omega arith)

  -- in the second
  pub numbered_second : (xs ys : List A) (n : ℕ) → length xs ≤ n → numbered (xs ++ ys) (suc n) ≡ numbered ys (suc (n - length xs))
  unfolding numbered
  numbered_second [] ys n h = let e : n - 0 ≡ n = omega arith in rw e
  numbered_second (x ∷ xs) ys zero h = absurd (omega arith)
  numbered_second (x ∷ xs) ys (suc n) h =
      let e : suc n - suc (length xs) ≡ n - length xs = omega arith in
      rw e (numbered_second xs ys n (omega arith))

  -- of the first k, up to k
  pub numbered_take : (k : ℕ) (xs : List A) (n : ℕ) → n ≤ k → numbered (take k xs) n ≡ numbered xs n
  unfolding numbered
  numbered_take zero xs n h = let e : n ≡ 0 = omega arith in rw e (sym (numbered_zero xs))
  numbered_take (suc k) [] n h = refl
  numbered_take (suc k) (x ∷ xs) zero h = refl
  numbered_take (suc k) (x ∷ xs) (suc zero) h = refl
  numbered_take (suc k) (x ∷ xs) (suc (suc n)) h = numbered_take k xs (suc n) (omega arith)

  -- and past k there is none
  pub numbered_take_past : (k : ℕ) (xs : List A) (n : ℕ) → k < n → numbered (take k xs) n ≡ refused 14
  numbered_take_past k xs n h = numbered_past (take k xs) n (omega (arith, length-take k xs))

  -- ---- lines of m, one after another

  abbrev lines : (ℕ → ℕ → A) → ℕ → ℕ → ℕ → List A
  lines f m k n = joined (map (λ (o : ℕ). map (λ (i : ℕ). f o i) (up_from 0 m)) (up_from k n))

  line_length : (f : ℕ → A) (k m : ℕ) → length (map f (up_from k m)) ≡ m
  unfolding up_from
  line_length f k zero = refl
  line_length f k (suc m) = ap suc (line_length f (suc k) m)

  line_at : (f : ℕ → A) (k m i : ℕ) → i < m → numbered (map f (up_from k m)) (suc i) ≡ given (f (i + k))
  unfolding up_from numbered
  line_at f k zero i h = absurd (omega arith)
  line_at f k (suc m) zero h = let e : 0 + k ≡ k = omega arith in rw e
  line_at f k (suc m) (suc i) h = let e : suc i + k ≡ i + suc k = omega arith in rw e (line_at f (suc k) m i (omega arith))

  lines_length : (f : ℕ → ℕ → A) (m k n : ℕ) → length (lines f m k n) ≡ n * m
  unfolding joined up_from
  lines_length f m k zero = omega arith
  lines_length f m k (suc n) =
      omega (arith, length-append (map (f k) (up_from 0 m)) (lines f m (suc k) n), line_length (f k) 0 m, lines_length f m (suc k) n)

  lines_at : (f : ℕ → ℕ → A) (m k n i : ℕ) → i < n * m → numbered (lines f m k n) (suc i) ≡ given (f (i / m + k) (i % m))
  unfolding joined up_from
  lines_at f m k zero i h = absurd (omega arith)
  lines_at f m k (suc n) i h =
      let line : List A = map (f k) (up_from 0 m) in
      let long : length line ≡ m = line_length (f k) 0 m in
      split m i
      (λ l.
      let low : 0 < m = split m 0 (λ z. let e : m ≡ 0 = omega arith in absurd (omega (arith, rw e at h))) (λ z. z) in
      let q : i / m + k ≡ (i - m) / m + suc k = omega (arith, div-eq-sub-div low l) in
      numbered_second line (lines f m (suc k) n) i (omega arith)
      ∙ rw (long, q, mod-eq-sub-mod l) (lines_at f m (suc k) n (i - m) (omega arith)))
      (λ l.
      let q : i / m + k ≡ k = omega (arith, div-eq_of_lt l) in
      numbered_first line (lines f m (suc k) n) (suc i) (omega arith) ∙ rw (q, mod-eq_of_lt l) (rw (add-zero i) at (line_at (f k) 0 m i l)))

-- ---- pages in order

-- of the page that has so many pages before it, where there are so many rows and columns of pages: the number of its run of rows, from 0
abbrev pub vertical_of : PageOrder → ℕ → ℕ → ℕ → ℕ
vertical_of order rows columns before = (place_of order rows columns before).vertical

-- and of its run of columns
abbrev pub horizontal_of : PageOrder → ℕ → ℕ → ℕ → ℕ
horizontal_of order rows columns before = (place_of order rows columns before).horizontal

-- how many pages stand before the page of two runs
abbrev pub before_of : PageOrder → ℕ → ℕ → ℕ → ℕ → ℕ
before_of DownThenOver rows columns v h = h * rows + v
before_of OverThenDown rows columns v h = v * columns + h

module _ {A : Type 0} (rows columns : ℕ) (page : ℕ → ℕ → A) where
  pub page_count : (order : PageOrder) → length (in_order order rows columns page) ≡ rows * columns
  unfolding in_order
  page_count DownThenOver = omega (arith, lines_length (λ (h v : ℕ). page v h) rows 0 columns)
  page_count OverThenDown = lines_length page columns 0 rows

  -- by how many pages stand before it
  pub page_after : (order : PageOrder) (before : ℕ) → before < rows * columns
      → numbered (in_order order rows columns page) (suc before)
      ≡ given (page (vertical_of order rows columns before) (horizontal_of order rows columns before))
  unfolding in_order
  page_after DownThenOver before h = rw (add-zero (before / rows)) at (lines_at (λ (h v : ℕ). page v h) rows 0 columns before (omega arith))
  page_after OverThenDown before h = rw (add-zero (before / columns)) at (lines_at page columns 0 rows before h)

  -- by its number
  pub page_of : (order : PageOrder) (n : ℕ) → 1 ≤ n → n ≤ rows * columns
      → numbered (in_order order rows columns page) n ≡ given (page (vertical_of order rows columns (n - 1)) (horizontal_of order rows columns (n - 1)))
  page_of order zero low high = absurd (omega arith)
  page_of order (suc n) low high = let e : suc n - 1 ≡ n = omega arith in rw e (page_after order n (omega arith))

-- ---- the place of a page, and the page at a place

-- a number below n lines of m is in a line, at a place of it
module _ (n m i : ℕ) (h : i < n * m) where
  wide : 0 < m
  wide = split m 0 (λ z. let e : m ≡ 0 = omega arith in absurd (omega (arith, rw e at h))) (λ z. z)

module _ (rows columns : ℕ) where
  module _ (before : ℕ) (h : before < rows * columns) where
    pub vertical_below : (order : PageOrder) → vertical_of order rows columns before < rows
    vertical_below DownThenOver = mod_below before rows (wide columns rows before (omega arith))
    vertical_below OverThenDown = div_below before columns rows (wide rows columns before h) h

    pub horizontal_below : (order : PageOrder) → horizontal_of order rows columns before < columns
    horizontal_below DownThenOver = div_below before rows columns (wide columns rows before (omega arith)) (omega arith)
    horizontal_below OverThenDown = mod_below before columns (wide rows columns before h)

    pub before_of_place : (order : PageOrder) → before_of order rows columns (vertical_of order rows columns before) (horizontal_of order rows columns before)
        ≡ before
    before_of_place DownThenOver = div-add-mod' before rows
    before_of_place OverThenDown = div-add-mod' before columns

  module _ (v h : ℕ) (below : v < rows) (right : h < columns) where
    pub before_below : (order : PageOrder) → before_of order rows columns v h < rows * columns
    before_below DownThenOver = omega (arith, digits_lt right below)
    before_below OverThenDown = digits_lt below right

    pub vertical_is : (order : PageOrder) → vertical_of order rows columns (before_of order rows columns v h) ≡ v
    vertical_is DownThenOver = digits_mod h below
    vertical_is OverThenDown = digits_div v right

    pub horizontal_is : (order : PageOrder) → horizontal_of order rows columns (before_of order rows columns v h) ≡ h
    horizontal_is DownThenOver = digits_div h below
    horizontal_is OverThenDown = digits_mod v right
