-- Refusal 10, "Arithmetic above within i64?", never arises in a plan: the content's sides are given and moderate, a capacity and a scaled size
-- of moderate lengths are given, and the questions refuse with other numbers. Assumes nothing.
use mathlib.Core.Path.{◌≡◌, refl, sym, ap, ◌∙◌}
use mathlib.Core.List.{List, [], ◌∷◌}
use mathlib.Core.Bool.{Bool, true, false, cond, true≢false, ◌&&◌, ◌||◌, or-true}
use Prim.Native.Nat.{ℕ, zero, suc, ◌+◌, ◌*◌, ◌/◌, ◌^◌, ◌≤◌, ◌<◌}
use native.Mathlib.Omega.{arith}
use native.Mathlib.Nat.{div-le_self, mul-le-mul, le_trans}
use lib.Dec.{leb, eqb}
use lib.IntN.{ℤ, pos, negsuc, neg_ℤ, nat_abs, ◌*ℤ◌}
use lib.Signed.{mag, quot_z}
use lib.ListN.{length}
use borrow.Author.Tests.{ne_eqb, eq-eqb}
use Rattle.units.specs.Outcome.{Outcome, given, refused, and_then}
use Rattle.units.specs.Units.{in_i64, scale_fixed, less_of, at_least_one, unscaled_capacity}
use Rattle.units.proofs.Signs.{inside}
use Rattle.units.proofs.Scaling.{scaled}
use Rattle.geometry.proofs.ContentLaws.{paper_given, content_given}
use Rattle.planner_rules.specs.declared.planning.Settings.{Settings}
use Rattle.planner_rules.specs.declared.planning.PrintRange.{PrintRange}
use Rattle.planner_rules.specs.Questions.{ask}
use Rattle.planner_rules.specs.Areas.{one_to_eight}
use Rattle.planner_rules.specs.Union.{cells_hold}
use Rattle.planner_rules.specs.Scale.{units}
use Rattle.planner_rules.specs.Lent.{room_in}
use Rattle.planner_rules.specs.Pages.{numbered}
use Rattle.planner_rules.specs.Plan.{Sheet, Sides, AreaLayout, Layout, content_sides, layout, formed, in_grid, rises, small, questioned, within_limit}
use Rattle.planner_rules.specs.Plan.{room_for, planned, counted, rows_in, columns_in, area_at, scale_at, area_room, area_written}
use Rattle.planner_rules.proofs.PlanLaws.{Yes, asks_number}

-- ---- the content's sides

pub sides_given : (s : Settings) → (c : Sides) × (content_sides s ≡ given c) × (mag c.width < 2 ^ 53) × (mag c.height < 2 ^ 53)
unfolding content_sides
sides_given s =
    let p = paper_given s.paper s.landscape in
    let c = content_given p.paper.width p.paper.height s.margins p.wide p.high in (
      record { width = c.content.width; height = c.content.height; unknown = p.paper.unknown; invalid = c.content.invalid },
      rw (p.is, c.is) refl,
      c.wide,
      c.high,
    )

-- ---- a capacity

-- a length that is given and not negative is that of its units
of_units : (o : Outcome ℤ) (n : ℕ) → o ≡ given (pos n) → o ≡ given (pos (units o))
of_units o n e = e ∙ ap (λ (k : ℕ). given (pos k)) (sym (ap units e))

-- "never under 1"
one-pos : (o : Outcome ℤ) → at_least_one o ≡ pos (nat_abs (at_least_one o))
one-pos (given (pos n)) = by (leb 1 n)
  where
    by : (b : Bool) → cond b (pos n) (pos 1) ≡ pos (nat_abs (cond b (pos n) (pos 1)))
    by true = refl
    by false = refl
one-pos (given (negsuc n)) = refl
one-pos (refused k) = refl

mag-neg : (n : ℕ) → mag (neg_ℤ (pos n)) ≤ n
mag-neg zero = omega arith
mag-neg (suc n) = omega arith

mag_quot_neg : (x p : ℕ) → mag (quot_z (neg_ℤ (pos x)) (pos p)) ≤ x
mag_quot_neg zero p = div-le_self 0 p
mag_quot_neg (suc x) p = le_trans (mag-neg (suc x / p)) (div-le_self (suc x) p)

mag_quot : (side : ℤ) (p : ℕ) → mag side < 2 ^ 53 → mag (quot_z (side *ℤ pos 1000) (pos p)) < 2 ^ 63
mag_quot (pos n) p h = omega (arith, div-le_self (n * 1000) p)
mag_quot (negsuc n) p h = omega (arith, mag_quot_neg (suc n * 1000) p)

-- the capacity, where the quotient is in range
capacity_is : (side : ℤ) (p : ℕ) (t h q : ℤ) → 0 < p → in_i64 (quot_z (side *ℤ pos 1000) (pos p)) ≡ given q
    → unscaled_capacity side p t h ≡ given (at_least_one (less_of (less_of (given q) (given t)) (given h)))
unfolding unscaled_capacity
capacity_is side p t h q P e = rw (ne_eqb p 0 (λ z. omega arith), e) refl

pub capacity_given : (side : ℤ) (p t h : ℕ) → mag side < 2 ^ 53 → 0 < p
    → unscaled_capacity side p (pos t) (pos h) ≡ given (pos (units (unscaled_capacity side p (pos t) (pos h))))
capacity_given side p t h M P =
    let q = quot_z (side *ℤ pos 1000) (pos p) in
    let rest = less_of (less_of (given q) (given (pos t))) (given (pos h)) in
    of_units (unscaled_capacity side p (pos t) (pos h)) (nat_abs (at_least_one rest))
    (capacity_is side p (pos t) (pos h) q P (inside q (mag_quot side p M)) ∙ ap given (one-pos rest))

-- ---- a scaled size

pub scaled_given : (x p : ℕ) → x ≤ 2 ^ 53 → p ≤ 4000 → scale_fixed (pos x) p ≡ given (pos ((x * p + 500) / 1000))
scaled_given x p X P =
    let h : x * p ≤ 2 ^ 53 * 4000 = mul-le-mul X P in
    sym (scaled (pos x) p) ∙ inside (pos ((x * p + 500) / 1000)) (omega arith)

-- ---- the numbers that a call refuses with

-- a number is one of these
unfoldable pub among : ℕ → List ℕ → Bool
among k [] = false
among k (n ∷ ns) = eqb n k || among k ns

-- the numbers of the questions before 10
abbrev pub early : List ℕ
early = 4 ∷ 6 ∷ 7 ∷ 15 ∷ 8 ∷ 9 ∷ []

pub not_given : {A : Type 0} (a : A) (k : ℕ) → given a ≡ refused k → ⊥
not_given a k e = cc

-- a question and what comes after it
ask_numbers : {A : Type 0} (n k : ℕ) (b : Bool) (rest : Outcome A) (ns : List ℕ) → (rest ≡ refused k → among k ns ≡ true) → ask n b rest ≡ refused k
    → among k (n ∷ ns) ≡ true
unfolding among
ask_numbers n k true rest ns f e = rw (f e) (or-true (eqb n k))
ask_numbers n k false rest ns f e = let same : n ≡ k = cc in rw (eq-eqb n k same)

none_given : {A : Type 0} (a : A) (k : ℕ) → given a ≡ refused k → among k [] ≡ true
none_given a k e = absurd (not_given a k e)

-- what is not among the first is refused after the questions, which were all answered with yes
pub asked : {A : Type 0} (n k : ℕ) (b : Bool) (rest : Outcome A) → (n ≡ k → ⊥) → ask n b rest ≡ refused k → (b ≡ true) × (rest ≡ refused k)
asked n k true rest d e = (refl, e)
asked n k false rest d e = let same : n ≡ k = cc in absurd (d same)

pub record PastNine {A : Type 0} (s : Sheet) (areas : List PrintRange) (rest : Sides → Outcome A) (k : ℕ) : Type 0 where
  pub sides : Sides
  pub yes : Yes s areas
  pub after : rest sides ≡ refused k

module _ {A : Type 0} (s : Sheet) (areas : List PrintRange) (rest : Sides → Outcome A) (k : ℕ) where
  abbrev nine : Outcome A
  nine = ask 9 (small s) (and_then (content_sides s.settings) rest)

  abbrev eight : Outcome A
  eight = ask 8 (rises s) nine

  abbrev fifteen : Outcome A
  fifteen = ask 15 (cells_hold s.settings.cell_limit areas) eight

  abbrev seven : Outcome A
  seven = ask 7 (in_grid s areas) fifteen

  with_sides : (c : Sides) → content_sides s.settings ≡ given c → and_then (content_sides s.settings) rest ≡ refused k → rest c ≡ refused k
  with_sides c e h = sym (ap (λ (o : Outcome Sides). and_then o rest) e) ∙ h

  pub numbers_of : (ns : List ℕ) → ((c : Sides) → rest c ≡ refused k → among k ns ≡ true) → questioned s areas rest ≡ refused k
      → among k (4 ∷ 6 ∷ 7 ∷ 15 ∷ 8 ∷ 9 ∷ ns) ≡ true
  unfolding questioned
  numbers_of ns f e =
      let c = sides_given s.settings in
      ask_numbers 4 k (one_to_eight (length areas)) (ask 6 (formed s areas) seven) (6 ∷ 7 ∷ 15 ∷ 8 ∷ 9 ∷ ns)
      (ask_numbers 6 k (formed s areas) seven (7 ∷ 15 ∷ 8 ∷ 9 ∷ ns)
      (ask_numbers 7 k (in_grid s areas) fifteen (15 ∷ 8 ∷ 9 ∷ ns)
      (ask_numbers 15 k (cells_hold s.settings.cell_limit areas) eight (8 ∷ 9 ∷ ns)
      (ask_numbers 8 k (rises s) nine (9 ∷ ns)
      (ask_numbers 9 k (small s) (and_then (content_sides s.settings) rest) ns (λ h. f c.0 (with_sides c.0 c.1 h))))))) e

  pub past_nine : among k early ≡ false → questioned s areas rest ≡ refused k → PastNine s areas rest k
  unfolding questioned among
  past_nine h e =
      let c = sides_given s.settings in
      let other : (n : ℕ) → among n early ≡ true → n ≡ k → ⊥ = λ n i j. true≢false (sym i ∙ ap (λ (m : ℕ). among m early) j ∙ h) in
      let four = asked 4 k (one_to_eight (length areas)) (ask 6 (formed s areas) seven) (other 4 refl) e in
      let six = asked 6 k (formed s areas) seven (other 6 refl) four.1 in
      let at7 = asked 7 k (in_grid s areas) fifteen (other 7 refl) six.1 in
      let at15 = asked 15 k (cells_hold s.settings.cell_limit areas) eight (other 15 refl) at7.1 in
      let at8 = asked 8 k (rises s) nine (other 8 refl) at15.1 in
      let at9 = asked 9 k (small s) (and_then (content_sides s.settings) rest) (other 9 refl) at8.1 in
      record {
        sides = c.0;
        yes = record { four = four.0; six = six.0; seven = at7.0; fifteen = at15.0; eight = at8.0; nine = at9.0 };
        after = with_sides c.0 c.1 at9.1;
      }

-- ---- the calls

-- 12, then none
limit_numbers : (s : Sheet) (l : Layout) (k : ℕ) → within_limit s l ≡ refused k → among k (12 ∷ []) ≡ true
unfolding within_limit
limit_numbers s l k e = ask_numbers 12 k (leb l.plan.pages s.settings.page_limit) (given l) [] (none_given l k) e

-- 11, then 12
room_numbers : (s : Sheet) (l : Layout) (row_room column_room k : ℕ) → room_for s l row_room column_room ≡ refused k → among k (11 ∷ 12 ∷ []) ≡ true
unfolding room_for
room_numbers s l row_room column_room k e =
    ask_numbers 11 k (leb (length l.rows) row_room && leb (length l.columns) column_room) (within_limit s l) (12 ∷ []) (limit_numbers s l k) e

-- 11 of one area
area_room_numbers : (l : AreaLayout) (row_room column_room k : ℕ) → area_room l row_room column_room ≡ refused k → among k (11 ∷ []) ≡ true
area_room_numbers l row_room column_room k e =
    ask_numbers 11 k (leb (length l.rows) row_room && leb (length l.columns) column_room) (given l) [] (none_given l k) e

module _ (s : Sheet) (areas : List PrintRange) where
  -- a plan is refused with 4, 6 to 9, 11, 12 or 15
  pub plan_numbers_lem : (rows columns : List ℕ) (k : ℕ) → planned s areas rows columns ≡ refused k → among k (4 ∷ 6 ∷ 7 ∷ 15 ∷ 8 ∷ 9 ∷ 11 ∷ 12 ∷ []) ≡ true
  unfolding planned
  plan_numbers_lem rows columns k e =
      numbers_of s areas _ k (11 ∷ 12 ∷ []) (λ c h. room_numbers s (layout c s areas) (room_in rows) (room_in columns) k h) e

  pub count_numbers : (k : ℕ) → counted s areas ≡ refused k → among k (4 ∷ 6 ∷ 7 ∷ 15 ∷ 8 ∷ 9 ∷ 12 ∷ []) ≡ true
  unfolding counted
  count_numbers k e = numbers_of s areas _ k (12 ∷ []) (λ c h. limit_numbers s (layout c s areas) k h) e

  module _ (n p : ℕ) (rows columns : List ℕ) where
    -- 14, then 11
    number_numbers : (xs : List PrintRange) (m k : ℕ) (f : PrintRange → AreaLayout) (row_room column_room : ℕ)
        → and_then (numbered xs m) (λ (g : PrintRange). area_room (f g) row_room column_room) ≡ refused k → among k (14 ∷ 11 ∷ []) ≡ true
    unfolding numbered among
    number_numbers [] m k f a b e = let same : 14 ≡ k = cc in rw (eq-eqb 14 k same)
    number_numbers (x ∷ xs) zero k f a b e = let same : 14 ≡ k = cc in rw (eq-eqb 14 k same)
    number_numbers (x ∷ xs) (suc zero) k f a b e =
        ask_numbers 14 k true (area_room (f x) a b) (11 ∷ []) (area_room_numbers (f x) a b k) e
    number_numbers (x ∷ xs) (suc (suc m)) k f a b e = number_numbers xs (suc m) k f a b e

    pub area_numbers : 1 ≤ p → (k : ℕ) → area_written s areas n p rows columns ≡ refused k → among k (4 ∷ 6 ∷ 7 ∷ 15 ∷ 8 ∷ 9 ∷ 14 ∷ 11 ∷ []) ≡ true
    unfolding area_written
    area_numbers h k e =
        numbers_of s areas _ k (14 ∷ 11 ∷ [])
        (λ c q. number_numbers areas n k (λ (g : PrintRange). area_at c (rows_in s g) (columns_in s g) (scale_at p)) (room_in rows) (room_in columns)
        (sym (asks_number c s areas n p rows columns h) ∙ q)) e

  pub never_ten : (rows columns : List ℕ) → planned s areas rows columns ≡ refused 10 → ⊥
  unfolding among
  never_ten rows columns e = true≢false (sym (plan_numbers_lem rows columns 10 e))

  pub count_never_ten : counted s areas ≡ refused 10 → ⊥
  unfolding among
  count_never_ten e = true≢false (sym (count_numbers 10 e))

  pub area_never_ten : (n p : ℕ) (rows columns : List ℕ) → 1 ≤ p → area_written s areas n p rows columns ≡ refused 10 → ⊥
  unfolding among
  area_never_ten n p rows columns h e = true≢false (sym (area_numbers n p rows columns h 10 e))
