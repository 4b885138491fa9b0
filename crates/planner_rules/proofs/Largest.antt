-- With no merges and no title, where both content sides exceed the headings: the fit scale is the largest permille at which each axis has a
-- division that meets its target and whose runs all fit the page. Assumes nothing.
use mathlib.Core.Path.{◌≡◌, refl, sym, ap, ◌∙◌}
use mathlib.Core.Logic.{◌↔◌, ◌⊎◌, inl, inr, ⊎_elim}
use mathlib.Core.Bool.{true, cond, ◌&&◌}
use mathlib.Core.List.{List, [], ◌∷◌, ◌++◌, map}
use Prim.Native.Nat.{ℕ, zero, suc, ◌+◌, ◌-◌, ◌*◌, ◌/◌, ◌^◌, ◌≤◌, ◌<◌, max}
use native.Mathlib.Nat.{le-div_iff_mul-le, mul-le-mul_left, mul-le-mul_right, le_trans, add-zero, div-le_self}
use native.Mathlib.Omega.{arith}
use lib.ListN.{length, length-map}
use lib.Seq.{take_all}
use lib.Dec.{leb, ltb}
use lib.IntN.{ℤ, pos, negsuc, nat_abs}
use borrow.Author.Tests.{lt-ltb, le-ltb, le-leb, lt-leb, leb-true, ne_eqb}
use Rattle.units.specs.Outcome.{Outcome, given}
use Rattle.units.specs.Units.{in_i64, half_up, less_of, at_least_one, scale_fixed, unscaled_capacity}
use Rattle.planner_rules.specs.declared.titles.Title.TheVariants.{Absent}
use Rattle.planner_rules.specs.declared.runs.Frame.{Frame}
use Rattle.planner_rules.specs.Slots.{sum}
use Rattle.planner_rules.specs.Titles.{past_title}
use Rattle.planner_rules.specs.Runs.{Run, run, runs, stretch, axis_runs}
use Rattle.planner_rules.specs.Lent.{sizes}
use Rattle.planner_rules.specs.Division.{◌∈◌, Division, pieces, Within, Fewest}
use Rattle.planner_rules.specs.Scale.{Space, Body, units, capacity_of, frame_for, runs_at, fits_side, rendered, all_fit, runs_fit, meets, axis_passes}
use Rattle.planner_rules.specs.Scale.{fit_scale}
use Rattle.planner_rules.specs.Fitting.{RoundedFits, FitsPage, MeetsTarget, Reaches, Chosen}
use Rattle.planner_rules.specs.Pages.{joined}
use Rattle.planner_rules.proofs.Laws.{either, split}
use Rattle.planner_rules.proofs.AxisLaws.{unmarked}
use Rattle.planner_rules.proofs.Division.{join_pieces}
use Rattle.planner_rules.proofs.Whole.{axis_tells}
use Rattle.planner_rules.proofs.Fewest.{axis_fewest}
use Rattle.planner_rules.proofs.Halving.{fit_chosen}
use Rattle.planner_rules.proofs.Cuts.{counts, kept_cuts}
use Rattle.std.proofs.lemmas.Bool.{and_parts, and_from}
use Rattle.units.proofs.Signs.{inside}

-- ---- slots of runs

-- each number is at most the sum
sum_has : (x : ℕ) (xs : List ℕ) → x ∈ xs → x ≤ sum xs
unfolding sum
sum_has x [] x'' = elim x'' [ ]
sum_has x (y ∷ ys) (inl e) = omega arith
sum_has x (y ∷ ys) (inr i) = omega (arith, sum_has x ys i)

in_append : {A : Type 0} (x : A) (xs ys : List A) → x ∈ (xs ++ ys) → (x ∈ xs) ⊎ (x ∈ ys)
in_append x [] ys i = inr i
in_append x (z ∷ xs) ys (inl e) = inl (inl e)
in_append x (z ∷ xs) ys (inr i) = ⊎_elim (λ j. inl (inr j)) (λ j. inr j) (in_append x xs ys i)

in_left : {A : Type 0} (x : A) (xs ys : List A) → x ∈ xs → x ∈ (xs ++ ys)
in_left {A = A} x [] ys x'' = elim x'' [ ]
in_left x (z ∷ xs) ys (inl e) = inl e
in_left x (z ∷ xs) ys (inr i) = inr (in_left x xs ys i)

in_right : {A : Type 0} (x : A) (xs ys : List A) → x ∈ ys → x ∈ (xs ++ ys)
in_right x [] ys i = i
in_right x (z ∷ xs) ys i = inr (in_right x xs ys i)

in_map : {A B : Type 0} (f : A → B) (x : A) (xs : List A) → x ∈ xs → f x ∈ map f xs
in_map {A = A} {B = B} f x [] x'' = elim x'' [ ]
in_map f x (y ∷ ys) (inl e) = inl (ap f e)
in_map f x (y ∷ ys) (inr i) = inr (in_map f x ys i)

of_map : {A B : Type 0} (f : A → B) (z : B) (xs : List A) → z ∈ map f xs → (x : A) × (x ∈ xs) × (z ≡ f x)
of_map {A = A} {B = B} f z [] x' = elim x' [ ]
of_map f z (y ∷ ys) (inl e) = (y, inl refl, e)
of_map f z (y ∷ ys) (inr i) = let r = of_map f z ys i in (r.0, inr r.1, r.2)

-- what is in runs put together is in one of them
in_some : (x : ℕ) (ps : List (List ℕ)) → x ∈ joined ps → (run : List ℕ) × (run ∈ ps) × (x ∈ run)
unfolding joined
in_some x [] i = elim i [ ]
in_some x (p ∷ ps) i =
    ⊎_elim (λ j. (p, inl refl, j)) (λ j. let r = in_some x ps j in (r.0, inr r.1, r.2)) (in_append x p (joined ps) i)

-- and the other way
in_join : (x : ℕ) (run : List ℕ) (ps : List (List ℕ)) → run ∈ ps → x ∈ run → x ∈ joined ps
unfolding joined
in_join x run [] x3 j = elim x3 [ ]
in_join x run (p ∷ ps) (inl e) j = in_left x p (joined ps) (rw e at j)
in_join x run (p ∷ ps) (inr i) j = in_right x p (joined ps) (in_join x run ps i j)

-- a run of one slot is that slot
alone : (run : List ℕ) → length run ≡ 1 → sum run ∈ run
unfolding sum
alone [] e = absurd (omega arith)
alone (x ∷ []) e = inl (omega arith)
alone (x ∷ y ∷ run) e = absurd (omega arith)

-- a slot of a run of some division is a slot of a run of another
in_other : (x : ℕ) (ss ns ms run : List ℕ) → Division (length ss) ns → Division (length ss) ms → run ∈ pieces ns ss → x ∈ run
    → (other : List ℕ) × (other ∈ pieces ms ss) × (x ∈ other)
in_other x ss ns ms run d e i j =
    let s : x ∈ ss = rw (join_pieces ns ss d.whole) at (in_join x run (pieces ns ss) i j) in
    in_some x (pieces ms ss) (rw (join_pieces ms ss e.whole) s)

-- ---- fitting, at a permille and at lower ones

rounded_le : (a b : ℕ) → a ≤ b → (a + 500) / 1000 ≤ (b + 500) / 1000
rounded_le a b h = omega arith

fits_lower : (side headings p q : ℕ) → q ≤ p → (run : List ℕ) → FitsPage side headings p run → FitsPage side headings q run
fits_lower side headings p q l run f =
    let m : q * (sum run + headings) ≤ p * (sum run + headings) = mul-le-mul_right (sum run + headings) l in
    record { several = λ t. le_trans m (f.several t); single = λ t. le_trans (rounded_le _ _ m) (f.single t) }

pub reaches_lower : (side headings target : ℕ) (ss : List ℕ) (p q : ℕ) → q ≤ p → Reaches side headings target ss p → Reaches side headings target ss q
reaches_lower side headings target ss p q l r = record {
  slots = r.slots;
  division = r.division;
  meets = r.meets;
  fit = λ run i. fits_lower side headings p q l run (r.fit run i);
}

-- the capacity of a page: "never under 1"
abbrev capacity : ℕ → ℕ → ℕ → ℕ
capacity side headings p = max 1 (side * 1000 / p - headings)

module _ (side headings p : ℕ) (low : 0 < p) (high : p ≤ 1000) (room : headings < side) where
  -- a run that fits a page exactly is within its capacity, and the other way
  cap_of : (x : ℕ) → p * (x + headings) ≤ 1000 * side → x ≤ capacity side headings p
  cap_of x h = let q : x + headings ≤ side * 1000 / p = (le-div_iff_mul-le low).1 (omega arith) in omega arith

  of_cap : (x : ℕ) → x ≤ capacity side headings p → p * (x + headings) ≤ 1000 * side
  of_cap x h =
      let s : side ≤ side * 1000 / p = (le-div_iff_mul-le low).1 (mul-le-mul_left side high) in
      let q : (x + headings) * p ≤ side * 1000 = (le-div_iff_mul-le low).0 (omega arith) in
      omega arith

  headings_fit : RoundedFits side headings p 0
  headings_fit = omega (arith, mul-le-mul_right headings high)

  -- a run that fits does so rounded, whatever its slots
  fits_rounded : (run : List ℕ) → FitsPage side headings p run → RoundedFits side headings p (sum run)
  unfolding sum
  fits_rounded [] f = headings_fit
  fits_rounded (x ∷ []) f = f.single refl
  fits_rounded (x ∷ y ∷ run) f = omega (arith, f.several (omega arith))

  -- each slot of a run that fits does so alone
  slot_fits : (x : ℕ) (run : List ℕ) → x ∈ run → FitsPage side headings p run → RoundedFits side headings p x
  slot_fits x run i f =
      le_trans (rounded_le (p * (x + headings)) (p * (sum run + headings)) (mul-le-mul_left p (omega (arith, sum_has x run i)))) (fits_rounded run f)

  -- ---- the fewest runs within capacity: they meet the target and fit if those of any division do

  module _ (ss ns : List ℕ) (best : Fewest (capacity side headings p) [] ss ns) where
    fewest_fit : ((run : List ℕ) → run ∈ pieces ns ss → length run ≡ 1 → RoundedFits side headings p (sum run))
        → (run : List ℕ) → run ∈ pieces ns ss → FitsPage side headings p run
    fewest_fit rounded run i = record { several = λ t. of_cap (sum run) (best.within_capacity run i t); single = rounded run i }

    fewest_reaches : (target : ℕ) → Reaches side headings target ss p
        → MeetsTarget target (length ns) × ((run : List ℕ) → run ∈ pieces ns ss → FitsPage side headings p run)
    fewest_reaches target r =
        let within : Within (capacity side headings p) ss r.slots = λ run i t. cap_of (sum run) ((r.fit run i).several t) in (
          λ t. le_trans (best.none_fewer r.slots r.division (λ b i. absurd i) within) (r.meets t),
          fewest_fit (λ run i e. let o = in_other (sum run) ss ns r.slots run best.division r.division i (alone run e) in
              slot_fits (sum run) o.0 o.2 (r.fit o.0 o.1)),
        )

-- ---- capacity and fitting as the planner finds them

-- never under 1
one-pos : (n : ℕ) → n < 2 ^ 63 → nat_abs (at_least_one (in_i64 (pos n))) ≡ max 1 n
one-pos n h = rw (inside (pos n) h) (split 1 n (λ l. rw (le-leb 1 n l) (omega arith)) (λ l. rw (lt-leb 1 n l) (omega arith)))

one-neg : (n : ℕ) → nat_abs (at_least_one (in_i64 (negsuc n))) ≡ 1
unfolding in_i64
one-neg n = either (λ (o : Outcome ℤ). nat_abs (at_least_one o) ≡ 1) (ltb n (2 ^ 63)) refl refl

less_one : (q t : ℕ) → q < 2 ^ 63 → nat_abs (at_least_one (less_of (given (pos q)) (given (pos t)))) ≡ max 1 (q - t)
less_one q zero h = one-pos (q + 0) (omega arith) ∙ omega arith
less_one q (suc t) h =
    split (suc t) q (λ l. rw (le-ltb q (suc t) l) (one-pos (q - suc t) (omega arith))) (λ l. rw (lt-ltb q (suc t) l) (one-neg (suc t - suc q) ∙ omega arith))

-- the capacity beside no titles
pub capacity_is : (n h p : ℕ) → 0 < p → n * 1000 / p < 2 ^ 63 → units (unscaled_capacity (pos n) p (pos 0) (pos h)) ≡ max 1 (n * 1000 / p - h)
unfolding unscaled_capacity
capacity_is n h p low k =
    let q : ℕ = n * 1000 / p in
    rw (ne_eqb p 0 (λ e. omega arith), inside (pos q) k, add-zero, inside (pos q) k) (less_one q h k)

-- a size scaled and rounded, beside a side within i64
fits_side_lem : (s : Space) (n p x : ℕ) → s.side ≡ pos n → n < 2 ^ 63 → fits_side s p x ≡ leb ((p * x + 500) / 1000) n
unfolding fits_side scale_fixed in_i64
fits_side_lem s n p x e k =
    let y : ℕ = (p * x + 500) / 1000 in
    let r : half_up (x * p) 1000 ≡ y = omega arith in
    rw (e, r) (split (2 ^ 63) y (λ l. rw (le-ltb y (2 ^ 63) l, lt-leb y n (omega arith))) (λ l. rw (lt-ltb y (2 ^ 63) l)))

-- ---- the runs of an axis without breaks

runs_whole : (k : Frame) (fs ls is ss : List ℕ) → length is ≡ length ss → axis_runs k fs ls is ss 0 [] ≡ runs k fs ls is ss
unfolding axis_runs stretch
runs_whole k fs ls is ss even =
    rw (take_all (length ss - 0) is (omega arith), take_all (length ss - 0) ss (omega arith)) (unmarked k fs ls is ss)

-- ---- the test of an axis is the demand's

meets_is : (target n : ℕ) → (meets target n ≡ true) ↔ MeetsTarget target n
meets_is zero n = ((λ e z. absurd (z refl)), λ h. refl)
meets_is (suc t) n = rw (ne_eqb (suc t) 0 (λ e. omega arith)) ((λ e z. leb-true n (suc t) e), λ h. le-leb n (suc t) (h (λ e. omega arith)))

-- no merges and no title, as many indexes as sizes, and a side of n units that exceeds the headings; below 2^53 the side times 1,000 is
-- within i64
pub record Plain (s : Space) (b : Body) (n : ℕ) : Type 0 where
  pub side_is : s.side ≡ pos n
  pub moderate : n < 2 ^ 53
  pub room : s.headings < n
  pub no_titles : s.titles ≡ 0
  pub no_title : b.title ≡ Absent
  pub no_firsts : b.firsts ≡ []
  pub no_lasts : b.lasts ≡ []
  pub even : length b.indexes ≡ length b.sizes

module _ (s : Space) (b : Body) (n : ℕ) (plain : Plain s b n) (p : ℕ) (low : 0 < p) (high : p ≤ 1000) where
  abbrev Rounded : ℕ → Type 0
  Rounded z = RoundedFits n s.headings p z

  run_fits : (r : Run) → fits_side s p (rendered s b r) ≡ leb ((p * (r.size + s.headings) + 500) / 1000) n
  run_fits r =
      let none : cond (past_title b.title r.first) s.titles 0 ≡ 0 = rw plain.no_titles
      (either (λ (t : ℕ). t ≡ 0) (past_title b.title r.first) refl refl) in
      rw (none, add-zero) (fits_side_lem s n p (r.size + s.headings) plain.side_is (omega (arith, plain.moderate)))

  all_fit_lem : (rs : List Run) → all_fit s b p rs ≡ true → (z : ℕ) → z ∈ sizes rs → Rounded z
  unfolding all_fit
  all_fit_lem [] e z x'' = elim x'' [ ]
  all_fit_lem (r ∷ rs) e z (inl i) = rw i (leb-true _ n (sym (run_fits r) ∙ (and_parts (fits_side s p (rendered s b r)) _ e).0))
  all_fit_lem (r ∷ rs) e z (inr i) = all_fit_lem rs (and_parts (fits_side s p (rendered s b r)) _ e).1 z i

  fit_all : (rs : List Run) → ((z : ℕ) → z ∈ sizes rs → Rounded z) → all_fit s b p rs ≡ true
  unfolding all_fit
  fit_all [] f = refl
  fit_all (r ∷ rs) f = and_from _ _ (run_fits r ∙ le-leb _ n (f r.size (inl refl))) (fit_all rs (λ z i. f z (inr i)))

  runs_fit_lem : (rs : List Run) → (runs_fit s b p rs ≡ true) ↔ ((z : ℕ) → z ∈ sizes rs → Rounded z)
  unfolding runs_fit
  runs_fit_lem [] = (
    (λ e z i. absurd i),
    λ f. fits_side_lem s n p (s.titles + s.headings) plain.side_is (omega (arith, plain.moderate)) ∙ le-leb _ n
        (rw plain.no_titles (headings_fit n s.headings p low high plain.room)),
  )
  runs_fit_lem (r ∷ rs) = (all_fit_lem (r ∷ rs), fit_all (r ∷ rs))

  runs_at_lem : runs_at s b p ≡ axis_runs (frame_for s b p) [] [] b.indexes b.sizes 0 []
  unfolding runs_at
  runs_at_lem = rw (plain.no_firsts, plain.no_lasts) (sym (runs_whole (frame_for s b p) [] [] b.indexes b.sizes plain.even))

  runs_tell : sizes (runs_at s b p) ≡ map sum (pieces (counts (runs_at s b p)) b.sizes)
  runs_tell = rw runs_at_lem (axis_tells (frame_for s b p) [] [] b.indexes b.sizes [] plain.even).totals_are

  capacity_at : capacity_of s p 0 ≡ capacity n s.headings p
  capacity_at = rw plain.side_is (capacity_is n s.headings p low (omega (arith, plain.moderate, div-le_self (n * 1000) p)))

  runs_fewest : Fewest (capacity n s.headings p) [] b.sizes (counts (runs_at s b p))
  unfolding kept_cuts
  runs_fewest = rw (runs_at_lem, ← capacity_at) (axis_fewest (frame_for s b p) b.indexes b.sizes [] plain.even plain.no_title)

  -- the runs cut at p pass exactly if some division reaches the target
  passes_reaches : (target : ℕ) → axis_passes s b target p ≡ true → Reaches n s.headings target b.sizes p
  unfolding axis_passes
  passes_reaches target e =
      let rs : List Run = runs_at s b p in
      let (fit, met) = and_parts _ _ e in
      record {
        slots = counts rs;
        division = runs_fewest.division;
        meets = rw (length-map rs _) ((meets_is target (length rs)).0 met);
        fit = fewest_fit n s.headings p low high plain.room b.sizes (counts rs) runs_fewest
            (λ run i o. (runs_fit_lem rs).0 fit (sum run) (rw runs_tell (in_map sum run (pieces (counts rs) b.sizes) i)));
      }

  reaches_passes : (target : ℕ) → Reaches n s.headings target b.sizes p → axis_passes s b target p ≡ true
  unfolding axis_passes
  reaches_passes target r =
      let rs : List Run = runs_at s b p in
      let many : length (counts rs) ≡ length rs = length-map rs _ in
      let (met, fit) = fewest_reaches n s.headings p low high plain.room b.sizes (counts rs) runs_fewest target r in
      let rounded : (z : ℕ) → z ∈ sizes rs → Rounded z = λ z i.
      let (run, j, e) = of_map sum z (pieces (counts rs) b.sizes) (rw runs_tell at i) in
      rw e (fits_rounded n s.headings p low high plain.room run (fit run j)) in
      and_from _ _ ((runs_fit_lem rs).1 rounded) ((meets_is target (length rs)).1 (rw many at met))

  pub passes_is : (target : ℕ) → (axis_passes s b target p ≡ true) ↔ Reaches n s.headings target b.sizes p
  passes_is target = (passes_reaches target, reaches_passes target)

-- ---- the theorem

-- rows and columns, each with a target
pub scale_chosen : (rs cs : Space) (rb cb : Body) (height width high wide : ℕ) → Plain rs rb height → Plain cs cb width
    → let scale = fit_scale (λ p. axis_passes rs rb high p && axis_passes cs cb wide p) in
    Chosen (λ p. Reaches height rs.headings high rb.sizes p × Reaches width cs.headings wide cb.sizes p) scale.permille scale.unreachable
scale_chosen rs cs rb cb height width high wide r c =
    fit_chosen _ _
    (λ p l h. let i = passes_is rs rb height r p (omega arith) h high in
    let j = passes_is cs cb width c p (omega arith) h wide in
    ((λ e. let (u, v) = and_parts (axis_passes rs rb high p) (axis_passes cs cb wide p) e in (i.0 u, j.0 v)), λ g. and_from _ _ (i.1 g.0) (j.1 g.1)))
    (λ p q l g. (reaches_lower height rs.headings high rb.sizes p q l g.0, reaches_lower width cs.headings wide cb.sizes p q l g.1))
