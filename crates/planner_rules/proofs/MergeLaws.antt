-- Laws of the merge that is used at a boundary (`specs/Runs.antt`), for the loops of `cuts::merges`. Assumes nothing.
use mathlib.Core.Path.{◌≡◌, refl, sym, ap, ◌∙◌}
use mathlib.Core.Bool.{true, not, and-false}
use mathlib.Core.List.{List, [], ◌∷◌, ◌++◌}
use Prim.Native.Nat.{ℕ, zero, suc, ◌-◌, ◌≤◌, ◌<◌, min, max}
use native.Mathlib.Omega.{arith}
use lib.ListN.{length, get_or, take, drop}
use Rattle.std.proofs.Common.{length-append, append_assoc}
use borrow.Author.Tests.{lt-ltb, le-ltb, le-leb, lt-leb}
use Rattle.std.specs.Prelude.{Option}
use Rattle.planner_rules.specs.declared.titles.Span.{Span}
use Rattle.planner_rules.specs.Titles.{holds, no_merge}
use Rattle.planner_rules.specs.Runs.{nearer, holding, holding_onto}
use Rattle.planner_rules.proofs.Laws.{drop_back, run_out, split}
use Rattle.std.proofs.lemmas.Bool.{and_parts}

-- ---- one merge

-- a pair that starts at b or past it does not hold b, wherever its first is clipped to
nearer_late : (lo f l b : ℕ) (held : Option Span) → b ≤ f → nearer (max f lo) l b held ≡ held
unfolding nearer
nearer_late lo f l b held h = rw (le-ltb (max f lo) b (omega arith))

-- nor does one that ends before b
nearer_short : (hi f l b : ℕ) (held : Option Span) → l < b → nearer f (min l hi) b held ≡ held
unfolding nearer
nearer_short hi f l b held h = rw (lt-leb b (min l hi) (omega arith), and-false)

nearer_free : (lo hi f l b : ℕ) (held : Option Span) → not (holds f l b) ≡ true → nearer (max f lo) (min l hi) b held ≡ held
nearer_free lo hi f l b held h =
    split b f (λ p. nearer_late lo f (min l hi) b held p)
    (λ p.
    split b l (λ q. let z = rw (lt-ltb f b p, le-leb b l q) at h in absurd cc)
    (λ q. nearer_short hi (max f lo) l b held q))

-- ---- from the last one back

module _ (lo hi b : ℕ) (held : Option Span) where
  nothing_left : (fs : List ℕ) → holding_onto lo hi b fs [] held ≡ held
  unfolding holding_onto
  nothing_left [] = refl
  nothing_left (f ∷ fs) = refl

  -- past the last merge nothing is found
  pub onto_end : (i : ℕ) (fs ls : List ℕ) → min (length fs) (length ls) ≤ i → holding_onto lo hi b (drop i fs) (drop i ls) held ≡ held
  unfolding holding_onto
  onto_end i fs ls h = run_out (λ (xs ys : List ℕ). holding_onto lo hi b xs ys held ≡ held) fs ls i h (λ ys. refl) nothing_left

  pub onto_back : (i : ℕ) (fs ls : List ℕ) → 0 < i → i ≤ length fs → i ≤ length ls
      → holding_onto lo hi b (drop (i - 1) fs) (drop (i - 1) ls) held
      ≡ nearer (max (get_or fs (i - 1) 0) lo) (min (get_or ls (i - 1) 0) hi) b (holding_onto lo hi b (drop i fs) (drop i ls) held)
  unfolding holding_onto
  onto_back i fs ls h k m = rw (drop_back fs i 0, drop_back ls i 0)

  -- merges none of which holds b change nothing
  pub onto_free : (fs ls : List ℕ) → no_merge (λ f l. holds f l b) fs ls ≡ true → holding_onto lo hi b fs ls held ≡ held
  unfolding holding_onto no_merge
  onto_free [] ls h = refl
  onto_free (f ∷ fs) [] h = refl
  onto_free (f ∷ fs) (l ∷ ls) h =
      let e = and_parts (not (holds f l b)) (no_merge (λ f l. holds f l b) fs ls) h in
      nearer_free lo hi f l b (holding_onto lo hi b fs ls held) e.0 ∙ onto_free fs ls e.1

-- ---- a part of the merges

module _ (lo hi b : ℕ) where
  -- merges past the end of the shorter list are none
  pub holding_even : (n : ℕ) (fs ls : List ℕ) → n ≡ min (length fs) (length ls) → holding lo hi b (take n fs) (take n ls) ≡ holding lo hi b fs ls
  unfolding holding
  holding_even zero [] ls e = refl
  holding_even zero (f ∷ fs) [] e = refl
  holding_even zero (f ∷ fs) (l ∷ ls) e = absurd (omega arith)
  holding_even (suc n) [] ls e = refl
  holding_even (suc n) (f ∷ fs) [] e = refl
  holding_even (suc n) (f ∷ fs) (l ∷ ls) e = ap (nearer (max f lo) (min l hi) b) (holding_even n fs ls (omega arith))

  -- some of them, and those behind them
  pub holding_append : (gs ms fs ls : List ℕ) → length gs ≡ length ms
      → holding_onto lo hi b gs ms (holding lo hi b fs ls) ≡ holding lo hi b (gs ++ fs) (ms ++ ls)
  unfolding holding_onto holding
  holding_append [] [] fs ls e = refl
  holding_append [] (m ∷ ms) fs ls e = absurd (omega arith)
  holding_append (g ∷ gs) [] fs ls e = absurd (omega arith)
  holding_append (g ∷ gs) (m ∷ ms) fs ls e = ap (nearer (max g lo) (min m hi) b) (holding_append gs ms fs ls (omega arith))

-- a part that comes off the back goes before those that came
pub one_part : (all before rest part behind : List ℕ) → all ≡ before ++ behind → before ≡ rest ++ part → all ≡ rest ++ (part ++ behind)
one_part all before rest part behind e h = e ∙ rw h (append_assoc rest part behind)

-- two lists of parts, equally long
pub parts_even : (n m : ℕ) (fs ls gs ms p q : List ℕ) → n ≡ 32 → m ≡ 32 → length fs ≡ length ls → fs ≡ gs ++ p → length p ≡ min n (length fs)
    → ls ≡ ms ++ q → length q ≡ min m (length ls) → (length p ≡ length q) × (length gs ≡ length ms)
parts_even n m fs ls gs ms p q i j k e h f w =
    let x = ap length e ∙ length-append gs p in
    let y = ap length f ∙ length-append ms q in
    (omega arith, omega arith)

-- where all came
pub none_before : (rest behind all : List ℕ) → length rest ≡ 0 → all ≡ rest ++ behind → behind ≡ all
none_before [] behind all h e = sym e
none_before (x ∷ rest) behind all h e = absurd (omega arith)
