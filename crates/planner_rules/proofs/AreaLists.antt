-- Lists of areas: one of them by its number, those before it, and their runs one after another in a list. Assumes nothing.
use mathlib.Core.Path.{◌≡◌, refl, sym, ap, ◌∙◌, subst}
use mathlib.Core.Bool.{Bool, true}
use mathlib.Core.List.{List, [], ◌∷◌, ◌++◌, map, append_assoc}
use Prim.Native.Nat.{ℕ, zero, suc, ◌+◌, ◌-◌, ◌*◌, ◌≤◌}
use native.Mathlib.Omega.{arith}
use lib.ListN.{length, take, drop, set, replicate, length-append}
use lib.Seq.{drop-drop, drop_at, take-append_seam}
use Rattle.units.specs.Outcome.{given}
use Rattle.planner_rules.specs.declared.planning.PrintRange.{PrintRange}
use Rattle.planner_rules.specs.Runs.{Run}
use Rattle.planner_rules.specs.Areas.{over_areas, every_area, no_range}
use Rattle.planner_rules.specs.Lent.{flat, run_numbers}
use Rattle.planner_rules.specs.Pages.{numbered, joined, after_runs}
use Rattle.planner_rules.proofs.Lent.{flat_append, flat-length}
use Rattle.std.proofs.lemmas.List.{take-take, take-replicate}
use Rattle.std.proofs.lemmas.List.Recursion.{and_at}
use Rattle.planner_rules.proofs.PageLaws.{numbered_at}

-- ---- a list of eight at most, held in eight places

module _ {A : Type 0} (d : A) where
  -- what counts is what was put there
  pub held_are : (xs : List A) → length xs ≤ 8 → take (length xs) (take 8 (xs ++ replicate 8 d)) ≡ xs
  held_are xs h = take-take (length xs) 8 (xs ++ replicate 8 d) h ∙ take-append_seam xs (replicate 8 d)

  -- one more, at the first place that is free, if there is one
  put : (n m : ℕ) (xs : List A) (x : A) → n ≤ m → set (take n (xs ++ replicate m d)) (length xs) x ≡ take n ((xs ++ x ∷ []) ++ replicate m d)
  put zero m xs x l = refl
  put (suc n) m [] x l = rw (take-replicate (suc n) m d l, take-replicate n m d (omega arith)) refl
  put (suc n) m (y ∷ ys) x l = ap (λ (zs : List A). y ∷ zs) (put n m ys x (omega arith))

  pub held_more : (xs : List A) (x : A) → set (take 8 (xs ++ replicate 8 d)) (length xs) x ≡ take 8 ((xs ++ x ∷ []) ++ replicate 8 d)
  held_more xs x = put 8 8 xs x (omega arith)

-- ---- one of a list by its number

-- what is made of it stands at the same number
pub numbered-map : {A B : Type 0} (f : A → B) (xs : List A) (n : ℕ) (x : A) → numbered xs n ≡ given x → numbered (map f xs) n ≡ given (f x)
unfolding numbered
numbered-map f [] n x e = absurd cc
numbered-map f (y ∷ xs) zero x e = absurd cc
numbered-map f (y ∷ xs) (suc zero) x e = let same : y ≡ x = cc in ap (λ z. given (f z)) same
numbered-map f (y ∷ xs) (suc (suc n)) x e = numbered-map f xs (suc n) x e

-- what is asked of every area holds of it
pub every_one : (p : PrintRange → Bool) (gs : List PrintRange) (n : ℕ) (g : PrintRange) → every_area p gs ≡ true → numbered gs n ≡ given g → p g ≡ true
unfolding every_area
every_one p gs n g h e =
    let at = numbered_at gs n g no_range e in
    subst (λ (x : PrintRange). p x ≡ true) at.2 (and_at (every_area p) p refl (λ _ _. refl) gs (n - 1) no_range (omega (arith, at.0, at.1)) h)

-- with what stands before it, it is no more than all
pub before_and_it : {A : Type 0} (f : A → ℕ) (xs : List A) (n : ℕ) (x : A) → numbered xs n ≡ given x
    → over_areas f (take (n - 1) xs) + f x ≤ over_areas f xs
unfolding numbered over_areas
before_and_it f [] n x e = absurd cc
before_and_it f (y ∷ xs) zero x e = absurd cc
before_and_it f (y ∷ xs) (suc zero) x e = let same : y ≡ x = cc in rw same (omega arith)
before_and_it f (y ∷ xs) (suc (suc n)) x e =
    let a : suc (suc n) - 1 ≡ suc n = omega arith in
    let b : suc n - 1 ≡ n = omega arith in
    rw a (omega (arith, rw b at (before_and_it f xs (suc n) x e)))

-- of what is made of areas
pub over_map : {A B : Type 0} (f : B → ℕ) (g : A → B) (xs : List A) → over_areas f (map g xs) ≡ over_areas (λ (x : A). f (g x)) xs
unfolding over_areas
over_map f g [] = refl
over_map f g (x ∷ xs) = ap (λ (n : ℕ). f (g x) + n) (over_map f g xs)

pub over_same : {A : Type 0} (f g : A → ℕ) → ((x : A) → f x ≡ g x) → (xs : List A) → over_areas f xs ≡ over_areas g xs
unfolding over_areas
over_same f g h [] = refl
over_same f g h (x ∷ xs) = rw (h x) (ap (λ (n : ℕ). g x + n) (over_same f g h xs))

-- ---- runs, area after area

module _ {A : Type 0} (runs_of : A → List Run) where
  -- all of them, and how many
  abbrev pub together : List A → List Run
  together xs = joined (map runs_of xs)

  abbrev pub how_many : A → ℕ
  how_many x = length (runs_of x)

  pub together_length : (xs : List A) → length (together xs) ≡ over_areas how_many xs
  unfolding joined over_areas
  together_length [] = refl
  together_length (x ∷ xs) = omega (arith, length-append (runs_of x) (together xs), together_length xs)

  -- in a list that has them at its front, the runs of an area stand after those of the areas before it
  pub record FromArea (xs : List A) (n : ℕ) (x : A) (tail : List ℕ) : Type 0 where
    pub others : List ℕ
    pub from_it : after_runs (over_areas how_many (take (n - 1) xs)) (flat (together xs) ++ tail) ≡ flat (runs_of x) ++ others

  pub from_area : (xs : List A) (n : ℕ) (x : A) (tail : List ℕ) → numbered xs n ≡ given x → FromArea xs n x tail
  unfolding numbered over_areas joined
  from_area [] n x tail e = absurd cc
  from_area (y ∷ xs) zero x tail e = absurd cc
  from_area (y ∷ xs) (suc zero) x tail e =
      let same : y ≡ x = cc in
      record {
        others = flat (together xs) ++ tail;
        from_it = rw (flat_append (runs_of y) (together xs), append_assoc (flat (runs_of y)) (flat (together xs)) tail)
            (ap (λ (z : A). flat (runs_of z) ++ (flat (together xs) ++ tail)) same);
      }
  from_area (y ∷ xs) (suc (suc n)) x tail e =
      let a : suc (suc n) - 1 ≡ suc n = omega arith in
      let b : suc n - 1 ≡ n = omega arith in
      let next = from_area xs (suc n) x tail e in
      let front : List ℕ = flat (runs_of y) in
      let more : List ℕ = flat (together xs) ++ tail in
      let m : ℕ = over_areas how_many (take n xs) in
      let split : flat (together (y ∷ xs)) ++ tail ≡ front ++ more =
      ap (λ (l : List ℕ). l ++ tail) (flat_append (runs_of y) (together xs)) ∙ append_assoc front (flat (together xs)) tail in
      let k : run_numbers * (how_many y + m) ≡ length front + run_numbers * m = omega (arith, flat-length (runs_of y)) in
      record {
        others = next.others;
        from_it = rw (a, split, k) (sym (drop-drop (run_numbers * m) (length front) (front ++ more))
            ∙ ap (drop (run_numbers * m)) (drop_at front more (length front) refl) ∙ rw b at next.from_it);
      }
