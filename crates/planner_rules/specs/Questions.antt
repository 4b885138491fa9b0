-- Document 01, section "Questions in order": 6 to 9 as they are put to lists, and what a "no" does. Assumes nothing.
use Rattle.std.specs.Prelude.{Bool, true, false, ◌&&◌, List, [], ◌∷◌, ℕ, leb, ltb, eqb, length}
use Rattle.units.specs.Grid.{largest_size}
use Rattle.units.specs.Outcome.{Outcome, refused}

-- "A "no" returns the number": a question by its number and its answer, before what comes after it
abbrev pub ask : {A : Type 0} → ℕ → Bool → Outcome A → Outcome A
ask n true rest = rest
ask n false rest = refused n

-- the number of a question whose answer is no, or the number that comes after it (for the private functions)
abbrev pub no_or : ℕ → Bool → ℕ → ℕ
no_or n true rest = rest
no_or n false rest = n

-- 6: "Slices that make up one list equally long"
abbrev pub equally_long : List ℕ → List ℕ → Bool
equally_long xs ys = eqb (length xs) (length ys)

-- 6: "firsts not above lasts in .. every MR"
unfoldable pub all_ordered : List ℕ → List ℕ → Bool
all_ordered [] ls = true
all_ordered (f ∷ fs) [] = true
all_ordered (f ∷ fs) (l ∷ ls) = leb f l && all_ordered fs ls

-- 6 of an axis, whose range is from first to last: "Slices that make up one list equally long, and firsts not above lasts in AR and every
-- MR"
abbrev pub well_formed : ℕ → ℕ → List ℕ → List ℕ → List ℕ → List ℕ → Bool
well_formed first last is ss fs ls = equally_long is ss && equally_long fs ls && leb first last && all_ordered fs ls

-- 7: "every MR inside the grid", whose last index is the limit; std's `list_all`, in its own words, as the sentence has them
unfoldable pub all_within : ℕ → List ℕ → Bool
all_within limit [] = true
all_within limit (l ∷ ls) = leb l limit && all_within limit ls

-- 8: "Slot indexes strictly rising": each is below the next
unfoldable pub rising : List ℕ → Bool
rising [] = true
rising (i ∷ []) = true
rising (i ∷ (j ∷ is)) = ltb i j && rising (j ∷ is)

-- 8: "strictly rising and inside the grid"
unfoldable pub rising_within : ℕ → List ℕ → Bool
rising_within limit is = rising is && all_within limit is

-- 9: "Sizes 0 to 1,073,741,823"
unfoldable pub all_small : List ℕ → Bool
all_small ss = all_within largest_size ss
