-- Slots and lent lists. The slots of an axis are two lists side by side: their indexes, which rise, and their sizes. Assumes nothing.
use Rattle.std.specs.Prelude.{◌≡◌, List, [], ◌∷◌, ◌++◌, cond, ℕ, suc, ◌+◌, ◌-◌, ◌≤◌, ◌<◌, ◌^◌, leb, ltb, length, get_or, take, drop}

-- what the private functions rely on: few sizes, each small
pub record Small (sizes : List ℕ) : Type 0 where
  pub few : length sizes ≤ 2 ^ 20
  pub each : (k : ℕ) → get_or sizes k 0 < 2 ^ 30

-- "Slot indexes strictly rising": any two of them
abbrev pub Rising : List ℕ → Type 0
Rising is = (j k : ℕ) → j < k → k < length is → get_or is j 0 < get_or is k 0

-- as many indexes as sizes
pub record Slots (indexes sizes : List ℕ) : Type 0 where
  pub even : length indexes ≡ length sizes
  pub small : Small sizes
  pub rising : Rising indexes

-- the sum of some sizes: std's `sum`, written out beside the other words for slots
unfoldable pub sum : List ℕ → ℕ
sum [] = 0
sum (x ∷ xs) = x + sum xs

-- how many slots at the front have an index below the limit: "first slot not below" it; std's `prefix_len`, in its own words, as the sentence has them
unfoldable pub below : ℕ → List ℕ → ℕ
below k [] = 0
below k (i ∷ is) = cond (ltb i k) (suc (below k is)) 0

-- how many slots there are up to the last one at or below the limit
unfoldable pub through : ℕ → List ℕ → ℕ
through k [] = 0
through k (i ∷ is) = cond (ltb 0 (through k is)) (suc (through k is)) (cond (leb i k) 1 0)

-- the slots from one place to another: std's `between`, which is the name of a test in `Union.antt`
abbrev pub mid : {A : Type 0} → ℕ → ℕ → List A → List A
mid a e xs = take (e - a) (drop a xs)

-- a lent list after the values were written to its front: the values, followed by what stood there before
abbrev pub written : List ℕ → List ℕ → List ℕ
written xs old = xs ++ drop (length xs) old
