-- `holding` is what document 01 says: a clipped merge that holds b, and none that holds b is earlier by first, then last. Assumes nothing.
use mathlib.Core.Path.{◌≡◌, refl}
use mathlib.Core.Logic.{◌⊎◌, inl, inr, ⊎_elim}
use mathlib.Core.Bool.{cond}
use mathlib.Core.List.{List, [], ◌∷◌}
use Prim.Native.Nat.{ℕ, zero, suc, ◌≤◌, ◌<◌, min, max}
use native.Mathlib.Omega.{arith}
use lib.ListN.{length, get_or}
use borrow.Author.Tests.{lt-ltb, le-ltb, le-leb, lt-leb}
use Rattle.std.specs.Prelude.{Option, Some, None}
use Rattle.planner_rules.specs.declared.titles.Span.{Span}
use Rattle.planner_rules.specs.Titles.{holds}
use Rattle.planner_rules.specs.Runs.{earlier, nearer, holding}
use Rattle.planner_rules.proofs.Laws.{either_lt, split}

-- the merge number i, clipped, holds b
pub record HoldsAt (lo hi b : ℕ) (fs ls : List ℕ) (i : ℕ) : Type 0 where
  pub there : (i < length fs) × (i < length ls)
  pub past_first : max (get_or fs i 0) lo < b
  pub to_last : b ≤ min (get_or ls i 0) hi

-- what is held is a clipped merge that holds b
abbrev pub Found : ℕ → ℕ → ℕ → List ℕ → List ℕ → Option Span → Type 0
Found lo hi b fs ls None = Unit {0}
Found lo hi b fs ls (Some s) = (i : ℕ) × HoldsAt lo hi b fs ls i × (s.first ≡ max (get_or fs i 0) lo) × (s.last ≡ min (get_or ls i 0) hi)

-- the pair g, m is not before what is held, by first, then last; nothing is held only where there is no such pair
abbrev pub NotBefore : Option Span → ℕ → ℕ → Type 0
NotBefore None g m = ⊥
NotBefore (Some s) g m = (s.first < g) ⊎ ((s.first ≡ g) × (s.last ≤ m))

-- "if several hold b, the earliest by first, then last, is used"
pub record Earliest (lo hi b : ℕ) (fs ls : List ℕ) (held : Option Span) : Type 0 where
  pub found : Found lo hi b fs ls held
  pub least : (i : ℕ) → HoldsAt lo hi b fs ls i → NotBefore held (max (get_or fs i 0) lo) (min (get_or ls i 0) hi)

-- ---- one more pair

-- the pair put in is not before the outcome
earlier_new : (f l : ℕ) (h : Option Span) → NotBefore (earlier f l h) f l
unfolding earlier
earlier_new f l None = inr (refl, omega arith)
earlier_new f l (Some s) =
    either_lt (λ (h : Option Span). NotBefore h f l) f s.first (λ _. inr (refl, omega arith))
    (λ p. either_lt (λ (h : Option Span). NotBefore h f l) s.first f (λ q. inl q) (λ q. inr (refl, omega arith)))

-- what was not before the one held is not before the outcome
earlier_old : (f l : ℕ) (h : Option Span) (x y : ℕ) → NotBefore h x y → NotBefore (earlier f l h) x y
unfolding earlier
earlier_old f l None x y n = absurd n
earlier_old f l (Some s) x y n =
    either_lt (λ (h : Option Span). NotBefore h x y) f s.first
    (λ p. inl (⊎_elim (λ (a : s.first < x). omega arith) (λ (a : (s.first ≡ x) × (s.last ≤ y)). omega arith) n))
    (λ p. either_lt (λ (h : Option Span). NotBefore h x y) s.first f (λ q. n)
    (λ q. ⊎_elim (λ (a : s.first < x). inl (omega arith)) (λ (a : (s.first ≡ x) × (s.last ≤ y)). inr (omega arith, omega arith)) n))

module _ (lo hi b f l : ℕ) (fs ls : List ℕ) where
  outer : {i : ℕ} → HoldsAt lo hi b fs ls i → HoldsAt lo hi b (f ∷ fs) (l ∷ ls) (suc i)
  outer h = record { there = omega (arith, h.there); past_first = h.past_first; to_last = h.to_last }

  inner : {i : ℕ} → HoldsAt lo hi b (f ∷ fs) (l ∷ ls) (suc i) → HoldsAt lo hi b fs ls i
  inner h = record { there = omega (arith, h.there); past_first = h.past_first; to_last = h.to_last }

  found_outer : (h : Option Span) → Found lo hi b fs ls h → Found lo hi b (f ∷ fs) (l ∷ ls) h
  found_outer None u = tt
  found_outer (Some s) u = (suc u.0, outer u.1, u.2, u.3)

  module _ (p : max f lo < b) (q : b ≤ min l hi) where
    here : HoldsAt lo hi b (f ∷ fs) (l ∷ ls) 0
    here = record { there = omega arith; past_first = p; to_last = q }

    found_new : (h : Option Span) → Found lo hi b fs ls h → Found lo hi b (f ∷ fs) (l ∷ ls) (earlier (max f lo) (min l hi) h)
    unfolding earlier
    found_new None u = (0, here, refl, refl)
    found_new (Some s) u =
        let Is : Option Span → Type 0 = Found lo hi b (f ∷ fs) (l ∷ ls) in
        either_lt Is (max f lo) s.first (λ _. (0, here, refl, refl))
        (λ x. either_lt Is s.first (max f lo) (λ _. found_outer (Some s) u)
        (λ y. split (min l hi) s.last (λ z. (0, here, refl, omega arith)) (λ z. (suc u.0, outer u.1, omega (arith, u.2), omega (arith, u.3)))))

    earliest_new : (h : Option Span) → Earliest lo hi b fs ls h → Earliest lo hi b (f ∷ fs) (l ∷ ls) (earlier (max f lo) (min l hi) h)
    earliest_new h e = record { found = found_new h e.found; least = least }
      where
        least : (i : ℕ) → HoldsAt lo hi b (f ∷ fs) (l ∷ ls) i
            → NotBefore (earlier (max f lo) (min l hi) h) (max (get_or (f ∷ fs) i 0) lo) (min (get_or (l ∷ ls) i 0) hi)
        least zero o = earlier_new (max f lo) (min l hi) h
        least (suc i) o = earlier_old (max f lo) (min l hi) h _ _ (e.least i (inner o))

  earliest_old : (max f lo < b → b ≤ min l hi → ⊥) → (h : Option Span) → Earliest lo hi b fs ls h → Earliest lo hi b (f ∷ fs) (l ∷ ls) h
  earliest_old n h e = record { found = found_outer h e.found; least = least }
    where
      least : (i : ℕ) → HoldsAt lo hi b (f ∷ fs) (l ∷ ls) i → NotBefore h (max (get_or (f ∷ fs) i 0) lo) (min (get_or (l ∷ ls) i 0) hi)
      least zero o = absurd (n o.past_first o.to_last)
      least (suc i) o = e.least i (inner o)

-- ---- the search

-- the way through the test of `holds`
by_holds : (P : Option Span → Type 0) (f l b : ℕ) {x y : Option Span} → (f < b → b ≤ l → P x) → ((f < b → b ≤ l → ⊥) → P y) → P (cond (holds f l b) x y)
by_holds P f l b p q =
    split b f (λ h. rw (le-ltb f b h) (q (λ u v. omega arith)))
    (λ h. split b l (λ k. rw (lt-ltb f b h, le-leb b l k) (p h k)) (λ k. rw (lt-ltb f b h, lt-leb b l k) (q (λ u v. omega arith))))

pub holding_earliest : (lo hi b : ℕ) (fs ls : List ℕ) → Earliest lo hi b fs ls (holding lo hi b fs ls)
unfolding holding nearer
holding_earliest lo hi b [] ls = record { found = tt; least = λ i o. omega (arith, o.there) }
holding_earliest lo hi b (f ∷ fs) [] = record { found = tt; least = λ i o. omega (arith, o.there) }
holding_earliest lo hi b (f ∷ fs) (l ∷ ls) =
    let rest = holding_earliest lo hi b fs ls in
    by_holds (Earliest lo hi b (f ∷ fs) (l ∷ ls)) (max f lo) (min l hi) b (λ p q. earliest_new lo hi b f l fs ls p q _ rest)
    (λ n. earliest_old lo hi b f l fs ls n _ rest)

-- what document 01 asks of a merge besides: one that, clipped, holds b is of more than one slot and meets the stretch
pub holds_meets : (f l lo hi b : ℕ) → max f lo < b → b ≤ min l hi → (f < l) × (f ≤ hi) × (lo ≤ l)
holds_meets f l lo hi b p q = omega arith
