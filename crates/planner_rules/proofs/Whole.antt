-- The runs of an axis, whatever its merges, title and breaks: a division of its slots that the runs' numbers tell. Assumes nothing.
use mathlib.Core.Path.{◌≡◌, refl, sym, ap₂, ◌∙◌}
use mathlib.Core.Logic.{inl, inr, ⊎_elim}
use mathlib.Core.List.{List, [], ◌∷◌}
use Prim.Native.Nat.{ℕ, zero, suc, ◌+◌, ◌-◌, ◌≤◌, ◌<◌, min}
use native.Mathlib.Omega.{arith}
use lib.ListN.{length, get_or, take, drop, length-drop, length-map}
use lib.Seq.{drop-drop, take-take, get_or-take, length-take-le}
use lib.Dec.{leb, ltb}
use Rattle.planner_rules.specs.declared.titles.Title.{Title}
use Rattle.planner_rules.specs.declared.titles.Title.TheVariants.{Absent, Pair}
use Rattle.planner_rules.specs.declared.runs.Frame.{Frame}
use Rattle.planner_rules.specs.Slots.{sum, mid}
use Rattle.planner_rules.specs.Titles.{holds}
use Rattle.planner_rules.specs.Runs.{Run, run_of, natural, again, resumed, resumption, filled, taken, capacity_at, run_end, run, runs, stretch, axis_runs}
use Rattle.planner_rules.specs.Lent.{firsts, lasts, sizes, marks}
use Rattle.planner_rules.specs.Division.{◌∈◌, Division, starts_from, pieces, first_of, last_of, Tells, MarkedAt, MarksKept}
use Rattle.planner_rules.specs.Pages.{joined}
use Rattle.planner_rules.proofs.Laws.{either, natural_pos, natural-le}
use Rattle.planner_rules.proofs.EndLaws.{merged_within}
use Rattle.planner_rules.proofs.Division.{Chain, done, link, chain_counts, division_of, join_pieces}
use Rattle.planner_rules.proofs.Cuts.{kept_cuts, counts, slots_of, runs_chain, marked_chain, axis_chain, kept_ordered, ordered_in}
use Rattle.std.proofs.lemmas.List.Edits.{length-between}

-- ---- a run takes at least one slot, and at most all

again-le : (cap last s : ℕ) (is ss : List ℕ) → again cap last s is ss ≤ length is
unfolding again
again-le cap last s [] ss = omega arith
again-le cap last s (i ∷ is) [] = omega arith
again-le cap last s (i ∷ is) (x ∷ xs) =
    either (λ (n : ℕ). n ≤ suc (length is)) (leb (s + x) cap) (omega (arith, again-le cap last (s + x) is xs))
    (either (λ (n : ℕ). n ≤ suc (length is)) (leb i last) (omega (arith, again-le cap last x is xs)) (omega arith))

resumed-le : (cap last : ℕ) (is ss : List ℕ) → resumed cap last is ss ≤ length is
unfolding resumed
resumed-le cap last [] ss = omega arith
resumed-le cap last (i ∷ is) [] = omega arith
resumed-le cap last (i ∷ is) (x ∷ xs) = omega (arith, again-le cap last x is xs)

resumption_within : (title : Title) (cap n : ℕ) (is ss : List ℕ) → n ≤ length is
    → (n ≤ resumption title cap n is ss) × (resumption title cap n is ss ≤ length is)
unfolding resumption
resumption_within Absent cap n is ss h = omega arith
resumption_within (Pair f l) cap n is ss h =
    either (λ (m : ℕ). (n ≤ m) × (m ≤ length is)) (holds f l (get_or is n 0))
    (omega (arith, resumed-le cap l (drop n is) (drop n ss), length-drop n is)) (omega arith)

taken-within : (k : Frame) (is ss : List ℕ) → 0 < length ss → length is ≡ length ss → (1 ≤ taken k is ss) × (taken k is ss ≤ length is)
unfolding taken filled
taken-within k is ss h e =
    let cap = capacity_at k (get_or is 0 0) in
    let w = resumption_within k.title k.titled (natural cap ss) is ss (omega (arith, natural-le cap ss)) in
    either (λ (n : ℕ). (1 ≤ n) × (n ≤ length is)) (ltb (natural cap ss) (length is))
    (omega (arith, w, natural_pos cap ss h)) (omega (arith, natural_pos cap ss h, natural-le cap ss))

-- ---- the theorems

-- a run's first, last and size are those of its slots
pub record Told (is ss : List ℕ) (p : ℕ) (r : Run) : Type 0 where
  pub first_is : r.first ≡ first_of (take r.slots (drop p is))
  pub last_is : r.last ≡ last_of (take r.slots (drop p is))
  pub size_is : r.size ≡ sum (take r.slots (drop p ss))

run_told : (is ss : List ℕ) (p e n g : ℕ) → length is ≡ length ss → e ≤ length ss → 1 ≤ n → p + n ≤ e → Told is ss p (run_of n g (mid p e is) (mid p e ss))
run_told is ss p e n g even inside low high = record {
  first_is = rw (get_or-take (e - p) (drop p is) 0 0 (omega arith), get_or-take n (drop p is) 0 0 (omega arith));
  last_is =
      rw (
        length-take-le n (drop p is) (simp length-drop (omega arith)),
        get_or-take (e - p) (drop p is) (n - 1) 0 (omega arith),
        get_or-take n (drop p is)
            (n - 1) 0 (omega arith),
      );
  size_is = rw (take-take n (e - p) (drop p ss) (omega arith));
}

module _ (k : Frame) (fs ls is ss bs : List ℕ) (even : length is ≡ length ss) where
  run_within : (p e : ℕ) → e ≤ length ss → p < e → let r = run k fs ls (mid p e is) (mid p e ss) in (1 ≤ r.slots) × (p + r.slots ≤ e)
  unfolding run run_end
  run_within p e inside l =
      let i = length-between is p e (omega arith) in
      let s = length-between ss p e inside in
      let t = taken-within k (mid p e is) (mid p e ss) (omega arith) (omega arith) in
      omega (arith, merged_within k.lo k.hi fs ls (taken k (mid p e is) (mid p e ss)) (mid p e is) t.0 t.1)

  told_chain : Chain slots_of (Told is ss) 0 (axis_runs k fs ls is ss 0 bs) (length ss)
  unfolding stretch runs run
  told_chain =
      axis_chain k fs ls is ss bs (Told is ss) even
      (λ a e s. marked_chain (min a 1) a (λ r t. record { first_is = t.first_is; last_is = t.last_is; size_is = t.size_is }) (λ p r l t. t)
      (runs_chain (run k fs ls) (Told is ss) is ss a e even s.inside
      (λ p h l. let w = run_within p e s.inside l in (w.0, w.1, run_told is ss p e _ _ even s.inside w.0 w.1))
      s.forward))

  -- a run past a stretch's first starts at no kept cut, and has no mark
  marks_chain : Chain slots_of (λ p r. MarkedAt (kept_cuts k fs ls is 0 bs) p r.manual) 0 (axis_runs k fs ls is ss 0 bs) (length ss)
  unfolding stretch runs run
  marks_chain =
      let cuts : List ℕ = kept_cuts k fs ls is 0 bs in
      let past : (b : ℕ) → b ∈ cuts → 0 < b = λ b m. (ordered_in 0 cuts (length is) b (kept_ordered k fs ls is 0 bs) m).0 in
      let Q : ℕ → ℕ → Run → Type 0 = λ a p r. (r.manual ≡ 0) × (a < p → ¬ (p ∈ cuts)) in
      axis_chain k fs ls is ss bs (λ p r. MarkedAt cuts p r.manual) even
      (λ a e s. marked_chain (min a 1) a {Q = Q a}
      (λ r q. ⊎_elim (λ z. inr (omega arith, λ m. omega (arith, past a m))) (λ m. inl (omega (arith, past a m), m)) s.start)
      (λ p r l q. inr (q.0, q.1 l))
      (runs_chain (run k fs ls) (Q a) is ss a e even s.inside
      (λ p h l. let w = run_within p e s.inside l in (w.0, w.1, (refl, λ g m. ⊎_elim (λ o. omega arith) (λ o. omega arith) (s.free p m))))
      s.forward))

  -- the runs' numbers of slots are a division of the slots
  pub axis_division : Division (length ss) (counts (axis_runs k fs ls is ss 0 bs))
  axis_division = division_of (chain_counts {Q = λ p m. Unit {0}} (λ p r t. tt) told_chain)

  -- in order, and together all slots: what the runs have of a list as long, put together, is that list
  pub axis_whole : {A : Type 0} (xs : List A) → length xs ≡ length ss → joined (pieces (counts (axis_runs k fs ls is ss 0 bs)) xs) ≡ xs
  axis_whole xs h = join_pieces _ xs (axis_division.whole ∙ sym h)

tells_from : (is ss : List ℕ) {p : ℕ} {rs : List Run} {n : ℕ} → Chain slots_of (Told is ss) p rs n
    → Tells (drop p is) (drop p ss) (counts rs) (firsts rs) (lasts rs) (sizes rs)
unfolding pieces
tells_from is ss done = record { firsts_are = refl; lasts_are = refl; totals_are = refl }
tells_from is ss {p} (link {a = r} {l = rs} h t c) =
    let rest = tells_from is ss c in
    record {
      firsts_are = rw drop-drop (ap₂ ◌∷◌ t.first_is rest.firsts_are);
      lasts_are = rw drop-drop (ap₂ ◌∷◌ t.last_is rest.lasts_are);
      totals_are = rw drop-drop (ap₂ ◌∷◌ t.size_is rest.totals_are);
    }

-- each run's first, last and size are the first index, the last index and the sum of sizes of its slots
pub axis_tells : (k : Frame) (fs ls is ss bs : List ℕ) → length is ≡ length ss
    → let rs = axis_runs k fs ls is ss 0 bs in Tells is ss (counts rs) (firsts rs) (lasts rs) (sizes rs)
axis_tells k fs ls is ss bs even = tells_from is ss (told_chain k fs ls is ss bs even)

marks_from : (cuts : List ℕ) {p : ℕ} {rs : List Run} {n : ℕ} → Chain slots_of (λ p r. MarkedAt cuts p r.manual) p rs n
    → (i : ℕ) → i < length (counts rs) → MarkedAt cuts (get_or (starts_from p (counts rs)) i 0) (get_or (marks rs) i 0)
unfolding starts_from
marks_from cuts done i h = absurd (omega arith)
marks_from cuts (link z m c) zero h = m
marks_from cuts (link z m c) (suc i) h = marks_from cuts c i (omega arith)

-- a run is marked exactly where it starts at a kept cut
pub axis_marks : (k : Frame) (fs ls is ss bs : List ℕ) → length is ≡ length ss
    → let rs = axis_runs k fs ls is ss 0 bs in MarksKept (kept_cuts k fs ls is 0 bs) (counts rs) (marks rs)
axis_marks k fs ls is ss bs even = record { as_many = simp length-map; each = marks_from (kept_cuts k fs ls is 0 bs) (marks_chain k fs ls is ss bs even) }
