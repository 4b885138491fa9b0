-- With no merges and no title, the runs of an axis are the fewest that cut at every kept break and stay within capacity. Assumes nothing.
use mathlib.Core.Path.{◌≡◌, refl, sym, ap, ◌∙◌}
use mathlib.Core.Logic.{◌⊎◌, inl, inr, ⊎_elim}
use mathlib.Core.Bool.{false, cond, ◌&&◌, and-false}
use mathlib.Core.List.{List, [], ◌∷◌}
use Prim.Native.Nat.{ℕ, suc, ◌+◌, ◌-◌, ◌≤◌, ◌<◌, min, zero-le, suc-le-suc}
use native.Mathlib.Omega.{arith}
use lib.ListN.{length, get_or, take, drop}
use lib.Seq.{take-add, take-take}
use lib.Dec.{leb, ltb}
use borrow.Author.Tests.{lt-ltb, le-ltb, leb-true, leb-false}
use Rattle.planner_rules.specs.declared.titles.Title.{Title}
use Rattle.planner_rules.specs.declared.titles.Title.TheVariants.{Absent}
use Rattle.planner_rules.specs.declared.runs.Frame.{Frame}
use Rattle.planner_rules.specs.declared.runs.RunEnd.{RunEnd}
use Rattle.planner_rules.specs.declared.runs.Cut.{Cut}
use Rattle.planner_rules.specs.Slots.{sum, mid, below}
use Rattle.planner_rules.specs.Titles.{title_holds, past_title}
use Rattle.planner_rules.specs.Runs.{Run, more, natural, capacity_at, filled, resumption, taken, holding, merge_step, merged, run_end, run, runs, cut_at}
use Rattle.planner_rules.specs.Runs.{moved, placed, kept, next_cut, stretch, axis_runs}
use Rattle.planner_rules.specs.Lent.{firsts, lasts, sizes}
use Rattle.planner_rules.specs.Division.{Fewest, FewestRuns, kept_breaks}
use Rattle.planner_rules.proofs.Laws.{sum-append, either, natural_pos, natural-le, split}
use Rattle.planner_rules.proofs.AxisLaws.{placed_zero, placed_past, placed_moved, kept_yes, kept_low}
use Rattle.planner_rules.proofs.Division.{Chain, done, link, Counts, chain_le, chain_counts, division_of, total, Good, cuts_from, within_from}
use Rattle.planner_rules.proofs.Division.{chain_of}
use Rattle.planner_rules.proofs.Cuts.{kept_cuts, counts, slots_of, Stretch, marked_chain, runs_chain, axis_chain, kept_ordered, ordered_in}
use Rattle.planner_rules.proofs.Whole.{axis_tells}
use Rattle.std.proofs.lemmas.List.Edits.{length-between}
use Rattle.std.proofs.lemmas.Bool.{cond_both}

-- ---- runs none of which could be one slot longer are the fewest

-- where a part of a good run is good
fewest : {Ok : ℕ → ℕ → Type 0} {n : ℕ} → ((p m p' m' : ℕ) → p ≤ p' → p' + m' ≤ p + m → Ok p m → Ok p' m')
    → {gs ds : List ℕ} {p p' k : ℕ} → k ≡ n → p' ≤ p → Counts (λ a m. a + m < n → ¬ (Ok a (suc m))) p gs k → Counts Ok p' ds k
    → length gs ≤ length ds
fewest part is h done d = zero-le
fewest part is h (link z g gs) done = omega (arith, chain_le gs)
fewest part {p} {p'} is h (link {a = m} z g gs) (link {a = m'} z' d ds) =
    let reached : p' + m' ≤ p + m =
    split (p' + m') (p + m) (λ l. l) (λ l. absurd (g (omega (arith, chain_le ds)) (part p' m' p (suc m) h (omega arith) d))) in
    suc-le-suc (fewest part is reached gs ds)

-- ---- sums

sum_to : (xs : List ℕ) (p m : ℕ) → sum (take (p + m) xs) ≡ sum (take p xs) + total xs p m
sum_to xs p m = rw take-add (sum-append (take p xs) (take m (drop p xs)))

sum-le : (xs : List ℕ) (p q : ℕ) → p ≤ q → sum (take p xs) ≤ sum (take q xs)
sum-le xs p q h = let e : p + (q - p) ≡ q = omega arith in omega (arith, rw e at (sum_to xs p (q - p)))

-- a part of a run is no larger
total_part : (xs : List ℕ) (p m p' m' : ℕ) → p ≤ p' → p' + m' ≤ p + m → total xs p' m' ≤ total xs p m
total_part xs p m p' m' h k = omega (arith, sum_to xs p m, sum_to xs p' m', sum-le xs p p' h, sum-le xs (p' + m') (p + m) k)

good_part : (cap : ℕ) (cuts xs : List ℕ) (p m p' m' : ℕ) → p ≤ p' → p' + m' ≤ p + m → Good cap cuts xs p m → Good cap cuts xs p' m'
good_part cap cuts xs p m p' m' h k g = record {
  within = λ t. omega (arith, total_part xs p m p' m' h k, g.within (omega arith));
  clear = λ b i l. omega (arith, g.clear b i (omega arith));
}

-- ---- natural filling takes what fits, and not one more

-- n of the sizes go onto the sum s, if any, and one more does not
abbrev Fills : ℕ → ℕ → List ℕ → ℕ → Type 0
Fills cap s xs n = (1 ≤ n → s + sum (take n xs) ≤ cap) × (n < length xs → cap < s + sum (take (suc n) xs))

either_le : (P : ℕ → Type 0) (a b : ℕ) {x y : ℕ} → (a ≤ b → P x) → (b < a → P y) → P (cond (leb a b) x y)
either_le P a b {x} {y} f g = cond_both (leb a b) x y P (λ e. f (leb-true a b e)) (λ e. g (leb-false a b e))

more_fills : (cap s : ℕ) (xs : List ℕ) → Fills cap s xs (more cap s xs)
unfolding more sum
more_fills cap s [] = (λ h. absurd (omega arith), λ h. absurd (omega arith))
more_fills cap s (x ∷ xs) =
    let m : ℕ = more cap (s + x) xs in
    let f = more_fills cap (s + x) xs in
    either_le (Fills cap s (x ∷ xs)) (s + x) cap
    (λ h. (λ _. split 1 m (λ l. omega (arith, f.0 l)) (λ l. let e : m ≡ 0 = omega arith in rw e (omega arith)), λ l. omega (arith, f.1 (omega arith))))
    (λ h. (λ l. absurd (omega arith), λ _. omega arith))

natural_fills : (cap : ℕ) (xs : List ℕ) (m : ℕ) → m ≡ natural cap xs
    → (2 ≤ m → sum (take m xs) ≤ cap) × (m < length xs → cap < sum (take (suc m) xs))
unfolding natural sum
natural_fills cap [] m e = (λ h. absurd (omega arith), λ h. absurd (omega arith))
natural_fills cap (x ∷ xs) m e = let f = more_fills cap x xs in rw e (λ h. f.0 (omega arith), λ h. f.1 (omega arith))

-- ---- with no title and no merges, a run is filled naturally

taken_plain : (title : Title) (u t : ℕ) (lo hi : ℕ) (is ss : List ℕ) → title ≡ Absent
    → taken (record { untitled = u; titled = t; title = title; lo = lo; hi = hi }) is ss ≡ natural u ss
unfolding taken filled capacity_at past_title resumption
taken_plain title u t lo hi is ss e = rw e (either (λ (n : ℕ). n ≡ natural u ss) (ltb (natural u ss) (length is)) refl refl)

merged_none : (lo hi n : ℕ) (is : List ℕ) → (merged lo hi [] [] n is).slots ≡ n
unfolding merged holding merge_step
merged_none lo hi n is = either (λ (e : RunEnd). e.slots ≡ n) (ltb n (length is)) refl refl

run_plain : (k : Frame) (is ss : List ℕ) → k.title ≡ Absent → (run k [] [] is ss).slots ≡ natural k.untitled ss
unfolding run run_end
run_plain k is ss t =
    merged_none k.lo k.hi (taken k is ss) is ∙ taken_plain k.title k.untitled k.titled k.lo k.hi is ss t

-- ---- the theorem

-- a good run that could not be one slot longer
abbrev Greedy : ℕ → List ℕ → List ℕ → ℕ → ℕ → Type 0
Greedy cap cuts xs p m = Good cap cuts xs p m × (p + m < length xs → ¬ (Good cap cuts xs p (suc m)))

-- a natural run in a stretch
greedy : (cap : ℕ) (cuts xs : List ℕ) (a e : ℕ) → Stretch cuts (length xs) a e
    → (p m : ℕ) → a ≤ p → p < e → m ≡ natural cap (mid p e xs) → (1 ≤ m) × (p + m ≤ e) × Greedy cap cuts xs p m
greedy cap cuts xs a e s p m h l n =
    let len = length-between xs p e s.inside in
    let f = natural_fills cap (mid p e xs) m n in
    let low : 1 ≤ m = omega (arith, natural_pos cap (mid p e xs) (omega arith)) in
    let high : p + m ≤ e = omega (arith, natural-le cap (mid p e xs)) in
    let fits : 2 ≤ m → total xs p m ≤ cap = λ t. rw (take-take m (e - p) (drop p xs) (omega arith)) at (f.0 t) in
    let full : p + m < e → cap < total xs p (suc m) = λ t. rw (take-take (suc m) (e - p) (drop p xs) (omega arith)) at (f.1 (omega arith)) in (
      low,
      high,
      (
        record { within = fits; clear = λ b i q. ⊎_elim (λ o. absurd (omega arith)) (λ o. omega arith) (s.free b i) },
        λ q g. split e (p + m) (λ o. omega (arith, s.inside, g.clear e (s.stop (omega arith)) (omega arith)))
            (λ o. omega (arith, full o, g.within (omega arith))),
      ),
    )

pub axis_fewest : (k : Frame) (is ss bs : List ℕ) → length is ≡ length ss → k.title ≡ Absent
    → Fewest k.untitled (kept_cuts k [] [] is 0 bs) ss (counts (axis_runs k [] [] is ss 0 bs))
unfolding stretch runs
axis_fewest k is ss bs even t =
    let cap = k.untitled in
    let cuts : List ℕ = kept_cuts k [] [] is 0 bs in
    let R : ℕ → Run → Type 0 = λ p r. Greedy cap cuts ss p r.slots in
    let chain : Chain slots_of R 0 (axis_runs k [] [] is ss 0 bs) (length ss) =
    axis_chain k [] [] is ss bs R even (λ a e s. marked_chain (min a 1) a (λ r g. g) (λ p r l g. g)
    (runs_chain (run k [] []) R is ss a e even s.inside
    (λ p h l. greedy cap cuts ss a e s p _ h l (run_plain k (mid p e is) (mid p e ss) t)) s.forward)) in
    let good = chain_counts (λ p r g. g.0) chain in
    record {
      division = division_of good;
      cuts_at_kept = λ b i. cuts_from cap cuts ss b i (omega arith) (omega (arith, ordered_in 0 cuts (length is) b (kept_ordered k [] [] is 0 bs) i)) good;
      within_capacity = within_from cap cuts ss good;
      none_fewer = λ ms d c w. fewest (good_part cap cuts ss) refl (omega arith) (chain_counts (λ p r g. g.1) chain) (chain_of cap cuts ss ms d c w);
    }

-- and they are what the runs' firsts, lasts and sizes tell
pub axis_fewest_runs : (k : Frame) (is ss bs : List ℕ) → length is ≡ length ss → k.title ≡ Absent
    → let rs = axis_runs k [] [] is ss 0 bs in FewestRuns k.untitled (kept_cuts k [] [] is 0 bs) is ss (firsts rs) (lasts rs) (sizes rs)
axis_fewest_runs k is ss bs even t = record { slots = _; tells = axis_tells k [] [] is ss bs even; fewest = axis_fewest k is ss bs even t }

-- ---- the kept cuts are the kept breaks' positions

-- a position p past the last kept cut and before n is the next; otherwise the last kept cut stays
abbrev Next : ℕ → ℕ → ℕ → ℕ → Type 0
Next prev p n c = ((prev < p) × (p < n) × (c ≡ p)) ⊎ (((ltb prev p && ltb p n) ≡ false) × (c ≡ prev))

absent_holds : (title : Title) (i : ℕ) → title ≡ Absent → title_holds title i ≡ false
unfolding title_holds
absent_holds title i t = rw t

module _ (k : Frame) (is : List ℕ) (t : k.title ≡ Absent) (prev p : ℕ) where
  placed_at : 0 < p → p < length is → placed k [] [] is prev p ≡ cut_at p false
  unfolding holding moved
  placed_at h q = sym (placed_moved k [] [] is prev p h q (absent_holds k.title (get_or is p 0) t))

  stays : (c : Cut) → placed k [] [] is prev p ≡ c → c.place ≤ prev → (ltb prev p && ltb p (length is)) ≡ false
      → Next prev p (length is) (kept (length is) prev (placed k [] [] is prev p)).place
  stays c e h f = inr (f, rw e (ap (λ (d : Cut). d.place) (sym (kept_low (length is) prev c h))))

  next_plain : Next prev p (length is) (kept (length is) prev (placed k [] [] is prev p)).place
  next_plain =
      split p 0 (λ h. stays (cut_at prev false) (sym (placed_zero k [] [] is prev p h)) (omega arith) (rw (le-ltb prev p (omega arith))))
      (λ h. split (length is) p
      (λ q. stays (cut_at prev false) (sym (placed_past k [] [] is prev p h q)) (omega arith) (rw (le-ltb p (length is) q) (and-false (ltb prev p))))
      (λ q. split p prev (λ l. stays (cut_at p false) (placed_at h q) l (rw (le-ltb prev p l)))
      (λ l. inl (l, q, rw (placed_at h q) (ap (λ (d : Cut). d.place) (sym (kept_yes (length is) prev (cut_at p false) l q)))))))

pub kept_plain : (k : Frame) (is : List ℕ) → k.title ≡ Absent → (prev : ℕ) (bs : List ℕ) → kept_cuts k [] [] is prev bs ≡ kept_breaks is prev bs
unfolding kept_cuts kept_breaks next_cut
kept_plain k is t prev [] = refl
kept_plain k is t prev (b ∷ bs) =
    let p : ℕ = below b is in
    elim (next_plain k is t prev p) [
      | inl n ↦ rw (n.2, lt-ltb prev p n.0, lt-ltb p (length is) n.1) (ap (λ (cs : List ℕ). p ∷ cs) (kept_plain k is t p bs))
      | inr n ↦ rw (n.1, n.0, le-ltb prev prev (omega arith)) (kept_plain k is t prev bs)
    ]
