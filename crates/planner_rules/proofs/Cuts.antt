-- The runs of an axis from kept cut to kept cut: what holds of each run of each stretch holds of each run of the axis. Assumes nothing.
use mathlib.Core.Path.{◌≡◌, refl, sym, ap, ◌∙◌}
use mathlib.Core.Logic.{◌⊎◌, inl, inr, ⊎_elim, ⊎_map}
use mathlib.Core.Bool.{cond}
use mathlib.Core.List.{List, [], ◌∷◌, ◌++◌, map}
use Prim.Native.Nat.{ℕ, zero, suc, ◌+◌, ◌-◌, ◌≤◌, ◌<◌}
use native.Mathlib.Nat.{lt_irrefl, sub_self}
use native.Mathlib.Omega.{arith}
use lib.ListN.{length, drop}
use lib.Seq.{drop-drop}
use lib.Dec.{ltb}
use Rattle.planner_rules.specs.declared.runs.Frame.{Frame}
use Rattle.planner_rules.specs.declared.runs.Cut.{Cut}
use Rattle.planner_rules.specs.Slots.{mid, below}
use Rattle.planner_rules.specs.Runs.{Run, runs_by, runs, kept, placed, next_cut, first_marked, stretch, axis_runs, with_mark}
use Rattle.planner_rules.specs.Division.{◌∈◌}
use Rattle.planner_rules.proofs.Laws.{either_lt, step, none, split}
use Rattle.planner_rules.proofs.Division.{Chain, done, link, chain_append, chain_end}
use Rattle.std.proofs.lemmas.List.Edits.{length-between}
use Rattle.std.proofs.lemmas.Slice.{between_is}

abbrev pub slots_of : Run → ℕ
slots_of r = r.slots

-- how many slots each run has
abbrev pub counts : List Run → List ℕ
counts = map slots_of

-- the kept manual breaks: the places of the cuts that stay, in order, after the last kept cut
unfoldable pub kept_cuts : Frame → List ℕ → List ℕ → List ℕ → ℕ → List ℕ → List ℕ
kept_cuts k fs ls is prev [] = []
kept_cuts k fs ls is prev (b ∷ bs) =
    let c = (next_cut k fs ls is prev b).place in
    let rest = kept_cuts k fs ls is c bs in
    cond (ltb prev c) (c ∷ rest) rest

-- ---- a part of a part

drop-mid : {A : Type 0} (n p e : ℕ) (l : List A) → drop n (mid p e l) ≡ mid (p + n) e l
drop-mid n p e l = let d : e - p - n ≡ e - (p + n) = omega arith in sym (between_is (drop p l) n (e - p)) ∙ rw (drop-drop, d)

-- ---- between two cuts

-- the run at the head of the slots from p up to e: it ends by e, and R holds of it
abbrev pub Taken : (List ℕ → List ℕ → Run) → (ℕ → Run → Type 0) → List ℕ → List ℕ → ℕ → ℕ → Type 0
Taken at R is ss p e = let r = at (mid p e is) (mid p e ss) in (1 ≤ r.slots) × (p + r.slots ≤ e) × R p r

module _ (at : List ℕ → List ℕ → Run) (R : ℕ → Run → Type 0) (is ss : List ℕ) (a e : ℕ) (even : length is ≡ length ss) (inside : e ≤ length ss)
    (good : (p : ℕ) → a ≤ p → p < e → Taken at R is ss p e) where
  none_left : (p : ℕ) → p ≡ e → Chain slots_of R p (runs_by at zero (mid p e is) (mid p e ss)) e
  none_left p h = rw (none at (mid p e is) (mid p e ss) (simp length-between (omega arith))) (chain_end h)

  from : (f p : ℕ) → a ≤ p → p ≤ e → e ≤ p + f → Chain slots_of R p (runs_by at zero (mid p e is) (mid p e ss)) e
  from zero p h k d = none_left p (omega arith)
  from (suc f) p h k d =
      split e p (λ l. none_left p (omega arith))
      (λ l. let g = good p h l in
      let n : ℕ = (at (mid p e is) (mid p e ss)).slots in
      let i = length-between is p e (omega arith) in
      let s = length-between ss p e inside in
      rw (step at (mid p e is) (mid p e ss) (omega arith) (omega arith) g.0, drop-mid n p e is, drop-mid n p e ss)
      (link g.0 g.2 (from f (p + n) (omega arith) g.1 (omega arith))))

  pub runs_chain : a ≤ e → Chain slots_of R a (runs_by at zero (mid a e is) (mid a e ss)) e
  runs_chain h = from e a (omega arith) h (omega arith)

past_chain : (a : ℕ) {Q R : ℕ → Run → Type 0} → ((p : ℕ) (r : Run) → a < p → Q p r → R p r) → {p : ℕ} {rs : List Run} {n : ℕ} → a < p
    → Chain slots_of Q p rs n → Chain slots_of R p rs n
past_chain a f h done = done
past_chain a f h (link z q c) = link z (f _ _ h q) (past_chain a f (omega arith) c)

-- where the first run is marked: R has to hold of the run at a with that mark, and of runs past a as they are
pub marked_chain : (m a : ℕ) {Q R : ℕ → Run → Type 0} → ((r : Run) → Q a r → R a (with_mark m r)) → ((p : ℕ) (r : Run) → a < p → Q p r → R p r)
    → {rs : List Run} {n : ℕ} → Chain slots_of Q a rs n → Chain slots_of R a (first_marked m rs) n
unfolding first_marked
marked_chain m a f g done = done
marked_chain m a f g (link z q c) = link z (f _ q) (past_chain a g (omega arith) c)

-- ---- the kept cuts

kept_past : (n prev : ℕ) (c : Cut) → (prev ≤ (kept n prev c).place) × (prev < (kept n prev c).place → (kept n prev c).place < n)
unfolding kept
kept_past n prev c =
    either_lt Past prev c.place (λ p. either_lt Past c.place n (λ q. omega arith) (λ q. omega arith)) (λ p. omega arith)
  where
    Past : Cut → Type 0
    Past d = (prev ≤ d.place) × (prev < d.place → d.place < n)

-- past p, rising, before n
abbrev pub Ordered : ℕ → List ℕ → ℕ → Type 0
Ordered p [] n = Unit {0}
Ordered p (c ∷ cs) n = (p < c) × (c < n) × Ordered c cs n

pub ordered_in : (p : ℕ) (cs : List ℕ) (n b : ℕ) → Ordered p cs n → b ∈ cs → (p < b) × (b < n)
ordered_in p [] n b o x'' = elim x'' [ ]
ordered_in p (c ∷ cs) n b o (inl h) = omega arith
ordered_in p (c ∷ cs) n b o (inr h) = let i = ordered_in c cs n b o.2 h in omega arith

module _ (k : Frame) (fs ls is : List ℕ) where
  next_past : (prev b : ℕ) → (prev ≤ (next_cut k fs ls is prev b).place)
      × (prev < (next_cut k fs ls is prev b).place → (next_cut k fs ls is prev b).place < length is)
  unfolding next_cut
  next_past prev b = kept_past (length is) prev (placed k fs ls is prev (below b is))

  pub kept_ordered : (prev : ℕ) (bs : List ℕ) → Ordered prev (kept_cuts k fs ls is prev bs) (length is)
  unfolding kept_cuts
  kept_ordered prev [] = tt
  kept_ordered prev (b ∷ bs) =
      let c : ℕ = (next_cut k fs ls is prev b).place in
      let w = next_past prev b in
      either_lt (λ (cs : List ℕ). Ordered prev cs (length is)) prev c (λ p. (p, w.1 p, kept_ordered c bs))
      (λ p. let e : c ≡ prev = omega arith in rw e (kept_ordered prev bs))

-- ---- from cut to cut

-- from a cut, or 0, up to the next cut, or the end n
pub record Stretch (cuts : List ℕ) (n a e : ℕ) : Type 0 where
  pub forward : a ≤ e
  pub inside : e ≤ n
  pub start : (a ≡ 0) ⊎ (a ∈ cuts)
  pub free : (b : ℕ) → b ∈ cuts → (b ≤ a) ⊎ (e ≤ b)
  pub stop : e < n → e ∈ cuts

module _ (k : Frame) (fs ls is ss : List ℕ) where
  -- the runs from the cut p on, cut by cut
  between : ℕ → List ℕ → List Run
  between p [] = stretch k fs ls is ss p (length ss)
  between p (c ∷ cs) = stretch k fs ls is ss p c ++ between c cs

  stretch_empty : (p : ℕ) → stretch k fs ls is ss p p ≡ []
  unfolding stretch runs runs_by first_marked
  stretch_empty p = rw (sub_self p)

  axis_between : (prev : ℕ) (bs : List ℕ) → axis_runs k fs ls is ss prev bs ≡ between prev (kept_cuts k fs ls is prev bs)
  unfolding axis_runs kept_cuts between
  axis_between prev [] = refl
  axis_between prev (b ∷ bs) =
      let c : ℕ = (next_cut k fs ls is prev b).place in
      let w = next_past k fs ls is prev b in
      either_lt (λ (cs : List ℕ). stretch k fs ls is ss prev c ++ axis_runs k fs ls is ss c bs ≡ between prev cs) prev c
      (λ p. ap (λ (rs : List Run). stretch k fs ls is ss prev c ++ rs) (axis_between c bs))
      (λ p. let e : c ≡ prev = omega arith in rw (e, stretch_empty prev) (axis_between prev bs))

  module _ (R : ℕ → Run → Type 0) (cuts : List ℕ) (rule : (a e : ℕ) → Stretch cuts (length ss) a e → Chain slots_of R a (stretch k fs ls is ss a e) e) where
    between_chain : (p : ℕ) (cs : List ℕ) → p ≤ length ss → Ordered p cs (length ss) → (p ≡ 0) ⊎ (p ∈ cuts) → ((b : ℕ) → b ∈ cuts → (b ≤ p) ⊎ (b ∈ cs))
        → ((b : ℕ) → b ∈ cs → b ∈ cuts) → Chain slots_of R p (between p cs) (length ss)
    unfolding between
    between_chain p [] h o s i j =
        rule p (length ss) (record {
          forward = h;
          inside = omega arith;
          start = s;
          free = λ b m. ⊎_map (λ q. q) (λ q. absurd q) (i b m);
          stop = λ g. absurd (lt_irrefl _ g);
        })
    between_chain p (c ∷ cs) h o s i j =
        chain_append
        (rule p c (record {
          forward = omega arith;
          inside = omega arith;
          start = s;
          free = λ b m. ⊎_map (λ q. q) (⊎_elim (λ q. omega arith) (λ q. omega (arith, ordered_in c cs (length ss) b o.2 q))) (i b m);
          stop = λ g. j c (inl refl);
        }))
        (between_chain c cs (omega arith) o.2 (inr (j c (inl refl)))
        (λ b m. ⊎_elim (λ q. inl (omega arith)) (⊎_map (λ q. omega arith) (λ q. q)) (i b m)) (λ b m. j b (inr m)))

-- what holds of every run of every stretch between kept cuts holds of every run of the axis
pub axis_chain : (k : Frame) (fs ls is ss bs : List ℕ) (R : ℕ → Run → Type 0) → length is ≡ length ss
    → ((a e : ℕ) → Stretch (kept_cuts k fs ls is 0 bs) (length ss) a e → Chain slots_of R a (stretch k fs ls is ss a e) e)
    → Chain slots_of R 0 (axis_runs k fs ls is ss 0 bs) (length ss)
axis_chain k fs ls is ss bs R even rule =
    let cuts : List ℕ = kept_cuts k fs ls is 0 bs in
    rw axis_between
    (between_chain k fs ls is ss R cuts rule 0 cuts (omega arith) (rw even at (kept_ordered k fs ls is 0 bs)) (inl refl) (λ b m. inr m) (λ b m. m))
