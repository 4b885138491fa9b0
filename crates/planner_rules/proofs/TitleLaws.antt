-- Laws of `specs/Titles.antt`'s definitions: the loops of crate `planner_titles`, that the bound on passes cuts nothing off, and what callers may
-- rely on. Assumes nothing.
use mathlib.Core.Path.{◌≡◌, refl, sym, ap, ap₂, ◌∙◌, subst}
use mathlib.Core.Bool.{Bool, true, false, cond, not, ◌&&◌, true≢false}
use mathlib.Core.List.{List, [], ◌∷◌, ◌++◌}
use mathlib.Core.Logic.{◌⊎◌, inl, inr, ⊎_elim}
use Prim.Native.Nat.{ℕ, zero, suc, ◌+◌, ◌-◌, ◌*◌, ◌^◌, ◌≤◌, ◌<◌, min, max}
use native.Mathlib.Nat.{lt_of_not-le}
use native.Mathlib.Decide.{dec_le}
use native.Mathlib.Numerals.{add-one}
use native.Mathlib.Omega.{arith}
use lib.Dec.{leb, eqb}
use lib.ListN.{length, get_or}
use Rattle.std.proofs.Common.{length-append}
use borrow.Author.Tests.{le-leb, lt-leb, leb-true, eq-eqb, eqb-true}
use Rattle.planner_rules.specs.declared.titles.Title.{Title}
use Rattle.planner_rules.specs.declared.titles.Title.TheVariants.{Absent, Pair}
use Rattle.planner_rules.specs.declared.titles.Normalized.{Normalized}
use Rattle.planner_rules.specs.declared.titles.Span.{Span}
use Rattle.planner_rules.specs.Slots.{Small, Slots, sum, below, mid}
use Rattle.planner_rules.specs.Titles.{body_start, title_total, no_merge, widen_to, widens, pass, same_span, still, expanded_to, passes, expand, normalized}
use Rattle.planner_rules.specs.Titles.{widened_from, widened}
use Rattle.planner_rules.specs.Questions.{all_within}
use Rattle.planner_rules.proofs.Laws.{either, slots_mid}
use Rattle.planner_rules.proofs.EndLaws.{below-le}
use Rattle.std.proofs.lemmas.Bool.{and_parts}
use Rattle.planner_rules.specs.Runs.{span}

-- ---- one pass

none_left : (fs : List ℕ) (s : Span) → pass fs [] s ≡ s
unfolding pass
none_left [] s = refl
none_left (f ∷ fs) s = refl

-- where no merge is left, in a list of them or in a list of parts of them
pub pass_over : (fs ls : List ℕ) (s : Span) → (fs ≡ []) ⊎ (ls ≡ []) → pass fs ls s ≡ s
unfolding pass
pass_over fs ls s h = elim h [ inl e ↦ rw e | inr e ↦ rw (e, none_left fs s) ]

pub pass_ended : (fs ls : List ℕ) (s : Span) → (length fs ≡ 0) ⊎ (length ls ≡ 0) → pass fs ls s ≡ s
unfolding pass
pass_ended [] ls s h = refl
pass_ended (f ∷ fs) [] s h = refl
pass_ended (f ∷ fs) (l ∷ ls) s h = absurd (⊎_elim (λ (e : length (f ∷ fs) ≡ 0). omega arith) (λ (e : length (l ∷ ls) ≡ 0). omega arith) h)

-- some merges and then the others, where a list that has fewer of the first has none of the others
pass_append : (a b fs ls : List ℕ) (s : Span) → (length a < length b → length fs ≡ 0) → (length b < length a → length ls ≡ 0)
    → pass fs ls (pass a b s) ≡ pass (a ++ fs) (b ++ ls) s
unfolding pass
pass_append [] [] fs ls s h k = refl
pass_append [] (l ∷ b) [] ls s h k = refl
pass_append [] (l ∷ b) (f ∷ fs) ls s h k = absurd (omega (arith, h (omega arith)))
pass_append (f ∷ a) [] fs [] s h k = none_left fs s
pass_append (f ∷ a) [] fs (l ∷ ls) s h k = absurd (omega (arith, k (omega arith)))
pass_append (f ∷ a) (l ∷ b) fs ls s h k = pass_append a b fs ls (widen_to s f l) (λ p. h (omega arith)) (λ p. k (omega arith))

-- of two lists a part of up to 32 merges each, and what is left of them
pub pass_part : (n m : ℕ) (a b fs ls gs ms : List ℕ) (s : Span) → n ≡ 32 → m ≡ 32 → gs ≡ a ++ fs → length a ≡ min n (length gs) → ms ≡ b ++ ls
    → length b ≡ min m (length ms) → pass fs ls (pass a b s) ≡ pass gs ms s
pass_part n m a b fs ls gs ms s i j e h f k =
    let p = ap length e ∙ length-append a fs in
    let q = ap length f ∙ length-append b ls in
    rw (e, f) (pass_append a b fs ls s (λ r. omega (arith, i, j, r, p, q, h, k)) (λ r. omega (arith, i, j, r, p, q, h, k)))

-- ---- widening

-- a merge that lies within the span, or apart from it, changes nothing
widen_to-not : (s : Span) (f l : ℕ) → not (widens s f l) ≡ true → widen_to s f l ≡ s
unfolding widen_to
widen_to-not s f l h = picked (leb f s.last) (leb s.first l) (leb s.first f && leb l s.last) within h
  where
    within : (leb s.first f && leb l s.last) ≡ true → span (min s.first f) (max s.last l) ≡ s
    within w =
        let e = and_parts (leb s.first f) (leb l s.last) w in
        let low : min s.first f ≡ s.first = omega (arith, leb-true s.first f e.0) in
        let high : max s.last l ≡ s.last = omega (arith, leb-true l s.last e.1) in
        ap₂ span low high

    picked : {t : Span} (a b w : Bool) → (w ≡ true → t ≡ s) → not (a && (b && not w)) ≡ true → cond (a && b) t s ≡ s
    picked true true true e n = e refl
    picked true true false e n = absurd (true≢false (sym n))
    picked true false w e n = refl
    picked false b w e n = refl

-- nor do merges of which none widens it
pub pass_none : (s : Span) (fs ls : List ℕ) → no_merge (widens s) fs ls ≡ true → pass fs ls s ≡ s
unfolding pass no_merge
pass_none s [] ls h = refl
pass_none s (f ∷ fs) [] h = refl
pass_none s (f ∷ fs) (l ∷ ls) h =
    let e = and_parts (not (widens s f l)) (no_merge (widens s) fs ls) h in rw (widen_to-not s f l e.0) (pass_none s fs ls e.1)

-- t reaches as far as s both ways
pub record Wider (s t : Span) : Type 0 where
  pub down : t.first ≤ s.first
  pub up : s.last ≤ t.last

-- what becomes of a span at a merge: nothing, or the merge meets it, is not within it, and is within what comes of it
pub data Step (s : Span) (f l : ℕ) (t : Span) : Type 0 where
  stays : t ≡ s → Step s f l t
  grows : Wider s t → t.first ≤ f → l ≤ t.last → (leb s.first f && leb l s.last) ≡ false → Step s f l t

pub step_of : (s : Span) (f l : ℕ) → Step s f l (widen_to s f l)
unfolding widen_to
step_of s f l =
    elim (dec_le f s.last) [
      | no h ↦ rw (lt-leb f s.last (lt_of_not-le h)) (stays refl)
      | yes h ↦
          elim (dec_le s.first l) [
            | no k ↦ rw (le-leb f s.last h, lt-leb s.first l (lt_of_not-le k)) (stays refl)
            | yes k ↦ rw (le-leb f s.last h, le-leb s.first l k) (met h k)
          ]
    ]
  where
    met : f ≤ s.last → s.first ≤ l → Step s f l (span (min s.first f) (max s.last l))
    met h k =
        elim (dec_le s.first f) [
          | no p ↦ grows (record { down = omega arith; up = omega arith }) (omega arith) (omega arith) (rw (lt-leb s.first f (lt_of_not-le p)))
          | yes p ↦
              elim (dec_le l s.last) [
                | no q ↦ grows (record { down = omega arith; up = omega arith }) (omega arith) (omega arith)
                    (rw (le-leb s.first f p, lt-leb l s.last (lt_of_not-le q)))
                | yes q ↦
                    let e : min s.first f ≡ s.first = omega arith in
                    let e' : max s.last l ≡ s.last = omega arith in
                    stays (ap₂ span e e')
              ]
        ]

widen_to_wider : (s : Span) (f l : ℕ) → Wider s (widen_to s f l)
widen_to_wider s f l =
    elim (step_of s f l) [
      | stays e ↦ rw e (record { down = omega arith; up = omega arith })
      | grows w p q r ↦ w
    ]

pub pass_wider : (fs ls : List ℕ) (s : Span) → Wider s (pass fs ls s)
unfolding pass
pass_wider [] ls s = record { down = omega arith; up = omega arith }
pass_wider (f ∷ fs) [] s = record { down = omega arith; up = omega arith }
pass_wider (f ∷ fs) (l ∷ ls) s =
    let a = widen_to_wider s f l in
    let b = pass_wider fs ls (widen_to s f l) in
    record { down = omega arith; up = omega arith }

-- ---- a changing pass takes in a merge

-- 1 for a merge within the span
unfoldable pub one : Span → ℕ → ℕ → ℕ
one s f l = cond (leb s.first f && leb l s.last) 1 0

-- how many merges lie within the span
unfoldable pub inside : Span → List ℕ → List ℕ → ℕ
inside s [] ls = 0
inside s (f ∷ fs) [] = 0
inside s (f ∷ fs) (l ∷ ls) = one s f l + inside s fs ls

one-le : (s : Span) (f l : ℕ) → one s f l ≤ 1
unfolding one
one-le s f l = either (λ (n : ℕ). n ≤ 1) (leb s.first f && leb l s.last) (omega arith) (omega arith)

one_in : (s : Span) (f l : ℕ) → s.first ≤ f → l ≤ s.last → one s f l ≡ 1
unfolding one
one_in s f l h k = rw (le-leb s.first f, le-leb l s.last)

one_out : (s : Span) (f l : ℕ) → (leb s.first f && leb l s.last) ≡ false → one s f l ≡ 0
unfolding one
one_out s f l h = rw h

one_wider : (s t : Span) (f l : ℕ) → Wider s t → one s f l ≤ one t f l
unfolding one
one_wider s t f l w =
    elim (dec_le s.first f) [
      | no p ↦ rw (lt-leb s.first f (lt_of_not-le p)) (omega arith)
      | yes p ↦
          elim (dec_le l s.last) [
            | no q ↦ rw (le-leb s.first f p, lt-leb l s.last (lt_of_not-le q)) (omega arith)
            | yes q ↦ rw (le-leb s.first f p, le-leb l s.last q, le-leb t.first f (omega arith), le-leb l t.last (omega arith)) (omega arith)
          ]
    ]

pub inside_le : (s : Span) (fs ls : List ℕ) → inside s fs ls ≤ length fs
unfolding inside
inside_le s [] ls = omega arith
inside_le s (f ∷ fs) [] = omega arith
inside_le s (f ∷ fs) (l ∷ ls) = omega (arith, one-le s f l, inside_le s fs ls)

inside_wider : (s t : Span) (fs ls : List ℕ) → Wider s t → inside s fs ls ≤ inside t fs ls
unfolding inside
inside_wider s t [] ls w = omega arith
inside_wider s t (f ∷ fs) [] w = omega arith
inside_wider s t (f ∷ fs) (l ∷ ls) w = omega (arith, one_wider s t f l w, inside_wider s t fs ls w)

-- one merge more, that the span takes no notice of
beside : (s t : Span) (f l : ℕ) (fs ls : List ℕ) → Wider s t → (t ≡ s) ⊎ (inside s fs ls < inside t fs ls)
    → (t ≡ s) ⊎ (one s f l + inside s fs ls < one t f l + inside t fs ls)
beside s t f l fs ls w (inl h) = inl h
beside s t f l fs ls w (inr h) = inr (omega (arith, one_wider s t f l w))

pub takes_in : (fs ls : List ℕ) (s : Span) → (pass fs ls s ≡ s) ⊎ (inside s fs ls < inside (pass fs ls s) fs ls)
unfolding pass inside
takes_in [] ls s = inl refl
takes_in (f ∷ fs) [] s = inl refl
takes_in (f ∷ fs) (l ∷ ls) s =
    elim (step_of s f l) [
      | stays e ↦
          subst (λ (x : Span). (pass fs ls x ≡ s) ⊎ (one s f l + inside s fs ls < one (pass fs ls x) f l + inside (pass fs ls x) fs ls)) (sym e)
          (beside s (pass fs ls s) f l fs ls (pass_wider fs ls s) (takes_in fs ls s))
      | grows w p q r ↦
          let t = pass fs ls (widen_to s f l) in
          let v = pass_wider fs ls (widen_to s f l) in
          let u : Wider s t = record { down = omega arith; up = omega arith } in
          inr (omega (arith, one_out s f l r, one_in t f l (omega arith) (omega arith), inside_wider s t fs ls u))
    ]

-- ---- until a pass changes nothing

same_refl : (s : Span) → same_span s s ≡ true
unfolding same_span
same_refl s = rw (eq-eqb s.first s.first refl, eq-eqb s.last s.last refl)

pub same_eq : (s t : Span) → same_span s t ≡ true → s ≡ t
unfolding same_span
same_eq s t h =
    let b = and_parts (eqb s.first t.first) (eqb s.last t.last) h in
    ap₂ span (eqb-true s.first t.first b.0) (eqb-true s.last t.last b.1)

module _ (fs ls : List ℕ) where
  -- a pass that changes takes in one merge more
  pub more : (s : Span) → still fs ls s ≡ false → inside s fs ls < inside (pass fs ls s) fs ls
  unfolding still
  more s h =
      ⊎_elim (λ e. let z : true ≡ false = sym (same_refl s) ∙ (sym (ap (same_span s) e) ∙ h) in absurd cc) (λ p. p) (takes_in fs ls s)

  pub passes_still : (k : ℕ) (s : Span) (n : ℕ) → still fs ls s ≡ true → passes fs ls k (still fs ls s) s n ≡ expanded_to s n
  unfolding passes
  passes_still zero s n h = refl
  passes_still (suc k) s n h = rw h

  pub passes_more : (k : ℕ) (s : Span) (n : ℕ) → 0 < k → still fs ls s ≡ false
      → passes fs ls k (still fs ls s) s n ≡ passes fs ls (k - 1) (still fs ls (pass fs ls s)) (pass fs ls s) (n + 1)
  unfolding passes
  passes_more zero s n p h = absurd (omega arith)
  passes_more (suc k) s n p h = let e : suc k - 1 ≡ k = omega arith in rw (h, e, add-one)

  ends_still : (s : Span) (f l : ℕ) → still fs ls s ≡ true → Pair s.first s.last ≡ Pair f l → pass fs ls (span f l) ≡ span f l
  unfolding still
  ends_still s f l h t =
      let p : s.first ≡ f = cc in
      let q : s.last ≡ l = cc in
      let e : s ≡ span f l = ap₂ span p q in
      sym (same_eq (span f l) (pass fs ls (span f l)) (subst (λ (x : Span). same_span x (pass fs ls x) ≡ true) e h))

  -- where the bound is no less than the merges outside the span, a pass over the result changes nothing
  settles : (k : ℕ) (b : Bool) (s : Span) (n f l : ℕ) → still fs ls s ≡ b → length fs ≤ k + inside s fs ls
      → (passes fs ls k b s n).title ≡ Pair f l → pass fs ls (span f l) ≡ span f l
  unfolding passes
  settles zero true s n f l e h t = ends_still s f l e t
  settles zero false s n f l e h t = absurd (omega (arith, more s e, inside_le (pass fs ls s) fs ls))
  settles (suc k) true s n f l e h t = ends_still s f l e t
  settles (suc k) false s n f l e h t = settles k (still fs ls (pass fs ls s)) (pass fs ls s) (suc n) f l refl (omega (arith, more s e)) t

  -- so the bound cuts nothing off: "passes repeat until one changes nothing"
  pub settled : (f l g m : ℕ) → (expand fs ls f l).title ≡ Pair g m → pass fs ls (span g m) ≡ span g m
  unfolding expand
  settled f l g m t = settles (length fs) (still fs ls (span f l)) (span f l) 0 g m refl (omega arith) t

  -- ---- the outer loop: after a pass from s to t, by what `same_span` said of the two

  module _ (s t : Span) (e : t ≡ pass fs ls s) where
    pub still_of : (r b : Bool) → r ≡ same_span s t → r ≡ b → still fs ls s ≡ b
    unfolding still
    still_of r b p q = rw (← e, ← p) q

    pub turn_count : (n : ℕ) → still fs ls s ≡ false → n ≤ inside s fs ls → n + 1 ≤ inside t fs ls
    turn_count n h p = rw e (omega (arith, more s h))

    pub turn_less : still fs ls s ≡ false → length fs - inside t fs ls < length fs - inside s fs ls
    turn_less h = rw e (omega (arith, more s h, inside_le (pass fs ls s) fs ls))

    pub turn_passes : (n : ℕ) → still fs ls s ≡ false → n ≤ inside s fs ls
        → passes fs ls (length fs - (n + 1)) (still fs ls t) t (n + 1) ≡ passes fs ls (length fs - n) (still fs ls s) s n
    turn_passes n h p =
        let z : length fs - (n + 1) ≡ (length fs - n) - 1 = omega arith in
        let k : 0 < length fs - n = omega (arith, more s h, inside_le (pass fs ls s) fs ls) in
        rw (e, z) (sym (passes_more (length fs - n) s n k h))

    pub turn_ends : (k n : ℕ) → still fs ls s ≡ true → expanded_to t n ≡ passes fs ls k (still fs ls s) s n
    unfolding still
    turn_ends k n h =
        ap (λ (x : Span). expanded_to x n) (e ∙ sym (same_eq s (pass fs ls s) h)) ∙ sym (passes_still k s n h)

-- ---- the title's total

module _ (title : Title) (f l : ℕ) (is ss : List ℕ) (h : title ≡ Pair f l) (a e : ℕ) (p : a ≡ below f is) (q : e ≡ below (l + 1) is) where
  pub total_some : sum (mid a e ss) ≡ title_total title is ss
  unfolding title_total
  total_some = rw (h, p, q)

  pub total_none : e ≤ a → 0 ≡ title_total title is ss
  unfolding title_total sum
  total_none k = let z : e - a ≡ 0 = omega arith in rw (h, ← p, ← q, z)

-- ---- what a widened title is

widen_to-within : (limit : ℕ) (s : Span) (f l : ℕ) → s.last ≤ limit → l ≤ limit → (widen_to s f l).last ≤ limit
unfolding widen_to
widen_to-within limit s f l h k =
    either (λ (t : Span). t.last ≤ limit) (leb f s.last && leb s.first l) (omega arith) h

pass-within : (limit : ℕ) (fs ls : List ℕ) (s : Span) → all_within limit ls ≡ true → s.last ≤ limit → (pass fs ls s).last ≤ limit
unfolding pass all_within
pass-within limit [] ls s h k = k
pass-within limit (f ∷ fs) [] s h k = k
pass-within limit (f ∷ fs) (l ∷ ls) s h k =
    let b = and_parts (leb l limit) (all_within limit ls) h in
    pass-within limit fs ls (widen_to s f l) b.1 (widen_to-within limit s f l k (leb-true l limit b.0))

module _ (limit : ℕ) (fs ls : List ℕ) (h : all_within limit ls ≡ true) where
  passes_reach : (k : ℕ) (b : Bool) (s : Span) (n g m : ℕ) → s.last ≤ limit → (passes fs ls k b s n).title ≡ Pair g m
      → (g ≤ s.first) × (s.last ≤ m) × (m ≤ limit)
  unfolding passes
  passes_reach zero b s n g m p t = reach s p t
    where
      reach : (s : Span) → s.last ≤ limit → Pair s.first s.last ≡ Pair g m → (g ≤ s.first) × (s.last ≤ m) × (m ≤ limit)
      reach s p t = let a : s.first ≡ g = cc in let e : s.last ≡ m = cc in omega arith
  passes_reach (suc k) true s n g m p t =
      let a : s.first ≡ g = cc in
      let e : s.last ≡ m = cc in
      omega arith
  passes_reach (suc k) false s n g m p t =
      let w = pass_wider fs ls s in
      let r = passes_reach k (still fs ls (pass fs ls s)) (pass fs ls s) (suc n) g m (pass-within limit fs ls s h p) t in
      omega arith

  -- it reaches as far as the title did, and not beyond the limit
  pub expand_reach : (f l g m : ℕ) → l ≤ limit → (expand fs ls f l).title ≡ Pair g m → (g ≤ f) × (l ≤ m) × (m ≤ limit)
  unfolding expand
  expand_reach f l g m p t = passes_reach (length fs) (still fs ls (span f l)) (span f l) 0 g m p t

  normal_pair : (title : Title) (f l : ℕ) → (normalized limit title).title ≡ Pair f l → (f ≤ l) × (l ≤ limit)
  unfolding normalized
  normal_pair Absent f l t = absurd cc
  normal_pair (Pair a b) f l t = go (leb a b) (leb b limit) refl refl t
    where
      kept : Normalized
      kept = record { title = Pair a b; ignored = 0 }

      go : (x y : Bool) → leb a b ≡ x → leb b limit ≡ y → (cond (x && y) kept (record { title = Absent; ignored = 1 })).title ≡ Pair f l → (f ≤ l)
          × (l ≤ limit)
      go true true p q t = let e : a ≡ f = cc in let e' : b ≡ l = cc in omega (arith, leb-true a b p, leb-true b limit q)
      go true false p q t = absurd cc
      go false y p q t = absurd cc

  -- a widened title is in order and within the limit
  pub widened_pair : (title : Title) (g m : ℕ) → (widened limit title fs ls).title ≡ Pair g m → (g ≤ m) × (m ≤ limit)
  unfolding widened widened_from
  widened_pair title g m t = go (normalized limit title).title (normal_pair title) t
    where
      go : (x : Title) → ((f l : ℕ) → x ≡ Pair f l → (f ≤ l) × (l ≤ limit)) → (widened_from fs ls x (normalized limit title).ignored).title ≡ Pair g m
          → (g ≤ m) × (m ≤ limit)
      go Absent p t = absurd cc
      go (Pair f l) p t = omega (arith, p f l refl, expand_reach f l g m (p f l refl).1 t)

met_widens : (s : Span) (f l : ℕ) → f ≤ s.last → s.first ≤ l → ((widen_to s f l).first ≤ f) × (l ≤ (widen_to s f l).last)
unfolding widen_to
met_widens s f l a b = rw (le-leb f s.last, le-leb s.first l) (omega arith)

-- a pass that changes nothing changes nothing at its first merge
later : (s : Span) (f l : ℕ) (fs ls : List ℕ) → pass fs ls (widen_to s f l) ≡ s → pass fs ls s ≡ s
later s f l fs ls e =
    let w = widen_to_wider s f l in
    let v = subst (Wider (widen_to s f l)) e (pass_wider fs ls (widen_to s f l)) in
    let p : (widen_to s f l).first ≡ s.first = omega arith in
    let q : (widen_to s f l).last ≡ s.last = omega arith in
    let z : widen_to s f l ≡ s = ap₂ span p q in
    subst (λ (x : Span). pass fs ls x ≡ s) z e

-- where a pass changes nothing, a merge that meets the span lies within it: no merge crosses an edge of a widened title
pub meets_within : (fs ls : List ℕ) (s : Span) → pass fs ls s ≡ s → (k : ℕ) → k < length fs → k < length ls
    → get_or fs k 0 ≤ s.last → s.first ≤ get_or ls k 0 → (s.first ≤ get_or fs k 0) × (get_or ls k 0 ≤ s.last)
unfolding pass
meets_within [] ls s e k p q a b = absurd (omega arith)
meets_within (f ∷ fs) [] s e k p q a b = absurd (omega arith)
meets_within (f ∷ fs) (l ∷ ls) s e zero p q a b =
    let w = subst (Wider (widen_to s f l)) e (pass_wider fs ls (widen_to s f l)) in
    let m = met_widens s f l a b in
    omega arith
meets_within (f ∷ fs) (l ∷ ls) s e (suc k) p q a b = meets_within fs ls s (later s f l fs ls e) k (omega arith) (omega arith) a b

-- ---- bounds on what a title gives

-- no more notes than merges, and at most one for an ignored title
module _ (fs ls : List ℕ) where
  passes_notes : (k : ℕ) (b : Bool) (s : Span) (n : ℕ) → (passes fs ls k b s n).expanded ≤ n + k
  unfolding passes
  passes_notes zero b s n = omega arith
  passes_notes (suc k) true s n = omega arith
  passes_notes (suc k) false s n = omega (arith, passes_notes k (still fs ls (pass fs ls s)) (pass fs ls s) (suc n))

  pub expanded_le : (limit : ℕ) (title : Title) → (widened limit title fs ls).expanded ≤ length fs
  unfolding widened widened_from expand
  expanded_le limit title = go (normalized limit title).title (normalized limit title).ignored
    where
      go : (t : Title) (n : ℕ) → (widened_from fs ls t n).expanded ≤ length fs
      go Absent n = omega arith
      go (Pair f l) n = omega (arith, passes_notes (length fs) (still fs ls (span f l)) (span f l) 0)

  pub ignored_le : (limit : ℕ) (title : Title) → (widened limit title fs ls).ignored ≤ 1
  unfolding widened widened_from normalized
  ignored_le limit title = go (normalized limit title).title (normalized limit title).ignored (normal title)
    where
      go : (t : Title) (n : ℕ) → n ≤ 1 → (widened_from fs ls t n).ignored ≤ 1
      go Absent n h = h
      go (Pair f l) n h = h

      normal : (title : Title) → (normalized limit title).ignored ≤ 1
      normal Absent = omega arith
      normal (Pair f l) = either (λ (x : Normalized). x.ignored ≤ 1) (leb f l && leb l limit) (omega arith) (omega arith)

-- and no later than after the limit
pub body_start_le : (limit : ℕ) (title : Title) (first : ℕ) → first ≤ limit → ((f l : ℕ) → title ≡ Pair f l → l ≤ limit) → body_start title first ≤ limit + 1
unfolding body_start
body_start_le limit Absent first h k = omega arith
body_start_le limit (Pair f l) first h k =
    either (λ (n : ℕ). n ≤ limit + 1) (leb f first && leb first l) (omega (arith, k f l refl)) (omega arith)

sum_each : (l : List ℕ) → ((k : ℕ) → get_or l k 0 < 2 ^ 30) → sum l ≤ 1073741824 * length l
unfolding sum
sum_each [] h = omega arith
sum_each (x ∷ l) h = omega (arith, h 0, sum_each l (λ k. h (suc k)))

pub small-sum : (l : List ℕ) → Small l → sum l ≤ 2 ^ 50
small-sum l s = omega (arith, sum_each l s.each, s.few)

pub title_total_le : (title : Title) (is ss : List ℕ) → Slots is ss → title_total title is ss ≤ 2 ^ 50
unfolding title_total
title_total_le Absent is ss s = omega arith
title_total_le (Pair f l) is ss s =
    let e : below (l + 1) is ≤ length ss = omega (arith, below-le (l + 1) is, s.even) in
    small-sum (mid (below f is) (below (l + 1) is) ss) (slots_mid (below f is) (below (l + 1) is) is ss e s).small
