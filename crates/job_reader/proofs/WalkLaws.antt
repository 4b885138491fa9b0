-- Laws for the loops that read the items of a job, kind by kind. Assumes nothing.
use mathlib.Core.Path.{◌≡◌, refl, sym, ap, ◌∙◌}
use Rattle.std.proofs.Common.{◌≢◌}
use mathlib.Core.Bool.{Bool, true, false, cond}
use mathlib.Core.List.{List, [], ◌∷◌}
use Prim.Native.Nat.{ℕ, ◌+◌, ◌-◌, ◌≤◌, ◌<◌}
use native.Mathlib.Omega.{arith}
use lib.Dec.{eqb}
use lib.ListN.{length, take, drop}
use borrow.Author.Tests.{eqb-true, eqb-false}
use Rattle.job_records.specs.Records.{step, rank, records, marked}
use Rattle.job_records.specs.declared.records.Head.{Head}
use Rattle.std.specs.Prelude.{Option, Some, None}
use Rattle.job_walk.specs.Walk.{before, Sorted}
use Rattle.job_reader.specs.Walk.{of_kind, Kept}
use Rattle.job_records.specs.declared.records.Record.{Record}
use Rattle.job_walk.proofs.WalkLaws.{sorted_less, sorted_above, Used, walk_end, walk_used, walk_on, walk_yes, walk_no, walk_sorted}

-- ---- the record of a kind

kind_goes : (k : ℕ) (g : Option Head) (h : Head) → of_kind k g ≡ Some h → (g ≡ Some h) × (rank h.found ≡ k)
unfolding of_kind
kind_goes k None h e = absurd cc
kind_goes k (Some f) h e = go (eqb (rank f.found) k) refl e
  where
    go : (b : Bool) → eqb (rank f.found) k ≡ b → cond b (Some f) None ≡ Some h → (Some f ≡ Some h) × (rank h.found ≡ k)
    go true i e = let j : f ≡ h = cc in (e, ap (λ (x : Head). rank x.found) (sym j) ∙ eqb-true (rank f.found) k i)
    go false i e = absurd cc

-- no record of the kind comes next: nothing comes, or one of another kind
kind_stops : {X : Type 0} (k : ℕ) (g : Option Head) → of_kind k g ≡ None → (g ≡ None → X) → ((h : Head) → g ≡ Some h → (rank h.found ≡ k → ⊥) → X) → X
unfolding of_kind
kind_stops k None e p q = p refl
kind_stops {X} k (Some h) e p q = go (eqb (rank h.found) k) refl e
  where
    go : (b : Bool) → eqb (rank h.found) k ≡ b → cond b (Some h) None ≡ None → X
    go true i e = absurd cc
    go false i e = q h refl (eqb-false (rank h.found) k i)

-- ---- what is left of b

-- the marks from i on are left, and of those from j on nothing was passed
pub record Going (i j : ℕ) (b s : List ℕ) : Type 0 where
  pub sorted : Sorted i (records s)
  pub kept : Kept j b s

module _ {i j : ℕ} {b s : List ℕ} (w : Going i j b s) {f : Option Head} (e : f ≡ before (step s)) where
  pub past_end : f ≡ None → Sorted j (records s)
  past_end k = rw (walk_end s e k) tt

  pub past_at : {h : Head} → f ≡ Some h → j ≤ rank h.found → Sorted j (records s)
  past_at k h = rw (walk_on s e k) (h, (walk_sorted s e k i w.sorted).1)

  -- a record before the marks from j on
  pub going_on : {h : Head} → f ≡ Some h → rank h.found < j → Going i j b (take (length s - h.bytes) (drop h.bytes s))
  going_on {h} k l =
      let v = walk_sorted s e k i w.sorted in
      record {
        sorted = sorted_less i (rank h.found) (records (take (length s - h.bytes) (drop h.bytes s))) v.0 v.1;
        kept = record { same = λ m o. sym (walk_no s e k m (λ q. omega arith)) ∙ w.kept.same m o };
      }

marked-nil : (k : ℕ) → marked k [] ≡ []
unfolding marked
marked-nil k = refl

-- with no record of the kind k, marks from k on are marks from k + 1 on
pub sorted_next : (k : ℕ) (rs : List Record) → Sorted k rs → marked k rs ≡ [] → Sorted (k + 1) rs
unfolding marked
sorted_next k [] w e = tt
sorted_next k (r ∷ rs) w e = go (eqb (rank r) k) refl e
  where
    go : (b : Bool) → eqb (rank r) k ≡ b → cond b (r ∷ marked k rs) (marked k rs) ≡ [] → Sorted (k + 1) (r ∷ rs)
    go true i e = absurd cc
    go false i e = let o : rank r ≢ k = eqb-false (rank r) k i in (omega (arith, w.0), w.1)

-- h is the next record of the kind k in s, which is what is left of b
pub record Comes (k : ℕ) (b s : List ℕ) (h : Head) : Type 0 where
  pub rank_is : rank h.found ≡ k
  pub used : Used s h.bytes
  pub head : marked k (records s) ≡ h.found ∷ marked k (records (take (length s - h.bytes) (drop h.bytes s)))
  pub on : Going k (k + 1) b (take (length s - h.bytes) (drop h.bytes s))

-- a loop over the records of a kind, which stand at the head
module _ {k : ℕ} {b s : List ℕ} (w : Going k (k + 1) b s) {f : Option Head} (e : f ≡ of_kind k (before (step s))) where
  -- none is left: all of the kind were passed
  pub kind_done : f ≡ None → marked k (records s) ≡ []
  kind_done i = kind_stops k (before (step s)) (sym e ∙ i) (λ q. rw (walk_end s refl q) (marked-nil k)) (λ h q o. walk_no s refl q k o ∙ after q o)
    where
      after : {h : Head} → before (step s) ≡ Some h → (rank h.found ≡ k → ⊥) → marked k (records (take (length s - h.bytes) (drop h.bytes s))) ≡ []
      after {h} q o =
          let v = walk_sorted s refl q k w.sorted in
          let n : rank h.found ≢ k = o in
          sorted_above k (rank h.found) (records (take (length s - h.bytes) (drop h.bytes s))) (omega (arith, v.0)) v.1

  pub kind_next : {h : Head} → f ≡ Some h → Comes k b s h
  kind_next {h} i =
      let this = kind_goes k (before (step s)) h (sym e ∙ i) in
      record {
        rank_is = this.1;
        used = walk_used s refl this.0;
        head = walk_yes s refl this.0 k this.1;
        on = going_on w refl this.0 (omega (arith, this.1));
      }
