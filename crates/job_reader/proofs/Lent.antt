-- A loop that writes a number of each item to a lent list, from its front. Assumes nothing.
use mathlib.Core.Path.{◌≡◌, sym, ap, ◌∙◌}
use mathlib.Core.List.{List, [], ◌∷◌, map}
use Prim.Native.Nat.{ℕ, ◌+◌, ◌≤◌, ◌<◌}
use native.Mathlib.Omega.{arith}
use lib.ListN.{length, set, length-map}
use Rattle.std.proofs.lemmas.List.{nil_from_length}
use Rattle.job_records.specs.Records.{field, records, marked}
use Rattle.planner_rules.specs.Slots.{written}
use Rattle.planner_rules.proofs.Lent.{Wrote, store, done}

-- ---- one list, of a number of each item

-- `old` has room for a number of each of `whole`; `new` is `old` with the first k of them written to its front, and `left` are the items to come
pub record One {A : Type 0} (g : A → ℕ) (whole : List A) (old : List ℕ) (k : ℕ) (left : List A) (new : List ℕ) : Type 0 where
  pub room : length whole ≤ length old
  pub counted : k + length left ≡ length whole
  pub wrote : Wrote (map g whole) old k (map g left) new

-- the items are the records with a mark, of which the list has the numbers at one place: of all in `bytes`, those in `s` are to come
abbrev pub Numbers : (mark at : ℕ) (bytes s : List ℕ) (k : ℕ) (old new : List ℕ) → Type 0
Numbers mark at bytes s k old new = One (field at) (marked mark (records bytes)) old k (marked mark (records s)) new

module _ {A : Type 0} {g : A → ℕ} {whole : List A} {old : List ℕ} {k : ℕ} {left : List A} {new : List ℕ} (w : One g whole old k left new) where
  pub one_room : {x : A} {rest : List A} → left ≡ x ∷ rest → k < length new
  one_room e =
      let a = w.wrote.long in
      let l = ap length e in
      omega arith

  -- the list is full, so all were written
  pub one_full : k ≡ length new → left ≡ []
  one_full e =
      let a = w.wrote.long in
      let z : length left ≡ 0 = omega (arith, w.room, w.counted) in
      nil_from_length left z

  pub one_store : {x : A} {rest : List A} {v : ℕ} → left ≡ x ∷ rest → v ≡ g x → One g whole old (k + 1) rest (set new k v)
  one_store {x} {rest} e h =
      let u : One g whole old k (x ∷ rest) new = rw e at w in
      rw h (record { room = w.room; counted = omega (arith, u.counted); wrote = store _ old k (g x) (map g rest) new (one_room e) u.wrote })

  pub one_done : left ≡ [] → new ≡ written (map g whole) old
  one_done e =
      let u : One g whole old k [] new = rw e at w in
      let c : k ≡ length whole = omega (arith, u.counted) in
      done _ old k new (c ∙ sym (length-map whole g)) u.wrote
