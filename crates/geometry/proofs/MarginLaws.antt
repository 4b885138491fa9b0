-- Six margins are turned into units one after the other, before a side is taken: the answer is the definition's, since 10 is the only refusal.
-- Assumes nothing.
use Rattle.std.proofs.Common.{◌≡◌, ℕ, Bool, true, false, cond, ℤ, pos, ◌-ℤ◌, sym, refl, ap, ◌∙◌}
use Rattle.std.specs.Prelude.{⊤}
use lib.Ieee.{Float, nan, inf, fin, binary64, mul, of_int}
use Rattle.units.specs.declared.margins.Margins.{Margins}
use Rattle.units.specs.Outcome.{Outcome, given, refused, and_then}
use Rattle.units.specs.Units.{in_i64, less_of, in_pixels, nearest_units, inches_to_fixed}
use Rattle.geometry.specs.Paper.{Placed, placed}
use Rattle.geometry.specs.Lengths.{together}

-- ---- 10 is the only number
abbrev pub Ten : {A : Type 0} → Outcome A → Type 0
Ten (given a) = ⊤
Ten (refused n) = n ≡ 10

ten_no : (b : Bool) (z : ℤ) → Ten (cond b (refused 10) (given z))
ten_no true z = refl
ten_no false z = tt

ten_yes : (b : Bool) (z : ℤ) → Ten (cond b (given z) (refused 10))
ten_yes true z = tt
ten_yes false z = refl

ten_i64 : (z : ℤ) → Ten (in_i64 z)
unfolding in_i64
ten_i64 z = ten_yes _ _

ten_nearest : (x : Float) → Ten (nearest_units x)
ten_nearest nan = refl
ten_nearest (inf s) = refl
ten_nearest (fin s m e) = ten_no _ _

pub ten_inches : (x : Float) → Ten (inches_to_fixed x)
unfolding inches_to_fixed
ten_inches x = ten_nearest (mul binary64 (in_pixels x) (of_int binary64 (pos 1024)))

ten_then : {A B : Type 0} (o : Outcome A) (f : A → Outcome B) → Ten o → ((a : A) → Ten (f a)) → Ten (and_then o f)
ten_then (given a) f t h = h a
ten_then (refused n) f t h = t

-- ---- what is refused later is refused at once
skip : {A B : Type 0} (k : ℕ) (o : Outcome A) (f : A → Outcome B) → Ten o → k ≡ 10 → ((a : A) → refused k ≡ f a) → refused k ≡ and_then o f
skip k (given a) f t e h = h a
skip k (refused j) f t e h = ap refused (e ∙ sym t)

gone : {A B C : Type 0} (k : ℕ) (o : Outcome A) (f : B → Outcome C) → Ten o → k ≡ 10 → refused k ≡ and_then (and_then o (λ (a : A). refused k)) f
gone k (given a) f t e = refl
gone k (refused j) f t e = ap refused (e ∙ sym t)

-- ---- what six lengths leave of a paper
abbrev pub left_by : ℤ → ℤ → ℕ → Margins ℤ → Outcome Placed
left_by width height invalid m =
    placed (given m.left) (given m.top) (less_of (less_of (given width) (given m.left)) (given m.right))
    (less_of (less_of (given height) (given m.top)) (given m.bottom)) (given m.header)
    (less_of (less_of (given height) (given m.footer)) (given (pos 16384))) invalid

two : (a b c : ℤ) → Ten (less_of (less_of (given a) (given b)) (given c))
two a b c = ten_then (in_i64 (a -ℤ b)) (λ (x : ℤ). in_i64 (x -ℤ c)) (ten_i64 (a -ℤ b)) (λ (x : ℤ). ten_i64 (x -ℤ c))

pub reordered : (w h : ℤ) (n : ℕ) (l r t b d f : Outcome ℤ) → Ten r → Ten t → Ten b → Ten d → Ten f
    → and_then (together l r t b d f) (left_by w h n) ≡ placed l t (less_of (less_of (given w) l) r) (less_of (less_of (given h) t) b) d
    (less_of (less_of (given h) f) (given (pos 16384))) n
reordered w h n (refused k) r t b d f R T B D F = refl
reordered w h n (given l) (refused k) t b d f R T B D F = skip k t _ T R (λ (y : ℤ). gone k (in_i64 (w -ℤ l)) _ (ten_i64 (w -ℤ l)) R)
reordered w h n (given l) (given r) (refused k) b d f R T B D F = refl
reordered w h n (given l) (given r) (given t) (refused k) d f R T B D F =
    skip k (less_of (less_of (given w) (given l)) (given r)) _ (two w l r) B (λ (x : ℤ). gone k (in_i64 (h -ℤ t)) _ (ten_i64 (h -ℤ t)) B)
reordered w h n (given l) (given r) (given t) (given b) (refused k) f R T B D F =
    skip k (less_of (less_of (given w) (given l)) (given r)) _ (two w l r) D
    (λ (x : ℤ). skip k (less_of (less_of (given h) (given t)) (given b)) _ (two h t b) D (λ (y : ℤ). refl))
reordered w h n (given l) (given r) (given t) (given b) (given d) (refused k) R T B D F =
    skip k (less_of (less_of (given w) (given l)) (given r)) _ (two w l r) F
    (λ (x : ℤ). skip k (less_of (less_of (given h) (given t)) (given b)) _ (two h t b) F (λ (y : ℤ). refl))
reordered w h n (given l) (given r) (given t) (given b) (given d) (given f) R T B D F = refl
