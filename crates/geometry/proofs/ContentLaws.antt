-- Paper and content are always given: no paper, landscape or margins lead to a refusal, and the content's sides are moderate. Assumes nothing.
use Rattle.std.proofs.Common.{◌≡◌, ℕ, zero, suc, ◌+◌, ◌*◌, ◌^◌, ◌<◌, ◌≤◌, Bool, true, false, cond, ◌&&◌, T, eqb, leb, List, [], ◌∷◌, ℤ, pos, negsuc, ◌-ℤ◌}
use Rattle.std.proofs.Common.{refl, ap, ◌∙◌, arith, lit≤, leb→le, le-ltb, lt-ltb}
use native.Mathlib.Decide.{dec_le}
use lib.IntN.{sub_ℕ}
use lib.Signed.{mag}
use lib.Ieee.{Float, nan, inf, fin, up, down, add, mul, div, round, of_int, binary64}
use lib.Ieee.Fits.{and_l, and_r}
use Rattle.units.specs.declared.margins.Margins.{Margins}
use Rattle.std.specs.Prelude.{Option, Some, None}
use Rattle.units.specs.Outcome.{Outcome, given, refused, and_then}
use Rattle.units.specs.Units.{less_of, inches_to_fixed}
use Rattle.geometry.specs.Paper.{Sheet, PaperFound, Placed, letter, sheets, requested, resolved, upright, turned, paper_geometry, usable, all_usable}
use Rattle.geometry.specs.Paper.{side_in_pixels, shorter, margins_hold, default_margins, between, footer_at, placed, content_between, content_geometry}
use Rattle.units.proofs.Signs.{inside}
use Rattle.geometry.proofs.Constants.{default_side, default_end, default_line}
use Rattle.geometry.proofs.Floats.{Reaches, Within, SmallUnits, units_given, not_reaching, near_reaches, far_reaches}

-- ---- papers: one test, computed over the whole list

-- more units than any side of the list has; the longest, 44 inches, has 4,325,376
abbrev pub units_bound : ℕ
units_bound = 2 ^ 23

-- a side of the list: from 0 to that bound, and at most 2^13 pixels
pub record PaperSide (z : ℤ) : Type 0 where
  pub units : ℕ
  pub is : z ≡ pos units
  pub low : units ≤ units_bound
  pub pixels : Within 8192 (side_in_pixels z)

low_pixels : Float → Bool
low_pixels nan = false
low_pixels (inf s) = false
low_pixels (fin true m e) = false
low_pixels (fin false m e) = leb (m * up e) (8192 * down e)

low_side : ℤ → Bool
low_side (pos n) = leb n units_bound && low_pixels (side_in_pixels (pos n))
low_side (negsuc n) = false

low_given : Outcome ℤ → Bool
low_given (given z) = low_side z
low_given (refused n) = false

low_sheet : Sheet → Bool
low_sheet s = low_given (inches_to_fixed s.width) && low_given (inches_to_fixed s.height)

all_low : List Sheet → Bool
all_low [] = true
all_low (s ∷ rest) = low_sheet s && all_low rest

pixels_are : (x : Float) → T (low_pixels x) → Within 8192 x
unfolding low_pixels
pixels_are nan t = absurd t
pixels_are (inf s) t = absurd t
pixels_are (fin true m e) t = absurd t
pixels_are (fin false m e) t = (refl, leb→le (m * up e) (8192 * down e) t)

side_is : (z : ℤ) → T (low_side z) → PaperSide z
unfolding low_side
side_is (pos n) t =
    let a = leb n units_bound in
    let b = low_pixels (side_in_pixels (pos n)) in
    record { units = n; is = refl; low = leb→le n units_bound (and_l a b t); pixels = pixels_are (side_in_pixels (pos n)) (and_r a b t) }
side_is (negsuc n) t = absurd t

given_is : (o : Outcome ℤ) → T (low_given o) → (z : ℤ) × (o ≡ given z) × PaperSide z
unfolding low_given
given_is (given z) t = (z, refl, side_is z t)
given_is (refused n) t = absurd t

resolved_low : (k : ℕ) (ss : List Sheet) → T (low_sheet letter) → T (all_low ss) → T (low_sheet (resolved k ss).0)
unfolding resolved all_low
resolved_low k [] l t = l
resolved_low k (s ∷ rest) l t = by (eqb k s.code) (resolved_low k rest l (and_r (low_sheet s) (all_low rest) t))
  where
    by : (b : Bool) → T (low_sheet (resolved k rest).0) → T (low_sheet (cond b (s, 0) (resolved k rest)).0)
    by true later = and_l (low_sheet s) (all_low rest) t
    by false later = later

sheet_low : (k : ℕ) → T (low_sheet (resolved k sheets).0)
unfolding low_sheet low_given low_side low_pixels all_low sheets letter inches_to_fixed mul div round of_int
sheet_low k = resolved_low k sheets tt tt

pub record PaperGiven (o : Outcome PaperFound) : Type 0 where
  pub paper : PaperFound
  pub is : o ≡ given paper
  pub wide : PaperSide paper.width
  pub high : PaperSide paper.height

upright_is : (r : Sheet × ℕ) (w h : ℤ) → inches_to_fixed r.0.width ≡ given w → inches_to_fixed r.0.height ≡ given h
    → upright r ≡ given (record { code = r.0.code; width = w; height = h; unknown = r.1 })
upright_is r w h a b = rw (a, b) refl

upright_given : (r : Sheet × ℕ) → T (low_sheet r.0) → PaperGiven (upright r)
unfolding low_sheet
upright_given r t =
    let a = low_given (inches_to_fixed r.0.width) in
    let b = low_given (inches_to_fixed r.0.height) in
    let w = given_is (inches_to_fixed r.0.width) (and_l a b t) in
    let h = given_is (inches_to_fixed r.0.height) (and_r a b t) in
    record {
      paper = record { code = r.0.code; width = w.0; height = h.0; unknown = r.1 };
      is = upright_is r w.0 h.0 w.1 h.1;
      wide = w.2;
      high = h.2;
    }

pub paper_given : (asked : Option ℕ) (landscape : Bool) → PaperGiven (paper_geometry asked landscape)
unfolding paper_geometry
paper_given asked landscape = turn landscape (upright_given (resolved (requested asked) sheets) (sheet_low (requested asked)))
  where
    turn : (l : Bool) → PaperGiven (upright (resolved (requested asked) sheets))
        → PaperGiven (and_then (upright (resolved (requested asked) sheets)) (λ (p : PaperFound). given (turned l p)))
    turn true g = record { paper = turned true g.paper; is = rw g.is refl; wide = g.high; high = g.wide }
    turn false g = record { paper = g.paper; is = rw g.is refl; wide = g.wide; high = g.high }

-- ---- differences

mag-sub : (z : ℤ) (n : ℕ) → mag (z -ℤ pos n) ≤ mag z + n
mag-sub (pos m) zero = omega arith
mag-sub (pos m) (suc n) = by (dec_le (suc n) m)
  where
    by : Dec (suc n ≤ m) → mag (sub_ℕ m (suc n)) ≤ m + suc n
    by (yes h) = rw (le-ltb m (suc n) h) (omega arith)
    by (no h) = rw (lt-ltb m (suc n) (omega arith)) (omega arith)
mag-sub (negsuc m) zero = rw (lt-ltb 0 (suc m) (omega arith)) (omega arith)
mag-sub (negsuc m) (suc n) = omega arith

less_given : (z : ℤ) (n : ℕ) → mag z + n < 2 ^ 63 → less_of (given z) (given (pos n)) ≡ given (z -ℤ pos n)
less_given z n h = inside (z -ℤ pos n) (omega (arith, mag-sub z n))

-- a difference that is given, and moderate
abbrev pub Moderate : Outcome ℤ → Type 0
Moderate o = (z : ℤ) × (o ≡ given z) × (mag z < 2 ^ 53)

less_moderate : (z : ℤ) (n k : ℕ) → n ≤ 2 ^ 30 → mag z ≤ units_bound → k ≤ 2 ^ 30 → Moderate (less_of (less_of (given z) (given (pos n))) (given (pos k)))
less_moderate z n k N Z K =
    let a = mag-sub z n in
    let b = mag-sub (z -ℤ pos n) k in
    let first : less_of (given z) (given (pos n)) ≡ given (z -ℤ pos n) = less_given z n (omega arith) in
    let second : less_of (given (z -ℤ pos n)) (given (pos k)) ≡ given (z -ℤ pos n -ℤ pos k) = less_given (z -ℤ pos n) k (omega arith) in
    (z -ℤ pos n -ℤ pos k, ap (λ (o : Outcome ℤ). less_of o (given (pos k))) first ∙ second, omega arith)

side_low : (z : ℤ) → PaperSide z → mag z ≤ units_bound
side_low z s = rw s.is s.low

between_given : (z : ℤ) (near far : Float) → PaperSide z → SmallUnits near → SmallUnits far → Moderate (between z near far)
between_given z near far s a b =
    rw (a.1, b.1) (less_moderate z a.0 b.0 a.2 (side_low z s) b.2)

footer_given : (z : ℤ) (footer : Float) → PaperSide z → SmallUnits footer → Moderate (footer_at z footer)
footer_given z footer s a = rw a.1 (less_moderate z a.0 16384 a.2 (side_low z s) (lit≤ tt))

-- ---- content

-- six margins, each small
pub record SmallMargins (m : Margins Float) : Type 0 where
  pub left : SmallUnits m.left
  pub right : SmallUnits m.right
  pub top : SmallUnits m.top
  pub bottom : SmallUnits m.bottom
  pub header : SmallUnits m.header
  pub footer : SmallUnits m.footer

-- content that is given, with moderate sides
pub record ContentGiven (o : Outcome Placed) : Type 0 where
  pub content : Placed
  pub is : o ≡ given content
  pub wide : mag content.width < 2 ^ 53
  pub high : mag content.height < 2 ^ 53

placed_is : (x y width height header footer : Outcome ℤ) (a b c d e f : ℤ) (invalid : ℕ)
    → x ≡ given a → y ≡ given b → width ≡ given c → height ≡ given d → header ≡ given e → footer ≡ given f
    → placed x y width height header footer invalid ≡ given (record { x = a; y = b; width = c; height = d; header = e; footer = f; invalid = invalid })
placed_is x y width height header footer a b c d e f invalid i j k l m n = rw (i, j, k, l, m, n) refl

between_margins : (w h : ℤ) (m : Margins Float) (invalid : ℕ) → PaperSide w → PaperSide h → SmallMargins m → ContentGiven (content_between w h m invalid)
unfolding content_between
between_margins w h m invalid W H s =
    let width = between_given w m.left m.right W s.left s.right in
    let height = between_given h m.top m.bottom H s.top s.bottom in
    let footer = footer_given h m.footer H s.footer in
    let x = s.left.0 in
    let y = s.top.0 in
    let header = s.header.0 in
    record {
      content = record { x = pos x; y = pos y; width = width.0; height = height.0; header = pos header; footer = footer.0; invalid = invalid };
      is = placed_is (inches_to_fixed m.left) (inches_to_fixed m.top) (between w m.left m.right) (between h m.top m.bottom)
          (inches_to_fixed m.header) (footer_at h m.footer) (pos x) (pos y) width.0 height.0 (pos header) footer.0 invalid
          s.left.1 s.top.1 width.1 height.1 s.header.1 footer.1;
      wide = width.2;
      high = height.2;
    }

-- the defaults
defaults_small : SmallMargins default_margins
unfolding default_margins
defaults_small = record {
  left = (68813, default_side, lit≤ tt);
  right = (68813, default_side, lit≤ tt);
  top = (73728, default_end, lit≤ tt);
  bottom = (73728, default_end, lit≤ tt);
  header = (29491, default_line, lit≤ tt);
  footer = (29491, default_line, lit≤ tt);
}

-- margins that hold
near_small : (z : ℤ) (x y : Float) → PaperSide z → T (usable x) → T (usable y) → T (shorter (add binary64 x y) z) → SmallUnits x
near_small z x y s u v t =
    units_given x u (λ (r : Reaches 8192 x). not_reaching (add binary64 x y) (side_in_pixels z) s.pixels t (near_reaches 8192 x y (lit≤ tt) (lit≤ tt) v r u))

far_small : (z : ℤ) (x y : Float) → PaperSide z → T (usable x) → T (usable y) → T (shorter (add binary64 x y) z) → SmallUnits y
far_small z x y s u v t =
    units_given y v (λ (r : Reaches 8192 y). not_reaching (add binary64 x y) (side_in_pixels z) s.pixels t (far_reaches 8192 x y (lit≤ tt) (lit≤ tt) u r v))

one_small : (z : ℤ) (x : Float) → PaperSide z → T (usable x) → T (shorter x z) → SmallUnits x
one_small z x s u t = units_given x u (not_reaching x (side_in_pixels z) s.pixels t)

held_small : (w h : ℤ) (m : Margins Float) → PaperSide w → PaperSide h → T (margins_hold w h m) → SmallMargins m
unfolding margins_hold
held_small w h m W H t =
    let across = shorter (add binary64 m.left m.right) w in
    let along = shorter (add binary64 m.top m.bottom) h in
    let head = shorter m.header h in
    let foot = shorter m.footer h in
    let t₃ = and_l (all_usable m && across && along && head) foot t in
    let t₂ = and_l (all_usable m && across && along) head t₃ in
    let t₁ = and_l (all_usable m && across) along t₂ in
    let all = and_l (all_usable m) across t₁ in
    let l = usable m.left in
    let r = usable m.right in
    let o = usable m.top in
    let b = usable m.bottom in
    let e = usable m.header in
    let f = usable m.footer in
    let u₅ = and_l (l && r && o && b && e) f all in
    let u₄ = and_l (l && r && o && b) e u₅ in
    let u₃ = and_l (l && r && o) b u₄ in
    let u₂ = and_l (l && r) o u₃ in
    let on_left = and_l l r u₂ in
    let on_right = and_r l r u₂ in
    let on_top = and_r (l && r) o u₃ in
    let on_bottom = and_r (l && r && o) b u₄ in
    let is_across = and_r (all_usable m) across t₁ in
    let is_along = and_r (all_usable m && across) along t₂ in
    record {
      left = near_small w m.left m.right W on_left on_right is_across;
      right = far_small w m.left m.right W on_left on_right is_across;
      top = near_small h m.top m.bottom H on_top on_bottom is_along;
      bottom = far_small h m.top m.bottom H on_top on_bottom is_along;
      header = one_small h m.header H (and_r (l && r && o && b) e u₅) (and_r (all_usable m && across && along) head t₃);
      footer = one_small h m.footer H (and_r (l && r && o && b && e) f all) (and_r (all_usable m && across && along && head) foot t);
    }

pub content_given : (w h : ℤ) (m : Option (Margins Float)) → PaperSide w → PaperSide h → ContentGiven (content_geometry w h m)
unfolding content_geometry
content_given w h None W H = between_margins w h default_margins 0 W H defaults_small
content_given w h (Some m) W H = by (margins_hold w h m) (held_small w h m W H)
  where
    by : (b : Bool) → (T b → SmallMargins m) → ContentGiven (cond b (content_between w h m 0) (content_between w h default_margins 1))
    by true held = between_margins w h m 0 W H (held tt)
    by false held = between_margins w h default_margins 1 W H defaults_small
