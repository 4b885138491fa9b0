-- Document 01, section "Paper and content". Assumes nothing.
use Rattle.std.specs.Prelude.{ℕ, Bool, true, false, cond, ◌&&◌, List, [], ◌∷◌, ℤ, pos, ◌==◌, Float, Option, Some, None, unwrap_or, Result, Ok, Err}
use Rattle.std.specs.Float.{nan, inf, fin, binary64}
use Rattle.std.specs.Float.Ieee.{add, div, lt, le, of_int, round}
use Rattle.geometry.specs.declared.paper.Paper.{Paper}
use Rattle.geometry.specs.declared.paper.ContentGeometry.{ContentGeometry}
use Rattle.units.specs.declared.margins.Margins.{Margins}
use Rattle.units.specs.declared.refusal.Refusal.{Refusal}
use Rattle.units.specs.Outcome.{Outcome, given, refused, and_then}
use Rattle.units.specs.Refusals.{number_of}
use Rattle.units.specs.Units.{in_pixels, inches_to_fixed, less_of}

-- ---- the list of papers: "Sizes per code are the Rust's list"; of five codes document 02, T-01: "ECMA-376's list decides the geometry"

-- a sheet of the list: its code, and its upright sides in inches
pub record Sheet : Type 0 where
  pub code : ℕ
  pub width : Float
  pub height : Float

-- the float nearest to n / d: what a decimal fraction in the Rust's list stands for
abbrev pub decimal : ℕ → ℕ → Float
decimal n d = round binary64 false n d

-- a sheet by thousandths of an inch
abbrev pub inches : ℕ → ℕ → ℕ → Sheet
inches n w h = record { code = n; width = decimal w 1000; height = decimal h 1000 }

-- a sheet by inches with ten decimals
abbrev pub ten_decimals : ℕ → ℕ → ℕ → Sheet
ten_decimals n w h = record { code = n; width = decimal w 10000000000; height = decimal h 10000000000 }

-- a sheet by millimetres: each divided by 25.4 as f64
abbrev pub millimetres : ℕ → ℕ → ℕ → Sheet
millimetres n w h =
    record { code = n; width = div binary64 (of_int binary64 (pos w)) (decimal 254 10); height = div binary64 (of_int binary64 (pos h)) (decimal 254 10) }

-- "absent means 1": Letter, 8.5 by 11 inches
unfoldable pub letter : Sheet
letter = inches 1 8500 11000

-- the list of paper sizes, by code: ECMA-376's for 12, 13, 24, 25 and 26, the Rust's for every other code
unfoldable pub sheets : List Sheet
unfolding letter
sheets =
    letter ∷
    inches 2 8500 11000 ∷
    inches 3 11000 17000 ∷
    inches 4 17000 11000 ∷
    inches 5 8500 14000 ∷
    inches 6 5500 8500 ∷
    inches 7 7250 10500 ∷
    ten_decimals 8 116929133858 165354330709 ∷
    ten_decimals 9 82677165354 116929133858 ∷
    ten_decimals 10 82677165354 116929133858 ∷
    ten_decimals 11 58267716535 82677165354 ∷
    millimetres 12 250 353 ∷
    millimetres 13 176 250 ∷
    inches 14 8500 13000 ∷
    millimetres 15 215 275 ∷
    inches 16 10000 14000 ∷
    inches 17 11000 17000 ∷
    inches 18 8500 11000 ∷
    inches 19 3875 8875 ∷
    inches 20 4125 9500 ∷
    inches 21 4500 10375 ∷
    inches 22 4750 11000 ∷
    inches 23 5000 11500 ∷
    inches 24 17000 22000 ∷
    inches 25 22000 34000 ∷
    inches 26 34000 44000 ∷
    millimetres 27 110 220 ∷
    millimetres 28 162 229 ∷
    millimetres 29 324 458 ∷
    millimetres 30 229 324 ∷
    millimetres 31 114 162 ∷
    millimetres 42 250 353 ∷
    millimetres 43 100 148 ∷
    millimetres 66 420 594 ∷
    millimetres 70 105 148 ∷
    []

-- "absent means 1"
abbrev pub requested : Option ℕ → ℕ
requested code = unwrap_or code 1

-- the sheet of a code and the number of notes: "An unlisted code resolves to 1 with a note."
unfoldable pub resolved : ℕ → List Sheet → Sheet × ℕ
resolved n [] = (letter, 1)
resolved n (s ∷ rest) = cond (n == s.code) (s, 0) (resolved n rest)

-- a paper as it lies on the page, its sides in units, and how many codes were not known
pub record PaperFound : Type 0 where
  pub code : ℕ
  pub width : ℤ
  pub height : ℤ
  pub unknown : ℕ

-- a sheet's sides in units
abbrev pub upright : Sheet × ℕ → Outcome PaperFound
upright r =
    and_then (inches_to_fixed r.0.width)
    (λ (w : ℤ). and_then (inches_to_fixed r.0.height)
    (λ (h : ℤ). given (record { code = r.0.code; width = w; height = h; unknown = r.1 })))

-- "Landscape swaps."
abbrev pub turned : Bool → PaperFound → PaperFound
turned true p = record { code = p.code; width = p.height; height = p.width; unknown = p.unknown }
turned false p = p

-- the paper of a code, turned where it is landscape: "An unlisted code resolves to 1 with a note. Landscape swaps."
unfoldable pub paper_geometry : Option ℕ → Bool → Outcome PaperFound
unfolding resolved sheets
paper_geometry asked landscape =
    and_then (upright (resolved (requested asked) sheets)) (λ (p : PaperFound). given (turned landscape p))

-- the values of an answer of `paper_geometry`
abbrev pub paper_found : Paper → PaperFound
paper_found p = record { code = p.geometry.paper_code; width = p.geometry.width.0; height = p.geometry.height.0; unknown = p.unknown_paper }

-- ---- margins: "Six margins travel together"

-- "finite and at least 0"
abbrev pub usable : Float → Bool
usable nan = false
usable (inf s) = false
usable (fin s m e) = le (fin false 0 (pos 0)) (fin s m e)

-- a paper side in pixels
abbrev pub side_in_pixels : ℤ → Float
side_in_pixels z = div binary64 (of_int binary64 z) (of_int binary64 (pos 1024))

-- "times 96, is less than the paper width in pixels"
abbrev pub shorter : Float → ℤ → Bool
shorter x side = lt (in_pixels x) (side_in_pixels side)

-- all six are finite and not negative
abbrev pub all_usable : Margins Float → Bool
all_usable m = usable m.left && usable m.right && usable m.top && usable m.bottom && usable m.header && usable m.footer

-- "They hold when all are finite and at least 0, left plus right, times 96, is less than the paper width in pixels, top plus bottom likewise
-- against the height, and header and footer each times 96 less than the height."
unfoldable pub margins_hold : ℤ → ℤ → Margins Float → Bool
margins_hold width height m =
    all_usable m && shorter (add binary64 m.left m.right) width && shorter (add binary64 m.top m.bottom) height
    && shorter m.header height && shorter m.footer height

-- "the defaults 0.7, 0.7, 0.75, 0.75, 0.3, 0.3"
unfoldable pub default_margins : Margins Float
default_margins =
    record { left = decimal 7 10; right = decimal 7 10; top = decimal 75 100; bottom = decimal 75 100; header = decimal 3 10; footer = decimal 3 10 }

-- ---- content

-- where content, header and footer stand, in units, and how many margins did not hold
pub record Placed : Type 0 where
  pub x : ℤ
  pub y : ℤ
  pub width : ℤ
  pub height : ℤ
  pub header : ℤ
  pub footer : ℤ
  pub invalid : ℕ

-- the six lengths together, or the first refusal among them
abbrev pub placed : Outcome ℤ → Outcome ℤ → Outcome ℤ → Outcome ℤ → Outcome ℤ → Outcome ℤ → ℕ → Outcome Placed
placed x y width height header footer invalid =
    and_then x (λ (a : ℤ). and_then y (λ (b : ℤ). and_then width (λ (c : ℤ). and_then height (λ (d : ℤ).
    and_then header (λ (e : ℤ). and_then footer (λ (f : ℤ).
    given (record { x = a; y = b; width = c; height = d; header = e; footer = f; invalid = invalid })))))))

-- a side less the margins at its two ends
abbrev pub between : ℤ → Float → Float → Outcome ℤ
between side near far = less_of (less_of (given side) (inches_to_fixed near)) (inches_to_fixed far)

-- "The footer stands at height - footer - 16,384 and may be negative"
abbrev pub footer_at : ℤ → Float → Outcome ℤ
footer_at height footer = less_of (less_of (given height) (inches_to_fixed footer)) (given (pos 16384))

-- what six margins leave of a paper
unfoldable pub content_between : ℤ → ℤ → Margins Float → ℕ → Outcome Placed
content_between width height m invalid =
    placed (inches_to_fixed m.left) (inches_to_fixed m.top) (between width m.left m.right) (between height m.top m.bottom)
    (inches_to_fixed m.header) (footer_at height m.footer) invalid

-- "Otherwise the defaults .. and a note."
unfoldable pub content_geometry : ℤ → ℤ → Option (Margins Float) → Outcome Placed
unfolding margins_hold default_margins content_between
content_geometry width height None = content_between width height default_margins 0
content_geometry width height (Some m) =
    cond (margins_hold width height m) (content_between width height m 0) (content_between width height default_margins 1)

-- the values or the number that an answer of `content_geometry` stands for
abbrev pub content_outcome : Result ContentGeometry Refusal → Outcome Placed
content_outcome (Ok g) =
    given (record {
      x = g.content.x.0;
      y = g.content.y.0;
      width = g.content.width.0;
      height = g.content.height.0;
      header = g.header_y.0;
      footer = g.footer_y.0;
      invalid = g.invalid_margins;
    })
content_outcome (Err r) = refused (number_of r)
