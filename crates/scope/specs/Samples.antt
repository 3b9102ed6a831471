-- Document 01, "Sample cards": (a) to (k), proved together in proofs/Samples.antt. What (e), (g) and (h) say of every circle and area is stated so too.
-- Document 02, 1/14: "Samples (j) and (k) then have inks 1 and 2."
use Rattle.std.specs.Prelude.{ℕ, ◌≡◌, ◌⊎◌, Bool, true, false, List, [], ◌∷◌, ◌++◌, map, negsuc, T, eqb, Float}
use Rattle.std.specs.Float.{inf, fin, binary64}
use Rattle.std.specs.Float.Ieee.{fits, to_bits}
use Rattle.shapes.specs.declared.circle.Circle.{Circle}
use Rattle.rounding.specs.Root.{root}
use Rattle.scope.specs.Numbers.{nought, one, whole, e_10, golden}
use Rattle.scope.specs.Runs.{filled}
use Rattle.scope.specs.Limits.{circle_cap}
use Rattle.scope.specs.Refusals.{given, pair_refusal}
use Rattle.shapes.specs.Records.{circle_of}
use Rattle.scope.specs.Distance.{root_answer, contains_answer, intersects_answer}
use Rattle.scope.specs.Links.{Region, counts, linked_by_regions}
use Rattle.scope.specs.Groups.{Grouping, area_grouping}
use Rattle.scope.specs.Packing.{columns_answer}
use Rattle.scope.specs.Layout.{layout}
use Rattle.scope.specs.Text.{bytes}
use Rattle.scope.specs.Print.{card_text}
use Rattle.scope.specs.Promises.{Each}

-- the circle (x, y, radius) of whole numbers, of ink k
abbrev pub whole_circle : ℕ → ℕ → ℕ → ℕ → Circle
whole_circle x y r k = circle_of (whole x) (whole y) (whole r) k

-- an accepted clustering: the count, and the numbers of the circles
abbrev pub grouped : ℕ → List ℕ → Grouping
grouped count numbers = record { refusal = 0; count = count; numbers = filled circle_cap 0 numbers }

-- the file of (j): factor 0, circles (0,0,1) of ink 1, (10,0,1) of ink 2, no regions
unfoldable pub file_j : List ℕ
file_j =
    1 ∷ 8 ∷ 0
    ∷ 0 ∷ 0 ∷ 0 ∷ 0 ∷ 0 ∷ 0 ∷ 0 ∷ 0
    ∷ 2 ∷ 26 ∷ 0
    ∷ 0 ∷ 0 ∷ 0 ∷ 0 ∷ 0 ∷ 0 ∷ 0 ∷ 0
    ∷ 0 ∷ 0 ∷ 0 ∷ 0 ∷ 0 ∷ 0 ∷ 0 ∷ 0
    ∷ 0 ∷ 0 ∷ 0 ∷ 0 ∷ 0 ∷ 0 ∷ 0xf0 ∷ 0x3f
    ∷ 1 ∷ 0
    ∷ 2 ∷ 26 ∷ 0
    ∷ 0 ∷ 0 ∷ 0 ∷ 0 ∷ 0 ∷ 0 ∷ 0x24 ∷ 0x40
    ∷ 0 ∷ 0 ∷ 0 ∷ 0 ∷ 0 ∷ 0 ∷ 0 ∷ 0
    ∷ 0 ∷ 0 ∷ 0 ∷ 0 ∷ 0 ∷ 0 ∷ 0xf0 ∷ 0x3f
    ∷ 2 ∷ 0
    ∷ []

-- a region whose area is the tolerance, or infinite
abbrev pub EqualOrInfinite : Float → Region → Type 0
EqualOrInfinite tol r = (r.area ≡ tol) ⊎ ((s : Bool) × (r.area ≡ inf s))

pub record SampleCards : Type 0 where
  -- root 4 = 2
  pub a : root_answer (whole 4) ≡ given (whole 2)
  -- root 2 has bits 3ff6a09e667f3bcd
  pub b : to_bits binary64 (root binary64 (whole 2)) ≡ 0x3ff6_a09e_667f_3bcd
  -- (0,0,3) contains (2,0,1)
  pub c : contains_answer (whole_circle 0 0 3 1) (whole_circle 2 0 1 2) ≡ given true
  -- (0,0,1), (2,0,1) do not intersect
  pub d : intersects_answer (whole_circle 0 0 1 1) (whole_circle 2 0 1 2) ≡ given false
  -- equal circles contain each other and do not intersect
  pub e : contains_answer (whole_circle 1 2 3 1) (whole_circle 1 2 3 2) ≡ given true
  pub e-apart : intersects_answer (whole_circle 1 2 3 1) (whole_circle 1 2 3 2) ≡ given false
  -- so any accepted circle, its radius an f64
  pub e-any : (c : Circle) → T (fits binary64 c.radius) → pair_refusal c c ≡ 0 → (contains_answer c c ≡ given true) × (intersects_answer c c ≡ given false)
  -- n 4, masks 3 and 6, area 1, tolerance 1e-10: circles 0, 1, 2 in one cluster, 3 in another
  pub f : area_grouping 4 (3 ∷ 6 ∷ []) (one ∷ one ∷ []) e_10 ≡ grouped 2 (0 ∷ 0 ∷ 0 ∷ 1 ∷ [])
  -- area equal to the tolerance, no link
  pub g : area_grouping 2 (3 ∷ []) (e_10 ∷ []) e_10 ≡ grouped 2 (0 ∷ 1 ∷ [])
  -- so at any tolerance, NaN and the infinities too, and whatever the other regions are
  pub g-any : (tol : Float) (mask : ℕ) → counts tol (record { mask = mask; area = tol }) ≡ false
  -- infinite area, no link
  pub h : area_grouping 2 (3 ∷ []) (inf false ∷ []) e_10 ≡ grouped 2 (0 ∷ 1 ∷ [])
  -- so at any tolerance, and whatever the other regions are
  pub h-any : (tol : Float) (mask : ℕ) (s : Bool) → counts tol (record { mask = mask; area = inf s }) ≡ false
  -- with none but such regions as (g)'s and (h)'s, each circle is linked to itself alone
  pub g_h_alone : (tol : Float) (rs : List Region) → Each (EqualOrInfinite tol) rs → (i j : ℕ) → linked_by_regions tol rs i j ≡ eqb i j
  -- columns for 1, 3, 4, 6, 64 boxes: 2, 3, 3, 4, 11
  pub i : map (λ n. columns_answer n golden) (1 ∷ 3 ∷ 4 ∷ 6 ∷ 64 ∷ []) ≡ given 2 ∷ given 3 ∷ given 3 ∷ given 4 ∷ given 11 ∷ []
  -- the file above, from its bytes to the bytes printed
  pub j : card_text file_j
      ≡ bytes "circles 2 clusters 2 moved 0000000000000000 padding 0000000000000000\n"
      ++ bytes "0 0 bff0000000000000 0000000000000000 3ff0000000000000 1\n"
      ++ bytes "1 1 3ff0000000000000 0000000000000000 3ff0000000000000 2\n"
  -- (0,0,2) of ink 1, (0,3,2) of ink 2, masks 1, 2, 3 of area 1: centres (-1.5,0), (1.5,0)
  pub k : (layout (whole_circle 0 0 2 1 ∷ whole_circle 0 3 2 2 ∷ []) nought (1 ∷ 2 ∷ 3 ∷ []) (one ∷ one ∷ one ∷ []) golden).circles
      ≡ circle_of (fin true 3 (negsuc 0)) nought (whole 2) 1 ∷ circle_of (fin false 3 (negsuc 0)) nought (whole 2) 2 ∷ []
