-- Squares in place of a distance: the rounded sum of the squares of two offsets, against the rounded square of a radius times a factor off 1, says whether the
-- nearest root of the exact sum is at most the radius. In any format, for a radius large against the units and small against the overflow; then for f64 and
-- the accepted radii.
use mathlib.Core.Path.{◌≡◌, refl, sym}
use Prim.Native.Nat.{ℕ, suc, ◌+◌, ◌-◌, ◌*◌, ◌/◌, ◌^◌, ◌≤◌, ◌<◌}
use native.Mathlib.Nat.{mul-le-mul, mul-le-mul_left, mul-le-mul_right, le_of_mul-le-mul_right, le_trans, lt_of_le_of_lt, div-add-mod, mod-lt}
use native.Mathlib.Omega.{arith}
use mathlib.Core.Bool.{Bool, true, false}
use lib.Dec.{T, lit≤, lit<}
use lib.Pow.{pow_pos}
use lib.Ieee.{Float, Format, binary64, prec, emax, low, add, mul, lt, le, fits}
use Rattle.rounding.specs.Value.{mag, negative, Fin}
use Rattle.rounding.specs.Scale.{pow2}
use Rattle.rounding.specs.Root.{hypot}
use Rattle.rounding.proofs.Value.{fin_both, fin-finite}
use Rattle.rounding.proofs.Rounded.{Relative, round_relative, round-below}
use Rattle.rounding.proofs.Multiply.{mul_is, mul-sign, square-sign}
use Rattle.rounding.proofs.Add.{add-sign, sum_relative, sum_below}
use Rattle.rounding.proofs.Order.{lt-le, lt_sizes, le_sizes}
use Rattle.rounding.proofs.Finite.{finite-add, finite-square, finite-below}
use Rattle.rounding.proofs.root.Overflow.{past_largest}
use Rattle.rounding.proofs.root.Units.{units_root_not_above}
use Rattle.rounding.proofs.root.Hypot.{hypot_square, hypot_not_negative, hypot-finite, finite-hypot, hypot-nearest, hypot_rel}
use Rattle.shapes.specs.Limits.{radius_in_range}
use Rattle.scope.specs.Numbers.{◌<ᶠ◌, ◌≤ᶠ◌}
use Rattle.scope.specs.Limits.{within, radius_ok}
use Rattle.laws.proofs.Cases.{is_true, is_false}
use Rattle.laws.proofs.Between.{radius-size}
use Rattle.geometry.proofs.Slack.{Keeps, Adds, root-above, inside, outside}

-- ---- the relative law as Slack.antt reads it, and roughly: a rounding at most doubles
module _ {f : Format} {z : Float} {a d : ℕ} (Q : ℕ) (E : 2 ^ prec f ≡ Q + 1) (r : Relative f z a d) where
  keeps : Keeps Q (mag f z) a d
  keeps = go (2 ^ prec f) (mag f z) E r.below
    where
      go : (P z : ℕ) → P ≡ Q + 1 → 2 * (P * a) ≤ 2 * (P * (z * d)) + (2 * a + P * d) → Keeps Q z a d
      go P z E h = let g = rw E at h in omega arith

  adds : Adds Q (mag f z) a d
  adds = go (2 ^ prec f) (mag f z) E r.above
    where
      go : (P z : ℕ) → P ≡ Q + 1 → 2 * (P * (z * d)) ≤ 2 * (P * a) + (2 * a + P * d) → Adds Q z a d
      go P z E h = let g = rw E at h in omega arith

  doubles : mag f z * d ≤ 2 * a + d
  doubles = go (mag f z) adds
    where
      go : (z : ℕ) → Adds Q z a d → z * d ≤ 2 * a + d
      go z h = le_of_mul-le-mul_right {k = Q + 1} (omega arith) (omega arith)

-- ---- a radius that suits: large against the units, and eight times its square, and twice it, below the overflow
record Suits (f : Format) (Q k i : ℕ) (r : Float) : Type 0 where
  fin : Fin f r
  sign : negative r ≡ false
  wide : 3 * ((Q + 1) * 2 ^ low f) ≤ mag f r * mag f r
  long : 5 * (Q + 1) ≤ mag f r
  room : 8 * (mag f r * mag f r) ≤ 2 ^ (prec f + k) * 2 ^ low f
  below : 2 * mag f r < past_largest f i

-- a factor: not negative, and at most 2
pub record Factor (f : Format) (F : Float) : Type 0 where
  pub fin : Fin f F
  pub sign : negative F ≡ false
  pub small : mag f F ≤ 2 * 2 ^ low f

module _ (f : Format) (Q k i : ℕ) (E : 2 ^ prec f ≡ Q + 1) (large : 64 ≤ Q) (top : prec f + k ≤ low f + emax f) (past : prec f + i ≡ low f + suc (emax f))
    (x y r F : Float) (px : T (fits f x)) (py : T (fits f y)) (R : Suits f Q k i r) (A : Factor f F) where
  square : Relative f (mul f r r) (mag f r * mag f r) (2 ^ low f)
  square = round-below (mul_is f r r R.fin R.fin) k (omega (arith, R.room)) top

  product : Relative f (mul f (mul f r r) F) (mag f (mul f r r) * mag f F) (2 ^ low f)
  product = round-below (mul_is f (mul f r r) F square.fin A.fin) k (held (mag f (mul f r r)) (mag f F) (mag f r * mag f r) (2 ^ low f) (2 ^ (prec f + k)) (doubles Q E square) A.small R.wide R.room) top
    where
      held : (q F N L B : ℕ) → q * L ≤ 2 * N + L → F ≤ 2 * L → 3 * ((Q + 1) * L) ≤ N → 8 * N ≤ B * L → q * F ≤ B * L
      held q F N L B h l w b = omega (arith, mul-le-mul_left q l)

  product_sign : negative (mul f (mul f r r) F) ≡ false
  product_sign = rw (mul-sign f (mul f r r) F square.fin A.fin, square-sign f r, A.sign) refl

  sum-sign : negative (add f (mul f x x) (mul f y y)) ≡ false
  sum-sign = add-sign f (mul f x x) (mul f y y) (square-sign f x) (square-sign f y)

  -- ---- the sum is below: it is finite, and so are the offsets
  holds-below : (C : ℕ) → (Q + 1) * mag f F ≤ C * 2 ^ low f → C + 32 ≤ Q + 1 → T (lt (add f (mul f x x) (mul f y y)) (mul f (mul f r r) F)) → T (le (hypot f x y) r)
  holds-below C hF hC h =
      let a = mul f x x in
      let b = mul f y y in
      let s = add f a b in
      let t = mul f (mul f r r) F in
      let ts = finite-below s t sum-sign (fin-finite f t product.fin) (lt-le s t h) in
      let squares = finite-add f a b ts in
      let tx = finite-square f x squares.0 in
      let ty = finite-square f y squares.1 in
      let fx = fin_both f x tx px in
      let fy = fin_both f y ty py in
      let ra = round_relative (mul_is f x x fx fx) squares.0 in
      let rb = round_relative (mul_is f y y fy fy) squares.1 in
      let rs = sum_relative f a b ra.fin rb.fin (square-sign f x) (square-sign f y) ts in
      let exact : hypot_square f x y ≤ mag f r * mag f r =
      inside Q (2 ^ low f) large (mag f x * mag f x) (mag f y * mag f y) (mag f a) (mag f b) (mag f s) (mag f t) (mag f (mul f r r)) (mag f F) C (mag f r * mag f r)
      (keeps Q E ra) (keeps Q E rb) (keeps Q E rs) (lt_sizes f s t rs.fin product.fin sum-sign product_sign h) (adds Q E product) (adds Q E square) hF hC R.wide in
      let th = hypot-finite f x y i past tx ty (under (hypot_square f x y) (mag f r) (past_largest f i) exact R.below) in
      let nearest = hypot-nearest f x y th in
      (le_sizes f (hypot f x y) r nearest.fin R.fin nearest.sign R.sign).1 (units_root_not_above f (hypot_square f x y) (hypot f x y) nearest r R.fin exact)
    where
      under : (S R B : ℕ) → S ≤ R * R → 2 * R < B → 4 * S < B * B
      under S R B h l = omega (arith, mul-le-mul l l)

  -- ---- the sum is above: were the root at most the radius, nothing would overflow. The root's error is e
  holds_not_above : (Q + 33) * 2 ^ low f ≤ (Q + 1) * mag f F → T (lt (mul f (mul f r r) F) (add f (mul f x x) (mul f y y))) → T (le (hypot f x y) r) → ⊥
  holds_not_above hF h l =
      let a = mul f x x in
      let b = mul f y y in
      let s = add f a b in
      let t = mul f (mul f r r) F in
      let z = hypot f x y in
      let N = mag f r * mag f r in
      let L = 2 ^ low f in
      let B = 2 ^ (prec f + k) in
      let th = finite-below z r (hypot_not_negative f x y) (fin-finite f r R.fin) l in
      let offsets = finite-hypot f x y th in
      let fx = fin_both f x offsets.0 px in
      let fy = fin_both f y offsets.1 py in
      let root = (le_sizes f z r (hypot-nearest f x y th).fin R.fin (hypot_not_negative f x y) R.sign).0 l in
      let e = mag f r / Q + 2 in
      let divided = div-add-mod (mag f r) Q in
      let rest = mod-lt (mag f r) {m = Q} (omega arith) in
      let near : hypot_square f x y ≤ (mag f z + e) * (mag f z + e) = hypot_rel f x y th Q e (omega arith) E (omega arith) in
      let error : Q * e ≤ mag f r + 2 * Q = omega arith in
      let twice : hypot_square f x y ≤ 2 * N = double (hypot_square f x y) N (root-above Q L large (hypot_square f x y) (mag f r) (mag f z) e near root error R.long) in
      let ra = round-below (mul_is f x x fx fx) k (omega (arith, R.room)) top in
      let rb = round-below (mul_is f y y fy fy) k (omega (arith, R.room)) top in
      let rs = sum_below f a b ra.fin rb.fin (square-sign f x) (square-sign f y) k (held (mag f a) (mag f b) (mag f x * mag f x) (mag f y * mag f y) N L B (pow_pos (low f)) (doubles Q E ra) (doubles Q E rb) twice R.wide R.room) top in
      outside Q L large (mag f x * mag f x) (mag f y * mag f y) (mag f a) (mag f b) (mag f s) (mag f t) (mag f (mul f r r)) (mag f F) (mag f r) (mag f z) e near root error
      (adds Q E ra) (adds Q E rb) (adds Q E rs) (lt_sizes f t s product.fin rs.fin product_sign sum-sign h) (keeps Q E product) (keeps Q E square) hF R.wide R.long
    where
      double : (S N : ℕ) → (Q + 1) * S ≤ (Q + 5) * N → S ≤ 2 * N
      double S N h = le_of_mul-le-mul_right {k = Q + 1} (omega (arith, mul-le-mul_right N large)) (omega arith)

      held : (a b X Y N L B : ℕ) → 0 < L → a * L ≤ 2 * X + L → b * L ≤ 2 * Y + L → X + Y ≤ 2 * N → 3 * ((Q + 1) * L) ≤ N → 8 * N ≤ B * L → a + b ≤ B * 1
      held a b X Y N L B L-pos ha hb h w c = le_of_mul-le-mul_right {k = L} (omega arith) L-pos

-- ---- f64, for the radii from 2^-20 to 2^20
suits64 : (r : Float) → T (fits binary64 r) → T (radius_ok r) → Suits binary64 (2 ^ 53 - 1) 2044 2045 r
unfolding pow2
suits64 r p h =
    let b = radius-size r p h in
    record {
      fin = b.fin;
      sign = b.sign;
      wide = le_trans (lit≤ tt) (mul-le-mul b.from b.from);
      long = le_trans (lit≤ tt) b.from;
      room = le_trans (mul-le-mul_left 8 (mul-le-mul b.to b.to)) (lit≤ tt);
      below = lt_of_le_of_lt (mul-le-mul_left 2 b.to) (lit< tt);
    }

holds : {b : Bool} → b ≡ true → T b
holds h = rw h tt

in_range : (r : Float) → radius_in_range r ≡ true → T (radius_ok r)
unfolding radius_ok within
in_range r h = holds h

module _ (x y r F : Float) (px : fits binary64 x ≡ true) (py : fits binary64 y ≡ true) (pr : fits binary64 r ≡ true) (ok : radius_in_range r ≡ true) where
  -- a factor of 1 + 2^-48 or more
  pub squares-above : (mul binary64 (mul binary64 r r) F <ᶠ add binary64 (mul binary64 x x) (mul binary64 y y)) ≡ true → Factor binary64 F → (2 ^ 53 + 32) * 2 ^ 1074 ≤ 2 ^ 53 * mag binary64 F
      → false ≡ (hypot binary64 x y ≤ᶠ r)
  squares-above h A far =
      sym (is_false _ (holds_not_above binary64 (2 ^ 53 - 1) 2044 2045 refl (lit≤ tt) (lit≤ tt) refl x y r F (holds px) (holds py) (suits64 r (holds pr) (in_range r ok)) A far (holds h)))

  -- a factor of 1 - 2^-48 or less
  pub squares-below : (add binary64 (mul binary64 x x) (mul binary64 y y) <ᶠ mul binary64 (mul binary64 r r) F) ≡ true → Factor binary64 F → 2 ^ 53 * mag binary64 F ≤ (2 ^ 53 - 32) * 2 ^ 1074
      → true ≡ (hypot binary64 x y ≤ᶠ r)
  squares-below h A far =
      sym (is_true _ (holds-below binary64 (2 ^ 53 - 1) 2044 2045 refl (lit≤ tt) (lit≤ tt) refl x y r F (holds px) (holds py) (suits64 r (holds pr) (in_range r ok)) A (2 ^ 53 - 32) far (lit≤ tt) (holds h)))
