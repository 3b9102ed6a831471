-- A number or a circle held against itself: a finite number less itself is 0, so an accepted circle stands at distance 0 from itself, contains itself and does
-- not intersect itself; and no region whose area is the tolerance, or is infinite, counts.
use Prim.Native.Nat.{ℕ, zero, suc, ◌+◌, ◌*◌, ◌<◌}
use native.Mathlib.Nat.{sub_self, mul-pos, zero-mul}
use native.Mathlib.Omega.{arith}
use mathlib.Core.Path.{◌≡◌, refl, sym, ap, ◌∙◌}
use mathlib.Core.Logic.{inl, inr}
use mathlib.Core.Bool.{Bool, true, false, not, ◌&&◌, ◌||◌, and-false, or-true, or-false}
use mathlib.Core.List.{List, [], ◌∷◌}
use lib.Dec.{T, eqb, ltb, eqb_refl, lit<, leb-suc-zero, leb-suc-suc}
use lib.Ieee.{Float, nan, inf, fin, Format, binary64, up, down, round, sum, add, sub, lt, le, fits}
use lib.Ieee.Bits.{is_true}
use lib.Ieee.Fits.{down_pos, and_l, and_r}
use lib.Ieee.Exact.{round_exact}
use lib.Ieee.Order.{le_of_values}
use lib.Ieee.Positive.{positive, positive-finite, between}
use lib.Ieee.Scale.{finite, round_same}
use Rattle.rounding.specs.Value.{Fin}
use Rattle.rounding.proofs.Value.{held, value_of, mag-below, fin_both}
use Rattle.shapes.specs.Limits.{smallest_radius, largest_radius}
use Rattle.shapes.specs.declared.point.Point.{Point}
use Rattle.shapes.specs.declared.circle.Circle.{Circle}
use Rattle.scope.specs.Numbers.{◌-ᶠ◌, ◌≤ᶠ◌, nought, abs}
use Rattle.scope.specs.Limits.{within, coordinate_ok, radius_ok}
use Rattle.scope.specs.Refusals.{refusal, pair_refusal, bad_centre, bad_point, bad_radius, answer, given}
use Rattle.scope.specs.Distance.{distance, contains, intersects, contains_answer, intersects_answer}
use Rattle.scope.specs.Links.{Region, counts, share, linked_by_regions}
use Rattle.scope.specs.Promises.{Each}
use Rattle.scope.specs.Computing.{computing}
use Rattle.scope.specs.Samples.{EqualOrInfinite}

-- ---- a number and itself
never_below_itself : (a : ℕ) → ltb a a ≡ false
never_below_itself zero = leb-suc-zero 0
never_below_itself (suc a) = leb-suc-suc (suc a) a ∙ never_below_itself a

nothing_rounded : (c : ℕ) → 0 < c → round binary64 false 0 c ≡ nought
unfolding computing
nothing_rounded c h = round_same binary64 false 0 c 0 1 h (lit< tt) (sym (zero-mul c))

-- a / c and its opposite
cancelled : (s : Bool) (a c : ℕ) → 0 < c → sum binary64 s a (not s) a c ≡ nought
unfolding sum
cancelled false a c h = rw (never_below_itself a, sub_self a) (nothing_rounded c h)
cancelled true a c h = rw (never_below_itself a, sub_self a) (nothing_rounded c h)

less_itself : (x : Float) → T (finite x) → x -ᶠ x ≡ nought
unfolding sub
less_itself nan t = absurd t
less_itself (inf s) t = absurd t
less_itself (fin s m e) t = cancelled s (m * up e * down e) (down e * down e) (mul-pos (down_pos e) (down_pos e))

-- 0 + x is no more than x: the format holds x, so rounding leaves it
nothing_added : (f : Format) (x : Float) → Fin f x → T (positive x) → T (le (add f nought x) x)
unfolding add
nothing_added f nan p t = absurd t
nothing_added f (inf s) p t = absurd t
nothing_added f (fin true m e) p t = absurd t
nothing_added f (fin false m e) p t =
    let x = fin false m e in
    let h = held f x p in
    let d : 0 < 1 * down e = mul-pos (lit< tt) (down_pos e) in
    le_of_values (add f nought x) x (0 * down e + m * up e * 1) (1 * down e) (m * up e) (down e) d (down_pos e)
    (round_exact f false (0 * down e + m * up e * 1) (1 * down e) h.digits h.exponent d h.small (rw (← h.is) (mag-below f x p))
    (omega (arith, (value_of f x p).1, ap (λ (w : ℕ). w * down e) h.is)))
    (refl, refl) (omega arith)

-- ---- an accepted circle and itself
coordinate_finite : (x : Float) → T (coordinate_ok x) → T (finite x)
unfolding computing
coordinate_finite nan h = h
coordinate_finite (inf true) h = h
coordinate_finite (inf false) h = h
coordinate_finite (fin s m e) h = tt

radius-positive : (r : Float) → T (radius_ok r) → T (positive r)
unfolding radius_ok within smallest_radius largest_radius
radius-positive r h = let lo = smallest_radius in let hi = largest_radius in between lo r hi tt tt (and_l (lo ≤ᶠ r) (r ≤ᶠ hi) h) (and_r (lo ≤ᶠ r) (r ≤ᶠ hi) h)

-- no cause holds
fine : (x y r : Bool) → refusal ((3, not (x && y) || not (x && y)) ∷ (4, not r || not r) ∷ []) ≡ 0 → T x × T y × T r
unfolding computing
fine false y r h = absurd (omega arith)
fine true false r h = absurd (omega arith)
fine true true false h = absurd (omega arith)
fine true true true h = (tt, tt, tt)

distance_to_itself : (p : Point) → T (finite p.x) → T (finite p.y) → distance p p ≡ nought
unfolding distance
distance_to_itself p x y = rw (less_itself p.x x, less_itself p.y y) (unfold computing in refl)

pub contains_itself_and_does_not_intersect : (c : Circle) → T (fits binary64 c.radius) → pair_refusal c c ≡ 0
    → (contains_answer c c ≡ given true) × (intersects_answer c c ≡ given false)
unfolding contains_answer contains intersects_answer intersects answer abs lt pair_refusal bad_centre bad_point bad_radius
contains_itself_and_does_not_intersect c f h =
    let r = c.radius in
    let a = fine (coordinate_ok c.center.x) (coordinate_ok c.center.y) (radius_ok r) h in
    let d = distance_to_itself c.center (coordinate_finite c.center.x a.0) (coordinate_finite c.center.y a.1) in
    let above = radius-positive r a.2 in
    let known = positive-finite r above in
    let inside : T (contains c c) = rw d (nothing_added binary64 r (fin_both binary64 r known f) above) in
    (rw (h, is_true (contains c c) inside), rw (h, d, less_itself r known, and-false))

-- ---- a region that does not count
pub equal_area_is_not_counted : (tol : Float) (mask : ℕ) → counts tol (record { mask = mask; area = tol }) ≡ false
unfolding counts le
equal_area_is_not_counted nan mask = refl
equal_area_is_not_counted (inf s) mask = refl
equal_area_is_not_counted (fin false m e) mask = let a = m * up e * down e in rw (is_true (eqb a a) (eqb_refl a), or-true) refl
equal_area_is_not_counted (fin true m e) mask = let a = m * up e * down e in rw (is_true (eqb a a) (eqb_refl a), or-true) refl

pub infinite_area_is_not_counted : (tol : Float) (mask : ℕ) (s : Bool) → counts tol (record { mask = mask; area = inf s }) ≡ false
unfolding counts
infinite_area_is_not_counted tol mask s = refl

pub none_linked : (tol : Float) (rs : List Region) → Each (EqualOrInfinite tol) rs → (i j : ℕ) → linked_by_regions tol rs i j ≡ eqb i j
unfolding linked_by_regions share Each counts
none_linked tol rs h i j = rw (none_shared rs h) (or-false (eqb i j))
  where
    not_counted : (r : Region) → EqualOrInfinite tol r → counts tol r ≡ false
    not_counted r (inl e) = rw e (equal_area_is_not_counted tol r.mask)
    not_counted r (inr (s, e)) = rw e

    none_shared : (rs : List Region) → Each (EqualOrInfinite tol) rs → share tol rs i j ≡ false
    none_shared [] h = refl
    none_shared (r ∷ rs) h = rw (not_counted r h.0) (none_shared rs h.1)
