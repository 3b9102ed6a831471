-- The operands of a hypot by their patterns without the sign: which are infinite, what the others weigh, and that neither a sign nor the order matters.
use mathlib.Core.Path.{◌≡◌, refl, sym, ap, ap₂, ◌∙◌, subst}
use mathlib.Core.Logic.{◌⊎◌, inl, inr}
use mathlib.Core.Bool.{Bool, true, false, not, false≢true}
use Prim.Native.Nat.{ℕ, ◌+◌, ◌*◌, ◌/◌, ◌%◌, ◌^◌, ◌≤◌, ◌<◌}
use native.Mathlib.Nat.{add_comm, eq-or-lt_of_le}
use native.Mathlib.Omega.{arith}
use lib.Dec.{T, leb}
use lib.Ieee.{Float, nan, inf, fin, binary64, of_fields, of_bits, to_bits, is_nan, fits, eq, ne, neg}
use lib.Ieee.Bits.{of_bits-to_bits}
use lib.Ieee.Compare.{differs_from_itself}
use lib.Ieee.Exact.{HasValue}
use lib.Ieee.Scale.{finite}
use Rattle.rounding.specs.Root.{nearest_root, hypot}
use Rattle.rounding.specs.Value.{mag}
use Rattle.rounding.proofs.Value.{mag_of, fin-finite}
use Rattle.rounding.proofs.root.Hypot.{special_hypots, hypot_is_nearest}
use Rattle.root.specs.Parts.{infinity, pattern_units}
use Rattle.root.specs.Sums.{IsNearestRootOf}
use Rattle.root.proofs.PatternLaws.{pattern_fields, signed-value, has_value_fin, number_at_most}
use Rattle.root.proofs.HalfWayLaws.{infinity_is}

-- ---- beside a NaN
pub nan-first : (x y r : Float) → ne x x ≡ true → r ≡ hypot binary64 nan y → r ≡ hypot binary64 x y
nan-first x y r h e = e ∙ ap (λ (z : Float). hypot binary64 z y) (sym (differs_from_itself x (subst T (sym h) tt)))

pub nan_second : (x y r : Float) → ne y y ≡ true → r ≡ hypot binary64 x nan → r ≡ hypot binary64 x y
nan_second x y r h e = e ∙ ap (hypot binary64 x) (sym (differs_from_itself y (subst T (sym h) tt)))

abbrev BesideNan : Float → Float → Type 0
BesideNan r x = (r ≡ hypot binary64 nan x) × (r ≡ hypot binary64 x nan)

infinite_beside : (s : Bool) → BesideNan (inf false) (inf s)
infinite_beside s = (sym ((special_hypots binary64).infinity_second nan s), sym ((special_hypots binary64).infinity-first s nan))

pub plus_infinity_beside : (x : Float) → eq x (inf false) ≡ true → BesideNan x x
unfolding eq
plus_infinity_beside nan h = absurd (false≢true h)
plus_infinity_beside (inf true) h = absurd (false≢true h)
plus_infinity_beside (inf false) h = infinite_beside false
plus_infinity_beside (fin s m e) h = absurd (false≢true h)

pub minus_infinity_beside : (x : Float) → eq x (inf true) ≡ true → BesideNan (neg x) x
unfolding eq neg
minus_infinity_beside nan h = absurd (false≢true h)
minus_infinity_beside (inf true) h = infinite_beside true
minus_infinity_beside (inf false) h = absurd (false≢true h)
minus_infinity_beside (fin s m e) h = absurd (false≢true h)

pub others_beside : (x : Float) → eq x (inf false) ≡ false → eq x (inf true) ≡ false → BesideNan nan x
unfolding eq
others_beside nan h k = let r = sym (special_hypots binary64).nan_both in (r, r)
others_beside (inf true) h k = absurd (false≢true (sym k))
others_beside (inf false) h k = absurd (false≢true (sym h))
others_beside (fin s m e) h k = (sym ((special_hypots binary64).nan-first s m e), sym ((special_hypots binary64).nan_second s m e))

-- ---- a number by its pattern without the sign
abbrev size_of : Float → ℕ
size_of x = to_bits binary64 x % 2 ^ 63

top_field : (s : Bool) → of_fields binary64 s 2047 0 ≡ inf s
unfolding of_fields
top_field s = refl

module _ (x : Float) (f : fits binary64 x ≡ true) (number : T (not (is_nan x))) where
  back : of_bits binary64 (to_bits binary64 x) ≡ x
  back = of_bits-to_bits binary64 x (subst T (sym f) tt)

  size_most : size_of x ≤ infinity
  size_most = number_at_most (to_bits binary64 x) (subst (λ (z : Float). T (not (is_nan z))) (sym back) number)

  size-finite : size_of x < infinity → T (finite x) × (mag binary64 x ≡ pattern_units (size_of x))
  size-finite h =
      let b = to_bits binary64 x in
      let v = subst (λ (z : Float). HasValue z (leb (2 ^ 63) b) (pattern_units (size_of x)) (2 ^ 1074)) back (signed-value b h) in
      (fin-finite binary64 x (has_value_fin x (leb (2 ^ 63) b) (pattern_units (size_of x)) (2 ^ 1074) v (subst T (sym f) tt)), mag_of binary64 x (leb (2 ^ 63) b) (pattern_units (size_of x)) v)

  size_infinite : size_of x ≡ infinity → (s : Bool) × (x ≡ inf s)
  size_infinite h =
      let b = to_bits binary64 x in
      let field : b % 2 ^ 63 / 2 ^ 52 ≡ 2047 = omega arith in
      let digits : b % 2 ^ 52 ≡ 0 = omega arith in
      (leb (2 ^ 63) b, sym back ∙ pattern_fields b ∙ rw (field, digits) (top_field (leb (2 ^ 63) b)))

-- ---- two of them, the larger first
pub record LargerFirst (p q a b : ℕ) : Type 0 where
  pub order : b ≤ a
  pub same : ((a ≡ p) × (b ≡ q)) ⊎ ((a ≡ q) × (b ≡ p))

pub either_order : (p q a b : ℕ) → ((p < q) × (a ≡ q) × (b ≡ p)) ⊎ ((q ≤ p) × (a ≡ p) × (b ≡ q)) → LargerFirst p q a b
either_order p q a b (inl (l, e, f)) = record { order = omega arith; same = inr (e, f) }
either_order p q a b (inr (l, e, f)) = record { order = omega arith; same = inl (e, f) }

module _ (x y : Float) (f : fits binary64 x ≡ true) (g : fits binary64 y ≡ true) (n : T (not (is_nan x)) × T (not (is_nan y))) (a b : ℕ) (w : LargerFirst (size_of x) (size_of y) a b) where
  larger_most : a ≤ infinity
  larger_most = elim w.same [ inl e ↦ rw e.0 (size_most x f n.0) | inr e ↦ rw e.0 (size_most y g n.1) ]

  pub larger-finite : (a ≡ infinity → ⊥) → a < infinity
  larger-finite h = elim (eq-or-lt_of_le larger_most) [ inl e ↦ absurd (h e) | inr l ↦ l ]

  pub larger_infinite : a ≡ infinity → of_bits binary64 infinity ≡ hypot binary64 x y
  larger_infinite h = elim w.same [
    | inl e ↦ let i = size_infinite x f n.0 (sym e.0 ∙ h) in infinity_is ∙ sym (ap (λ (z : Float). hypot binary64 z y) i.1 ∙ (special_hypots binary64).infinity-first i.0 y)
    | inr e ↦ let i = size_infinite y g n.1 (sym e.0 ∙ h) in infinity_is ∙ sym (ap (λ (z : Float). hypot binary64 x z) i.1 ∙ (special_hypots binary64).infinity_second x i.0)
  ]

  squares_are : a < infinity → hypot binary64 x y ≡ nearest_root binary64 (pattern_units a * pattern_units a + pattern_units b * pattern_units b) 1074
  squares_are h = elim w.same [
    | inl e ↦ let u = size-finite x f n.0 (rw e.0 at h) in let v = size-finite y g n.1 (let o = w.order in let s = e.1 in omega arith) in
        hypot_is_nearest binary64 x y u.0 v.0 ∙ ap₂ (λ (s t : ℕ). nearest_root binary64 (s * s + t * t) 1074) (u.1 ∙ ap pattern_units (sym e.0)) (v.1 ∙ ap pattern_units (sym e.1))
    | inr e ↦ let u = size-finite y g n.1 (rw e.0 at h) in let v = size-finite x f n.0 (let o = w.order in let s = e.1 in omega arith) in
        hypot_is_nearest binary64 x y v.0 u.0
        ∙ ap₂ (λ (s t : ℕ). nearest_root binary64 (s * s + t * t) 1074) (v.1 ∙ ap pattern_units (sym e.1)) (u.1 ∙ ap pattern_units (sym e.0))
        ∙ ap (λ (s : ℕ). nearest_root binary64 s 1074) (add_comm (pattern_units b * pattern_units b) (pattern_units a * pattern_units a))
  ]

  pub nearest_is_hypot : (r : ℕ) → a < infinity → IsNearestRootOf (pattern_units a * pattern_units a + pattern_units b * pattern_units b) r → of_bits binary64 r ≡ hypot binary64 x y
  nearest_is_hypot r h z = z.nearest ∙ sym (squares_are h)
