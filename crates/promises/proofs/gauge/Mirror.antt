-- The mirrors of the gauge as steps of an axis: x becomes 2m - x, where 2m is one number for the cluster, so the mirrored axis is off by one rounding more.
use mathlib.Core.Path.{◌≡◌, ap, ◌∙◌}
use mathlib.Core.Bool.{Bool, true, false, not, cond}
use Prim.Native.Nat.{ℕ, ◌+◌, ◌*◌, ◌^◌, ◌≤◌, ◌<◌}
use native.Mathlib.Omega.{arith}
use lib.Dec.{lit≤}
use lib.Ieee.{Float, binary64}
use Rattle.algebra.specs.Integer.{Z, ◌⊕◌, ◌⊖◌, ◌⊗◌, nat, Within, Near}
use Rattle.rounding.specs.Value.{mag, negative, signed, val, Fin}
use Rattle.rounding.specs.Scale.{pow2}
use Rattle.rounding.proofs.Double.{sub64, pow2_scale, pow2-le}
use Rattle.rounding.proofs.Rounded.{signed-within}
use Rattle.rounding.proofs.Halve.{twice}
use Rattle.shapes.specs.declared.circle.Circle.{Circle}
use Rattle.shapes.specs.Lift.{lift}
use Rattle.scope.specs.Numbers.{◌-ᶠ◌, ◌*ᶠ◌, two}
use Rattle.scope.specs.Gauge.{mirror_x, mirror_y}
use Rattle.scope.specs.Promises.{units}
use Rattle.promises.proofs.numbers.Magnitude.{mag-le}
use Rattle.promises.proofs.gauge.Axis.{Axis, loosen, mirror}
use Rattle.promises.proofs.numbers.Bounded.{Bounded, near_of, two-finite, two-sign, two_size}
use Rattle.promises.proofs.gauge.Carried.{Motion, Carried}

-- ---- 2m is exact
no_overflow : 2 * pow2 85 < 2 ^ 2098
unfolding pow2
no_overflow = lit≤ tt

twice_below : (a b c : ℕ) → a ≤ b → 2 * b < c → 2 * a < c
twice_below a b c h l = omega arith

module _ (m : Float) (p : Fin binary64 m) (w : Within (units m) (pow2 85)) where
  doubled-exactly : Fin binary64 (two *ᶠ m) × (units (two *ᶠ m) ≡ signed (negative m) (2 * mag binary64 m))
  doubled-exactly = twice binary64 two m two-finite p two-sign two_size (twice_below (mag binary64 m) (pow2 85) (2 ^ 2098) (mag-le m (pow2 85) w) no_overflow)

  doubled-within : Within (units (two *ᶠ m)) (pow2 86)
  doubled-within = rw doubled-exactly.1 (signed-within (negative m) (2 * mag binary64 m) (pow2 86) (omega (arith, mag-le m (pow2 85) w, pow2_scale 85 1)))

  -- ---- a number mirrored
  pub reflected : (x : Float) → Bounded (pow2 85) x → Near (units (two *ᶠ m -ᶠ x)) (units m ⊕ units m ⊖ units x) (pow2 33)
  unfolding val
  reflected x h =
      let r = sub64 33 tt (two *ᶠ m) x doubled-exactly.0 h.fin (omega (arith, h.within, doubled-within, pow2_scale 85 1, pow2_scale 85 2)) in
      go (negative m) (mag binary64 m) (units (two *ᶠ m)) (units x) (units (two *ᶠ m -ᶠ x)) doubled-exactly.1 (near_of r.near)
    where
      go : (s : Bool) (a : ℕ) (d x y : Z) → d ≡ signed s (2 * a) → Near y (d ⊖ x) (pow2 33) → Near y (signed s a ⊕ signed s a ⊖ x) (pow2 33)
      go true a d x y e n = let k = rw e at n in omega arith
      go false a d x y e n = let k = rw e at n in omega arith

  -- ---- one axis, mirrored where f says so
  pub mirror_if : {σ : Bool} {u k : Z} {x : Float} {e : ℕ} (f : Bool) → Axis σ u k x e (pow2 85)
      → Axis (cond f (not σ) σ) u (cond f (units (two *ᶠ m) ⊗ nat (pow2 60) ⊖ k) k) (cond f (two *ᶠ m -ᶠ x) x) (e + pow2 33) (pow2 87)
  mirror_if true a = mirror 33 tt (two *ᶠ m) doubled-exactly.0 (omega (arith, a.within, doubled-within, pow2_scale 85 1, pow2_scale 85 2)) a
  mirror_if {e = e} false a = loosen (e + pow2 33) (pow2 87) (omega arith) (pow2-le 85 87 tt) a

-- ---- a circle, mirrored in x where f says so, then in y where h says so
abbrev pub applied : Bool → (Circle → Circle) → Circle → Circle
applied true f c = f c
applied false f c = c

pub mirrored_by : Motion → Bool → Float → Bool → Float → Motion
mirrored_by g f m h n = record {
  cosine = g.cosine;
  sine = g.sine;
  unit = g.unit;
  mirror_x = cond f (not g.mirror_x) g.mirror_x;
  mirror_y = cond h (not g.mirror_y) g.mirror_y;
  shift_x = cond f (units (two *ᶠ m) ⊗ nat (pow2 60) ⊖ g.shift_x) g.shift_x;
  shift_y = cond h (units (two *ᶠ n) ⊗ nat (pow2 60) ⊖ g.shift_y) g.shift_y;
}

pub mirrors_carry : {g : Motion} {e : ℕ} {from to : Circle} (f : Bool) (m : Float) (h : Bool) (n : Float) → Fin binary64 m → Within (units m) (pow2 85) → Fin binary64 n → Within (units n) (pow2 85)
    → lift from.radius ≡ from.radius → Carried g e (pow2 85) from to
    → Carried (mirrored_by g f m h n) (e + pow2 33) (pow2 87) from (applied h (mirror_y n) (applied f (mirror_x m) to))
unfolding mirrored_by mirror_x mirror_y
mirrors_carry true m true n p v q w l a = record { x = mirror_if m p v true a.x; y = mirror_if n q w true a.y; radius = ap (λ (r : Float). lift (lift r)) a.radius ∙ ap lift l ∙ l }
mirrors_carry true m false n p v q w l a = record { x = mirror_if m p v true a.x; y = mirror_if n q w false a.y; radius = ap lift a.radius ∙ l }
mirrors_carry false m true n p v q w l a = record { x = mirror_if m p v false a.x; y = mirror_if n q w true a.y; radius = ap lift a.radius ∙ l }
mirrors_carry false m false n p v q w l a = record { x = mirror_if m p v false a.x; y = mirror_if n q w false a.y; radius = a.radius }
