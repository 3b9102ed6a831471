-- A circle carried from one place to another by a motion of its cluster: turned, mirrored or not on each axis, and shifted, up to an error on each axis.
use mathlib.Core.Path.{◌≡◌, refl, ◌∙◌}
use mathlib.Core.Bool.{Bool, false}
use Prim.Native.Nat.{ℕ, ◌+◌, ◌*◌, ◌≤◌}
use native.Mathlib.Omega.{arith}
use lib.Dec.{T, leb, lit≤}
use lib.Ieee.{Float, binary64}
use Rattle.algebra.specs.Integer.{Z, nat, Within, Near, ◌⊕◌, ◌⊖◌, ◌⊗◌}
use Rattle.rounding.specs.Value.{Fin}
use Rattle.rounding.specs.Scale.{pow2}
use Rattle.shapes.specs.declared.circle.Circle.{Circle}
use Rattle.shapes.specs.Lift.{lift}
use Rattle.scope.specs.Numbers.{◌+ᶠ◌}
use Rattle.scope.specs.Promises.{units, square}
use Rattle.promises.proofs.gauge.Axis.{Axis, loosen, shift}

-- c² + s² is within 2^-49 of 1
abbrev pub Unit-turn : Z → Z → Type 0
Unit-turn c s = Near (square c ⊕ square s) (nat (pow2 60 * pow2 60)) (pow2 11 * pow2 60)

-- the turn by a cosine and a sine, each axis mirrored or not, then shifted by a constant in squared units
pub record Motion : Type 0 where
  pub cosine : Z
  pub sine : Z
  pub unit : Unit-turn cosine sine
  pub mirror_x : Bool
  pub mirror_y : Bool
  pub shift_x : Z
  pub shift_y : Z

-- a centre's own share of the turned vector, on each axis
abbrev pub share_x : Motion → Circle → Z
share_x g c = g.cosine ⊗ units c.center.x ⊖ g.sine ⊗ units c.center.y

abbrev pub share_y : Motion → Circle → Z
share_y g c = g.sine ⊗ units c.center.x ⊕ g.cosine ⊗ units c.center.y

-- `to` is where g carries `from`, within e on each axis, and within b of the origin there
pub record Carried (g : Motion) (e b : ℕ) (from to : Circle) : Type 0 where
  pub x : Axis g.mirror_x (share_x g from) g.shift_x to.center.x e b
  pub y : Axis g.mirror_y (share_y g from) g.shift_y to.center.y e b
  pub radius : to.radius ≡ from.radius

pub carried_loosely : {g : Motion} {e b : ℕ} {from to : Circle} (f d : ℕ) → e ≤ f → b ≤ d → Carried g e b from to → Carried g f d from to
carried_loosely f d l m h = record { x = loosen f d l m h.x; y = loosen f d l m h.y; radius = h.radius }

-- ---- a circle as it is handed in: its centre within b, its radius one that the lift keeps
pub record StandsWithin (b : ℕ) (c : Circle) : Type 0 where
  pub fin-x : Fin binary64 c.center.x
  pub fin-y : Fin binary64 c.center.y
  pub within-x : Within (units c.center.x) b
  pub within-y : Within (units c.center.y) b
  pub lifted : lift c.radius ≡ c.radius

stands_wider : {b d : ℕ} {c : Circle} → b ≤ d → StandsWithin b c → StandsWithin d c
stands_wider {b} {d} {c} l p = record { fin-x = p.fin-x; fin-y = p.fin-y; within-x = wider (units c.center.x) p.within-x; within-y = wider (units c.center.y) p.within-y; lifted = p.lifted }
  where
    wider : (a : Z) → Within a b → Within a d
    wider a h = omega arith

-- where the offset step leaves a centre: within 2^21 + 2^-30
abbrev pub centre_bound : ℕ
centre_bound = pow2 81 + pow2 30

-- so within 2^22, which is what the turn asks
pub in_reach_of_turn : {c : Circle} → StandsWithin centre_bound c → StandsWithin (pow2 82) c
in_reach_of_turn h = stands_wider small h
  where
    small : centre_bound ≤ pow2 82
    small = unfold pow2 in lit≤ tt

-- ---- no motion: the turn by 1 and 0
pub still : Motion
still = record { cosine = nat (pow2 60); sine = nat 0; unit = omega arith; mirror_x = false; mirror_y = false; shift_x = nat 0; shift_y = nat 0 }

still_near_x : (x y : Z) (L : ℕ) → Near (x ⊗ nat L) (nat L ⊗ x ⊖ nat 0 ⊗ y ⊕ nat 0) (0 * L)
still_near_x x y L = omega arith

still_near_y : (x y : Z) (L : ℕ) → Near (y ⊗ nat L) (nat 0 ⊗ x ⊕ nat L ⊗ y ⊕ nat 0) (0 * L)
still_near_y x y L = omega arith

pub stays : {b : ℕ} (c : Circle) → StandsWithin b c → Carried still 0 b c c
unfolding still
stays c p = record {
  x = record { fin = p.fin-x; within = p.within-x; near = still_near_x (units c.center.x) (units c.center.y) (pow2 60) };
  y = record { fin = p.fin-y; within = p.within-y; near = still_near_y (units c.center.x) (units c.center.y) (pow2 60) };
  radius = refl;
}

-- ---- a translation: the packing's shift, the centring
pub shifted_by : Motion → Float → Float → Motion
shifted_by g dx dy = record {
  cosine = g.cosine;
  sine = g.sine;
  unit = g.unit;
  mirror_x = g.mirror_x;
  mirror_y = g.mirror_y;
  shift_x = g.shift_x ⊕ units dx ⊗ nat (pow2 60);
  shift_y = g.shift_y ⊕ units dy ⊗ nat (pow2 60);
}

-- `out` is the circle `to` with dx and dy added, each sum in a range where its rounding is at most 2^(i - 60)
pub record Shifted (i : ℕ) (dx dy : Float) (to out : Circle) : Type 0 where
  pub fin-x : Fin binary64 dx
  pub fin-y : Fin binary64 dy
  pub room-x : Within (units to.center.x ⊕ units dx) (pow2 (54 + i))
  pub room-y : Within (units to.center.y ⊕ units dy) (pow2 (54 + i))
  pub x : out.center.x ≡ to.center.x +ᶠ dx
  pub y : out.center.y ≡ to.center.y +ᶠ dy
  pub radius : out.radius ≡ to.radius

pub shift_carries : {g : Motion} {e b : ℕ} {from to out : Circle} (i : ℕ) → T (leb i 1029) → (dx dy : Float) → Shifted i dx dy to out
    → Carried g e b from to → Carried (shifted_by g dx dy) (e + pow2 i) (pow2 (54 + i)) from out
unfolding shifted_by
shift_carries i t dx dy s h = record { x = rw s.x (shift i t dx s.fin-x s.room-x h.x); y = rw s.y (shift i t dy s.fin-y s.room-y h.y); radius = s.radius ∙ h.radius }
