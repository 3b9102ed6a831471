-- The numbers of a circle are such as a caller's are: f64, and an ink of two bytes.
use Rattle.std.specs.Prelude.{ℕ, ◌<◌, ◌^◌, T, List, length}
use Rattle.std.specs.Float.{binary64}
use Rattle.std.specs.Float.Ieee.{fits}
use Rattle.shapes.specs.declared.circle.Circle.{Circle}
use Rattle.scope.specs.Links.{circle}

pub record IsTyped (c : Circle) : Type 0 where
  pub x : T (fits binary64 c.center.x)
  pub y : T (fits binary64 c.center.y)
  pub radius : T (fits binary64 c.radius)
  pub ink : c.ink < 2 ^ 16

abbrev pub AllTyped : List Circle → Type 0
AllTyped cs = (i : ℕ) → i < length cs → IsTyped (circle cs i)
