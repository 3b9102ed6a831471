-- Document 02, 8/14, "Touch points in a batch": the circles under each point.
use Rattle.std.specs.Prelude.{ℕ, zero, suc, List, ◌++◌, map, length, drop}
use Rattle.shapes.specs.declared.point.Point.{Point}
use Rattle.shapes.specs.declared.circle.Circle.{Circle}
use Rattle.scope.specs.Refusals.{touch_refusal}
use Rattle.scope.specs.Distance.{contains_point}
use Rattle.scope.specs.Links.{circle}
use Rattle.scope.specs.PackedRows.{packed_row}

-- "Each point's answer is the mask of exactly the circles for which `contains_point` says yes"
unfoldable pub touch_mask : List Circle → Point → ℕ
touch_mask cs p = packed_row (length cs) (λ i. contains_point (circle cs i) p)

-- the number, and the lent answer list as it then is
pub record Touched : Type 0 where
  pub refusal : ℕ
  pub answers : List ℕ

-- "any refusal leaves the answer list untouched"
abbrev pub refused_touch : List ℕ → ℕ → Touched
refused_touch out k = record { refusal = k; answers = out }

-- "answers beyond the point count are untouched"
abbrev pub accepted_touch : List Circle → List Point → List ℕ → Touched
accepted_touch cs ps out = record { refusal = 0; answers = map (touch_mask cs) ps ++ drop (length ps) out }

unfoldable pub touching : ℕ → List Circle → List Point → List ℕ → Touched
touching zero cs ps out = accepted_touch cs ps out
touching (suc k) cs ps out = refused_touch out (suc k)

-- of m points, those handed in being ps
unfoldable pub counted_touch : ℕ → List Circle → List Point → List ℕ → Touched
counted_touch m cs ps out = touching (touch_refusal cs ps m (length out)) cs ps out

unfoldable pub touched : List Circle → List Point → List ℕ → Touched
touched cs ps out = counted_touch (length ps) cs ps out
