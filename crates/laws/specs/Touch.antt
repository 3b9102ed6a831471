-- Document 02, 8/14: what the answers of an accepted batch are, one by one. "A batch answers as its points do singly."
use Rattle.std.specs.Prelude.{ℕ, ◌≤◌, ◌<◌, ◌≡◌, ◌↔◌, true, List, [], ◌∷◌, T, length, get_or}
use Rattle.std.specs.Float.{nan}
use Rattle.shapes.specs.declared.point.Point.{Point}
use Rattle.shapes.specs.declared.circle.Circle.{Circle}
use Rattle.shapes.specs.Records.{point_at}
use Rattle.scope.specs.Runs.{bit}
use Rattle.scope.specs.Refusals.{given}
use Rattle.scope.specs.Distance.{contains_point_answer}
use Rattle.scope.specs.Links.{circle}
use Rattle.scope.specs.Touch.{touched}

-- the point at a place; past the end, one that is nowhere
abbrev pub no_point : Point
no_point = point_at nan nan

abbrev pub point_in : List Point → ℕ → Point
point_in ps i = get_or ps i no_point

-- the answer at a place of a list of answers
abbrev pub answer_at : List ℕ → ℕ → ℕ
answer_at out i = get_or out i 0

pub record Singly (cs : List Circle) (ps : List Point) (out : List ℕ) : Type 0 where
  -- a batch of one of its points alone is accepted, and has the same answer
  pub alone : (i : ℕ) → i < length ps → (a : ℕ) → touched cs (point_in ps i ∷ []) (a ∷ []) ≡ record { refusal = 0; answers = answer_at (touched cs ps out).answers i ∷ [] }
  -- which has exactly the circles for which `contains_point` says yes
  pub exactly : (i : ℕ) → i < length ps → (j : ℕ)
      → T (bit (answer_at (touched cs ps out).answers i) j) ↔ ((j < length cs) × (contains_point_answer (circle cs j) (point_in ps i) ≡ given true))
  -- answers beyond the point count stay, and there are as many as there were
  pub beyond : (i : ℕ) → length ps ≤ i → answer_at (touched cs ps out).answers i ≡ answer_at out i
  pub as_long : length (touched cs ps out).answers ≡ length out
