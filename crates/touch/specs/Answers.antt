-- The answer of a batch as document 02's.
use Rattle.std.specs.Prelude.{ℕ, List}
use Rattle.scope.specs.Touch.{Touched}

-- the number that comes back, and the lent list as it then is
abbrev pub touch_of : ℕ → List ℕ → Touched
touch_of r out = record { refusal = r; answers = out }
