-- Read backwards: a finite result has finite operands, and what is not negative and not above a finite number is finite. So what a finite sum says of its
-- operands needs no range of theirs.
use mathlib.Core.Path.{◌≡◌}
use mathlib.Core.Bool.{true, false, true≢false}
use lib.Dec.{T}
use lib.Ieee.{Float, nan, inf, fin, Format, add, sub, mul, neg, lt, le, eq}
use lib.Ieee.Scale.{finite}
use Rattle.rounding.specs.Value.{negative}

pub finite-add : (f : Format) (x y : Float) → T (finite (add f x y)) → T (finite x) × T (finite y)
unfolding add
finite-add f nan y t = absurd t
finite-add f (inf s) nan t = absurd t
finite-add f (inf true) (inf true) t = absurd t
finite-add f (inf true) (inf false) t = absurd t
finite-add f (inf false) (inf true) t = absurd t
finite-add f (inf false) (inf false) t = absurd t
finite-add f (inf s) (fin u n d) t = absurd t
finite-add f (fin s m e) nan t = absurd t
finite-add f (fin s m e) (inf u) t = absurd t
finite-add f (fin s m e) (fin u n d) t = (tt, tt)

pub finite-neg : (x : Float) → T (finite (neg x)) → T (finite x)
unfolding neg
finite-neg nan t = t
finite-neg (inf s) t = t
finite-neg (fin s m e) t = tt

pub finite-sub : (f : Format) (x y : Float) → T (finite (sub f x y)) → T (finite x) × T (finite y)
unfolding sub
finite-sub f x y t = let r = finite-add f x (neg y) t in (r.0, finite-neg y r.1)

pub finite-square : (f : Format) (x : Float) → T (finite (mul f x x)) → T (finite x)
unfolding mul
finite-square f nan t = t
finite-square f (inf s) t = t
finite-square f (fin s m e) t = tt

-- ---- below a finite number
pub finite-below : (z w : Float) → negative z ≡ false → T (finite w) → T (le z w) → T (finite z)
unfolding le lt eq negative
finite-below nan w s q t = absurd t
finite-below (inf true) w s q t = absurd (true≢false s)
finite-below (inf false) nan s q t = absurd q
finite-below (inf false) (inf v) s q t = absurd q
finite-below (inf false) (fin v n d) s q t = absurd t
finite-below (fin v n d) w s q t = tt
