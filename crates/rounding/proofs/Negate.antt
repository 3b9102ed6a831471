-- Negation is exact.
use mathlib.Core.Path.{◌≡◌, refl}
use Prim.Native.Nat.{zero, suc}
use mathlib.Core.Bool.{true, false}
use lib.Ieee.{Float, nan, inf, fin, Format, neg, fits}
use Rattle.algebra.specs.Integer.{opp}
use Rattle.rounding.specs.Value.{mag, val, Fin}

pub neg-mag : (f : Format) (x : Float) → mag f (neg x) ≡ mag f x
unfolding mag neg
neg-mag f nan = refl
neg-mag f (inf s) = refl
neg-mag f (fin s m e) = refl

pub neg-val : (f : Format) (x : Float) → val f (neg x) ≡ opp (val f x)
unfolding val neg
neg-val f nan = refl
neg-val f (inf true) = refl
neg-val f (inf false) = refl
neg-val f (fin true m e) = refl
neg-val f (fin false m e) = refl

pub neg-fin : (f : Format) (x : Float) → Fin f x → Fin f (neg x)
unfolding Fin neg fits
neg-fin f nan h = h
neg-fin f (inf s) h = h
neg-fin f (fin s zero e) h = h
neg-fin f (fin s (suc m) e) h = h
