-- No step of the layout changes how many circles there are.
use Prim.Native.Nat.{ℕ, zero, suc}
use mathlib.Core.Path.{◌≡◌, refl, ◌∙◌}
use mathlib.Core.Bool.{Bool}
use mathlib.Core.List.{List}
use lib.Dec.{ltb}
use lib.Ieee.{Float}
use lib.ListN.{length}
use Rattle.shapes.specs.declared.circle.Circle.{Circle}
use Rattle.shapes.specs.declared.rectangle.Rectangle.{Rectangle}
use Rattle.scope.specs.Runs.{in_turn}
use Rattle.scope.specs.Links.{Region}
use Rattle.scope.specs.Gauge.{rotate_cluster, in_cluster, gauged}
use Rattle.scope.specs.Padding.{shifted, pack_clusters}
use Rattle.scope.specs.Layout.{arranged}
use Rattle.laws.proofs.Runs.{length-tab, either-length}
use Rattle.promises.proofs.gauge.Cluster.{rotate_length}
use Rattle.promises.proofs.offset.AfterOffset.{offset-length}
use Rattle.promises.proofs.packing.Centred.{centred-length}

turns_length : (count : ℕ) (member : ℕ → ℕ → Bool) (cs : List Circle) → length (in_turn count (λ a. rotate_cluster (member a)) cs) ≡ length cs
unfolding in_turn
turns_length zero member cs = refl
turns_length (suc a) member cs = rotate_length (member a) (in_turn a (λ b. rotate_cluster (member b)) cs) ∙ turns_length a member cs

pub gauged-length : (count : ℕ) (numbers : List ℕ) (cs : List Circle) → length (gauged count numbers cs) ≡ length cs
unfolding gauged
gauged-length count numbers cs = turns_length count (in_cluster numbers) cs

packed-length : (proportion : Float) (numbers : List ℕ) (rects : List Rectangle) (pad : Float) (cs : List Circle)
    → length (pack_clusters proportion numbers rects pad cs) ≡ length cs
unfolding pack_clusters shifted
packed-length proportion numbers rects pad cs = either-length (ltb (length rects) 2) (length cs) cs _ refl (length-tab (length cs) _)

pub arranged-length : (proportion : Float) (cs : List Circle) (factor : Float) (rs : List Region) → length (arranged proportion cs factor rs).circles ≡ length cs
unfolding arranged
arranged-length proportion cs factor rs = centred-length _ ∙ packed-length _ _ _ _ _ ∙ gauged-length _ _ _ ∙ offset-length cs rs
