-- The regions of two lists: region k is mask k with area k.
use Prim.Native.Nat.{ℕ, zero, suc, ◌<◌}
use native.Mathlib.Omega.{arith}
use mathlib.Core.Path.{◌≡◌, refl}
use mathlib.Core.List.{List, [], ◌∷◌}
use lib.ListN.{length, get_or}
use lib.Ieee.{Float}
use Rattle.scope.specs.Links.{Region, regions}

pub length-regions : (masks : List ℕ) (areas : List Float) → length masks ≡ length areas → length (regions masks areas) ≡ length masks
unfolding regions
length-regions [] areas e = refl
length-regions (m ∷ masks) [] e = absurd (omega arith)
length-regions (m ∷ masks) (a ∷ areas) e = let rest : length (regions masks areas) ≡ length masks = length-regions masks areas (omega arith) in omega arith

pub get_or_regions : (masks : List ℕ) (areas : List Float) (k m : ℕ) (a : Float) (d : Region) → k < length masks → k < length areas
    → get_or (regions masks areas) k d ≡ record { mask = get_or masks k m; area = get_or areas k a }
unfolding regions
get_or_regions [] areas k m a d h g = absurd (omega arith)
get_or_regions (b ∷ masks) [] k m a d h g = absurd (omega arith)
get_or_regions (b ∷ masks) (c ∷ areas) zero m a d h g = refl
get_or_regions (b ∷ masks) (c ∷ areas) (suc k) m a d h g = get_or_regions masks areas k m a d (omega arith) (omega arith)
