-- A loop over two lists of one length at once: where it stands, and its end.
use Prim.Native.Nat.{◌<◌}
use native.Mathlib.Omega.{arith}
use mathlib.Core.Path.{◌≡◌}
use mathlib.Core.List.{List}
use denote.Ref.{Bor}
use lib.ListN.{length, get_or}
use Rattle.std.specs.declared.iter.Zip.{Zip}
use Rattle.std.specs.declared.slice.Iter.{Iter}
use Rattle.std.specs.Prelude.{Option, Some, None}
use Rattle.std.specs.Iterator.{Yields}
use Rattle.std.specs.Iterator.Adapters.{zip_first, zip_second}
use Rattle.std.specs.Slice.Iter.{iter_rest}
use Rattle.std.proofs.iter.Yields.{fronts}
use Rattle.std.proofs.lemmas.Iterator.{zips}
use Rattle.std.proofs.lemmas.Slice.Zip.{zip_turn, zip_end}

module _ {A B : Type 0} (ks : List A) (vs : List B) (xs : List (Bor A × Bor B)) (s t u : Zip (Iter A) (Iter B)) (r : Option (Bor A × Bor B))
    (yielded : Yields (zips fronts fronts) s xs t) where
  -- this turn's pair is that of the place that the count of the turns before it gives
  pub pair_here : (p : Bor A × Bor B) → r ≡ Some p → zips fronts fronts t r u → iter_rest (zip_first s) ≡ ks → iter_rest (zip_second s) ≡ vs
      → (length xs < length ks)
      × (length xs < length vs)
      × ((d : A) → p.0.now ≡ get_or ks (length xs) d)
      × ((d : B) → p.1.now ≡ get_or vs (length xs) d)
  pair_here p is next first second = zip_turn ks vs xs s t u r first second yielded p is next

  -- the turns are as many as the pairs
  pub all_passed : length vs ≡ length ks → r ≡ None → zips fronts fronts t r u
      → iter_rest (zip_first s) ≡ ks → iter_rest (zip_second s) ≡ vs
      → length xs ≡ length ks
  all_passed even is next first second = omega (arith, zip_end ks vs xs s t u r first second yielded is next)
