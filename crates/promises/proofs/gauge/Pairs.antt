-- Two circles carried by one motion keep their distance, a child inside its parent stays inside, and centres that were near stay near, in the sense of document 01.
use Prim.Native.Nat.{ℕ, ◌+◌, ◌*◌, ◌≤◌}
use native.Mathlib.Omega.{arith}
use lib.Dec.{lit≤}
use Rattle.algebra.specs.Integer.{Z, nat, Within, Near, ◌⊕◌, ◌⊖◌, ◌⊗◌, ◌≼◌}
use Rattle.rounding.specs.Scale.{pow2}
use Rattle.shapes.specs.declared.circle.Circle.{Circle}
use Rattle.scope.specs.Promises.{units, square, squared_distance, Exceeds≤, Alike, ReachesWithin}
use Rattle.promises.proofs.gauge.Isometry.{flip, turn_keeps_distance, turn_grows_little}
use Rattle.promises.proofs.offset.Reach.{grown-le, reach_grows_little, part_le}
use Rattle.promises.proofs.gauge.Axis.{difference_near}
use Rattle.promises.proofs.numbers.Magnitude.{one-pos}
use Rattle.promises.proofs.gauge.Carried.{Motion, share_x, share_y, Carried}

-- ---- each circle within e ≤ 2^-20: their vector is within 2^-19 of the turned one
turn_fine : 8 * (pow2 11 * pow2 60) ≤ pow2 60 * pow2 60
unfolding pow2
turn_fine = lit≤ tt

turn-wide : 12 * (pow2 11 * pow2 60 * pow2 84) ≤ pow2 60 * pow2 60 * pow2 41
unfolding pow2
turn-wide = lit≤ tt

within_t : 8 * pow2 41 ≤ pow2 44
unfolding pow2
within_t = lit≤ tt

within_half_t : 4 * pow2 41 ≤ pow2 43
unfolding pow2
within_half_t = lit≤ tt

room_for_contains : pow2 30 + pow2 43 ≤ pow2 44
unfolding pow2
room_for_contains = lit≤ tt

-- the vector from one centre to another
abbrev pub apart_x : Circle → Circle → Z
apart_x a b = units a.center.x ⊖ units b.center.x

abbrev pub apart_y : Circle → Circle → Z
apart_y a b = units a.center.y ⊖ units b.center.y

module _ {g : Motion} {e b d : ℕ} {from to from' to' : Circle} (small : 2 * e ≤ pow2 41) (wx : Within (apart_x from from') (pow2 84)) (wy : Within (apart_y from from') (pow2 84))
    (h : Carried g e b from to) (k : Carried g e d from' to') where
  along : Near (apart_x to to' ⊗ nat (pow2 60)) (flip g.mirror_x (g.cosine ⊗ apart_x from from' ⊖ g.sine ⊗ apart_y from from')) (pow2 41 * pow2 60)
  along =
      difference_near g.mirror_x (share_x g from) (share_x g from') (g.cosine ⊗ apart_x from from' ⊖ g.sine ⊗ apart_y from from') g.shift_x (units to.center.x) (units to'.center.x) (pow2 60) e (pow2 41)
      (omega arith) small h.x.near k.x.near

  across : Near (apart_y to to' ⊗ nat (pow2 60)) (flip g.mirror_y (g.sine ⊗ apart_x from from' ⊕ g.cosine ⊗ apart_y from from')) (pow2 41 * pow2 60)
  across =
      difference_near g.mirror_y (share_y g from) (share_y g from') (g.sine ⊗ apart_x from from' ⊕ g.cosine ⊗ apart_y from from') g.shift_y (units to.center.y) (units to'.center.y) (pow2 60) e (pow2 41)
      (omega arith) small h.y.near k.y.near

  -- demand 3's distance
  pub distance-kept : Alike (pow2 44) (squared_distance from from') (squared_distance to to')
  distance-kept =
      turn_keeps_distance (pow2 60) (pow2 41) (pow2 11 * pow2 60) (pow2 84) one-pos turn_fine turn-wide g.mirror_x g.mirror_y g.cosine g.sine
      (apart_x from from') (apart_y from from') (apart_x to to') (apart_y to to') g.unit wx wy along across (pow2 44) within_t

  pub distance_grows_little : Exceeds≤ (pow2 43) (squared_distance to to') (squared_distance from from')
  distance_grows_little =
      turn_grows_little (pow2 60) (pow2 41) (pow2 11 * pow2 60) (pow2 84) one-pos turn_fine turn-wide g.mirror_x g.mirror_y g.cosine g.sine
      (apart_x from from') (apart_y from from') (apart_x to to') (apart_y to to') g.unit wx wy along across (pow2 43) within_half_t

  -- demand 3's reach, from what `contains` leaves
  pub reach-kept : {R r : Z} → ReachesWithin (pow2 30) R r (squared_distance from from') → ReachesWithin (pow2 44) R r (squared_distance to to')
  reach-kept {R} {r} a = reach_grows_little R r (squared_distance from from') (squared_distance to to') (pow2 30) (pow2 43) (pow2 44) room_for_contains a distance_grows_little

  -- how far apart they end on each axis
  pub spread_kept : (s : ℕ) → squared_distance from from' ≼ nat (s * s) → Within (apart_x to to') (s + pow2 43) × Within (apart_y to to') (s + pow2 43)
  spread_kept s l =
      let X = apart_x to to' in
      let Y = apart_y to to' in
      let after = grown-le (squared_distance from from') (squared_distance to to') s (pow2 43) l distance_grows_little in
      (part_le X Y (s + pow2 43) after, part_le Y X (s + pow2 43) (swap (square X) (square Y) ((s + pow2 43) * (s + pow2 43)) after))
    where
      swap : (A B : Z) (n : ℕ) → A ⊕ B ≼ nat n → B ⊕ A ≼ nat n
      swap A B n h = omega arith
