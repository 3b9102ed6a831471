-- The lowest bytes of a number and the number of bytes undo each other, at any width.
use Prim.Native.Nat.{ℕ, zero, suc, ◌+◌, ◌*◌, ◌/◌, ◌%◌, ◌^◌, ◌≤◌, ◌<◌}
use native.Mathlib.Nat.{pow-suc}
use native.Mathlib.Omega.{arith}
use mathlib.Core.Path.{◌≡◌, refl, ap}
use mathlib.Core.List.{List, [], ◌∷◌}
use lib.ListN.{length, take, drop, length-take, length-drop}
use lib.Seq.{length-take-le, get_or-take, get_or-drop}
use Rattle.scope.specs.CardFile.{little_endian}
use Rattle.scope.specs.Saving.{low_bytes}
use Rattle.laws.specs.Bytes.{AreBytes}

pub length-low : (w n : ℕ) → length (low_bytes w n) ≡ w
unfolding low_bytes
length-low zero n = refl
length-low (suc w) n = ap suc (length-low w (n / 256))

-- written, then read
pub low_read : (w n : ℕ) → n < 256 ^ w → little_endian (low_bytes w n) ≡ n
unfolding low_bytes little_endian
low_read zero n h = omega arith
low_read (suc w) n h = rw (low_read w (n / 256) (omega arith)) (omega arith)

-- read, then written
pub low-written : (w : ℕ) (bs : List ℕ) → length bs ≡ w → AreBytes bs → low_bytes w (little_endian bs) ≡ bs
unfolding low_bytes little_endian
low-written zero [] l small = refl
low-written zero (b ∷ bs) l small = absurd (omega arith)
low-written (suc w) [] l small = absurd (omega arith)
low-written (suc w) (b ∷ bs) l small =
    let byte = small 0 (omega arith) in
    let first : (b + 256 * little_endian bs) % 256 ≡ b = omega arith in
    let others : (b + 256 * little_endian bs) / 256 ≡ little_endian bs = omega arith in
    rw (first, others) (ap (b ∷◌) (low-written w bs (omega arith) (λ i h. small (suc i) (omega arith))))

-- ---- bytes of a list, from a place on

value-below : (bs : List ℕ) → AreBytes bs → little_endian bs < 256 ^ length bs
unfolding little_endian
value-below [] small = omega arith
value-below (b ∷ bs) small =
    rw (pow-suc 256 (length bs)) (omega (arith, small 0 (omega arith), value-below bs (λ i h. small (suc i) (omega arith))))

pub bytes_behind : (at : ℕ) (bs : List ℕ) → AreBytes bs → AreBytes (drop at bs)
bytes_behind at bs small i h = rw get_or-drop (small (at + i) (omega (arith, length-drop at bs)))

pub bytes-before : (w : ℕ) (bs : List ℕ) → AreBytes bs → AreBytes (take w bs)
bytes-before w bs small i h = let inside = rw length-take at h in rw (get_or-take w bs i 0 (omega arith)) (small i (omega arith))

module _ (w at : ℕ) (bs : List ℕ) (long : at + w ≤ length bs) (small : AreBytes bs) where
  part_length : length (take w (drop at bs)) ≡ w
  part_length = length-take-le w (drop at bs) (omega (arith, length-drop at bs))

  pub part_written : low_bytes w (little_endian (take w (drop at bs))) ≡ take w (drop at bs)
  part_written = low-written w _ part_length (bytes-before w _ (bytes_behind at bs small))

  pub part_below : little_endian (take w (drop at bs)) < 256 ^ w
  part_below = rw part_length at (value-below (take w (drop at bs)) (bytes-before w _ (bytes_behind at bs small)))
