-- Numbers to bytes: the two of a number below 65,536, and a word's eight as four times two.
use Prim.Native.Nat.{ℕ, suc, ◌+◌, ◌*◌, ◌<◌, ◌/◌, ◌%◌}
use native.Mathlib.Omega.{arith}
use native.Mathlib.Nat.{mul-add-mod_self_left}
use mathlib.Core.Path.{◌≡◌, ap}
use mathlib.Core.List.{[], ◌∷◌, ◌++◌}
use Rattle.scope.specs.Saving.{low_bytes}

pub two_bytes : (n : ℕ) → n < 65536 → n % 256 ∷ n / 256 ∷ [] ≡ low_bytes 2 n
unfolding low_bytes
two_bytes n h = let small : n / 256 ≡ n / 256 % 256 = omega arith in ap (λ (b : ℕ). n % 256 ∷ b ∷ []) small

-- the two lowest, then the rest
two_lowest : (w n : ℕ) → low_bytes 2 (n % 65536) ++ low_bytes w (n / 65536) ≡ low_bytes (suc (suc w)) n
unfolding low_bytes
two_lowest w n =
    let first : n % 65536 % 256 ≡ n % 256 = omega arith in
    let above : n / 256 ≡ 256 * (n / 65536) + n % 65536 / 256 = omega arith in
    let second : n % 65536 / 256 % 256 ≡ n / 256 % 256 = rw (above, mul-add-mod_self_left 256 (n / 65536) (n % 65536 / 256)) in
    let rest : n / 65536 ≡ n / 256 / 256 = omega arith in
    rw (first, second, rest)

pub eight-bytes : (n : ℕ)
    → low_bytes 2 (n % 65536) ++ (low_bytes 2 (n / 65536 % 65536) ++ (low_bytes 2 (n / 4294967296 % 65536) ++ low_bytes 2 (n / 281474976710656))) ≡ low_bytes 8 n
eight-bytes n =
    let half : n / 65536 / 65536 ≡ n / 4294967296 = omega arith in
    let highest : n / 4294967296 / 65536 ≡ n / 281474976710656 = omega arith in
    rw (← two_lowest 6 n, ← two_lowest 4 (n / 65536), half, ← two_lowest 2 (n / 4294967296), highest)
