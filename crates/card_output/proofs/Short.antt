-- An output that is not refused has room for what is to be written.
use Prim.Native.Nat.{ℕ, ◌≤◌}
use native.Mathlib.Omega.{arith}
use mathlib.Core.Path.{◌≡◌, refl}
use mathlib.Core.Bool.{Bool, true, false, cond}
use lib.Dec.{ltb}
use borrow.Author.Tests.{ltb-false}

-- 15 where the test holds, and 0 elsewhere
abbrev pub fifteen_if : Bool → ℕ
fifteen_if b = cond b 15 0

passes : (b : Bool) → fifteen_if b ≡ 0 → b ≡ false
passes true e = let no : ◌≡◌ {A = ℕ} 15 0 = e in absurd (omega arith)
passes false e = refl

pub not_short : (room size : ℕ) → fifteen_if (ltb room size) ≡ 0 → size ≤ room
not_short room size e = ltb-false room size (passes (ltb room size) e)
