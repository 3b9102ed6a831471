-- `root::hypot::rounded` meets its contract: a shift down and up keeps the number exactly where no digit is lost.
use mathlib.Core.Path.{◌≡◌}
use mathlib.Core.Logic.{inl, inr}
use Prim.Native.Nat.{ℕ, ◌*◌, ◌/◌, ◌%◌, ◌^◌, ◌≤◌, ◌<◌}
use native.Mathlib.Nat.{div-mul-le_self, mod-eq_of_lt}
use native.Mathlib.Omega.{arith}
use Rattle.root.proofs.hypot.rounded.Goals as goal

-- no digit is lost above, and what is left is no more than there was
shifted : (b k : ℕ) → b < 2 ^ 54 → (b / 2 ^ k * 2 ^ k % 2 ^ 64 ≡ b / 2 ^ k * 2 ^ k) × (b / 2 ^ k * 2 ^ k ≤ b)
shifted b k h = let l = div-mul-le_self b (2 ^ k) in (mod-eq_of_lt (omega (arith, l)), l)

pub returns-then-left-ne0 : goal.returns-then-left-ne0
returns-then-left-ne0 c = inr (λ t. let z = t.0 in absurd (omega (arith, z, c.if-left-ne0.true)), omega arith)

pub returns-then-root-ne1 : goal.returns-then-root-ne1
returns-then-root-ne1 c = inr (λ t. let z = t.1 in absurd (omega (arith, z, c.if-root-ne1.true)), omega arith)

pub returns-then-b-k : goal.returns-then-b-k
returns-then-b-k c =
    let s = shifted c.args.b c.args.k c.requires.1 in
    inr (λ t. let z = t.2 in absurd (omega (arith, s.0, s.1, z, c.if-b-k.true)), omega arith)

pub returns : goal.returns
returns c =
    let s = shifted c.args.b c.args.k c.requires.1 in
    inl ((omega (arith, c.if-left-ne0.false), omega (arith, c.if-root-ne1.false), omega (arith, s.0, s.1, c.if-b-k.false)), omega arith)
