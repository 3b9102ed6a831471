-- Masks of one bit: what a union of masks that is one says of each mask, and that it has no bit in common with the number before it.
use Prim.Native.Nat.{ℕ, zero, suc, ◌+◌, ◌-◌, ◌*◌, ◌/◌, ◌%◌, ◌^◌, ◌≤◌, ◌<◌, max}
use native.Mathlib.Omega.{arith}
use native.Mathlib.Decide.{dec_le}
use native.Mathlib.Nat.{mod_self, pow-succ'}
use mathlib.Core.Path.{◌≡◌, sym, ◌∙◌}
use mathlib.Core.Logic.{◌⊎◌, inl, inr, ⊎_elim}
use mathlib.Core.Bool.{Bool}
use lib.Bits.{bit_and, bit_or, or_step, or_add_and, and_le_r, and_mask}
use Rattle.algebra.proofs.Size.{either}
use Rattle.scope.specs.Runs.{gather}
use Rattle.laws.proofs.Cases.{tested}
use Rattle.laws.proofs.Runs.{gather-takes, gather-leaves}

-- ---- unions

-- no bit but q
abbrev pub AtMost : ℕ → ℕ → Type 0
AtMost q a = (a ≡ 0) ⊎ (a ≡ 2 ^ q)

at_least_left : (a b : ℕ) → a ≤ bit_or a b
at_least_left a b = first (bit_or a b) (bit_and a b) (or_add_and a b) (and_le_r a b)
  where
    first : (u v : ℕ) → u + v ≡ a + b → v ≤ b → a ≤ u
    first u v e l = omega arith

empty_union : (a b : ℕ) → bit_or a b ≡ 0 → a ≡ 0
empty_union a b e = let l : a ≤ 0 = rw e at (at_least_left a b) in omega arith

lone_union : (q a b : ℕ) → bit_or a b ≡ 2 ^ q → AtMost q a
lone_union zero a b e = let l : a ≤ 1 = rw e at (at_least_left a b) in elim (either a 1) [ inl h ↦ inl (omega arith) | inr h ↦ inr (omega arith) ]
lone_union (suc q) a b e = halves (bit_or (a / 2) (b / 2)) (λ d. lone_union q (a / 2) (b / 2) d) (sym (or_step a b) ∙ e ∙ pow-succ' 2 q)
  where
    even : (u m n : ℕ) → u * 2 + max m n ≡ 2 * 2 ^ q → m < 2 → n < 2 → (u ≡ 2 ^ q) × (m ≡ 0)
    even u m n e l k = (omega arith, omega arith)

    halves : (u : ℕ) → (u ≡ 2 ^ q → AtMost q (a / 2)) → u * 2 + max (a % 2) (b % 2) ≡ 2 * 2 ^ q → AtMost (suc q) a
    halves u half h =
        let r = even u (a % 2) (b % 2) h (omega arith) (omega arith) in
        let last : a % 2 ≡ 0 = r.1 in
        ⊎_elim {A = a / 2 ≡ 0} {B = a / 2 ≡ 2 ^ q} (λ z. inl (omega arith)) (λ z. inr (rw (pow-succ' 2 q) (omega arith))) (half r.0)

-- a union of masks one after another: if it has one bit in the end, it had no other on the way
module _ {B : Type 0} (p : ℕ → Bool) (mask : B → ℕ) (f : ℕ → B) where
  abbrev joined : ℕ → ℕ
  joined n = gather (λ m r. bit_or m (mask r)) 0 p n f

  before : (q n : ℕ) → AtMost q (joined (suc n)) → AtMost q (joined n)
  before q n h = elim (tested (p n)) [
    | yes t ↦
        let e = gather-takes (λ m r. bit_or m (mask r)) 0 p n f t in
        ⊎_elim (λ z. inl (empty_union (joined n) (mask (f n)) (sym e ∙ z))) (λ z. lone_union q (joined n) (mask (f n)) (sym e ∙ z)) h
    | no t ↦ rw (gather-leaves (λ m r. bit_or m (mask r)) 0 p n f t) at h
  ]

  pub never_more : (q n k : ℕ) → k ≤ n → AtMost q (joined n) → AtMost q (joined k)
  never_more q zero k l h = let e : k ≡ 0 = omega arith in rw e h
  never_more q (suc n) k l h = elim (dec_le k n) [
    | yes g ↦ never_more q n k g (before q n h)
    | no g ↦ let e : k ≡ suc n = omega arith in rw e h
  ]

-- ---- one bit

pub nothing_in_common : (q : ℕ) → bit_and (2 ^ q) (2 ^ q - 1) ≡ 0
nothing_in_common q = and_mask (2 ^ q) q ∙ mod_self (2 ^ q)
