-- Whole numbers with a sign, as formal differences p - n of two natural numbers.
-- Every operation and every order is an `abbrev`, so `omega arith` reads a statement over them as it stands.
use Rattle.std.specs.Prelude.{ℕ, ◌+◌, ◌*◌, ◌≤◌, ◌<◌, ◌≡◌}

infixl 65 ◌⊕◌
infixl 65 ◌⊖◌
infixl 70 ◌⊗◌
infix 50 ◌≼◌
infix 50 ◌≺◌
infix 50 ◌≈◌
pub record Z : Type 0 where
  pub p : ℕ
  pub n : ℕ

abbrev pub nat : ℕ → Z
nat k = record { p = k; n = 0 }

abbrev pub opp : Z → Z
opp a = record { p = a.n; n = a.p }

abbrev pub ◌⊕◌ : Z → Z → Z
a ⊕ b = record { p = a.p + b.p; n = a.n + b.n }

abbrev pub ◌⊖◌ : Z → Z → Z
a ⊖ b = record { p = a.p + b.n; n = a.n + b.p }

abbrev pub ◌⊗◌ : Z → Z → Z
a ⊗ b = record { p = a.p * b.p + a.n * b.n; n = a.p * b.n + a.n * b.p }

abbrev pub ◌≼◌ : Z → Z → Type 0
a ≼ b = a.p + b.n ≤ b.p + a.n

abbrev pub ◌≺◌ : Z → Z → Type 0
a ≺ b = a.p + b.n < b.p + a.n

abbrev pub ◌≈◌ : Z → Z → Type 0
a ≈ b = a.p + b.n ≡ b.p + a.n

-- |a| ≤ e, and |a - b| ≤ e. They are records, so that a lemma's numbers are found from its premises; `omega` reads and proves them by their fields.
pub record Within (a : Z) (e : ℕ) : Type 0 where
  pub above : a.p ≤ a.n + e
  pub below : a.n ≤ a.p + e

pub record Near (a b : Z) (e : ℕ) : Type 0 where
  pub above : a.p + b.n ≤ a.n + b.p + e
  pub below : a.n + b.p ≤ a.p + b.n + e
